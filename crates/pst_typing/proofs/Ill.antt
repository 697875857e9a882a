-- One step of the search for the first item that is not well typed.
use Rattle.std.proofs.Common.{◌≡◌, ℕ, ◌+◌, ◌<◌, true, false, List, ◌∷◌, length, take, drop, reverse, get_or, Some, refl, sym, ap, ◌∙◌, arith}
use Rattle.std.proofs.lemmas.Grind.{common_steps}
use Rattle.pst_model.specs.declared.model.Item.{Item}
use Rattle.pst_typing.specs.Items.{well_item, first_ill}
use Rattle.pst_typing.proofs.Steps.{split_at}
use Rattle.pst_value.specs.declared.ty.Ty.{Ty}

before : (later : List Item) (at : ℕ) (i : Item) → at < length later → i ≡ get_or later at i → reverse (take (at + 1) later) ≡ i ∷ reverse (take at later)
before later at i h e = grind (arith, common_steps)

pub ill_step : (items later : List Item) (S : Ty) (at : ℕ) (i : Item) → at < length later → i ≡ get_or later at i → well_item items S (reverse (take at later)) i ≡ true
    → first_ill items S (at + 1 + 1) (reverse (take (at + 1) later)) (drop (at + 1) later) ≡ first_ill items S (at + 1) (reverse (take at later)) (drop at later)
ill_step items later S at i h e w =
    ap (λ xs. first_ill items S (at + 1 + 1) xs (drop (at + 1) later)) (before later at i h e)
    ∙ sym (ap (first_ill items S (at + 1) (reverse (take at later))) (split_at later at i h e) ∙ rw w refl)

pub ill_here : (items later : List Item) (S : Ty) (at : ℕ) (i : Item) → at < length later → i ≡ get_or later at i → well_item items S (reverse (take at later)) i ≡ false
    → first_ill items S (at + 1) (reverse (take at later)) (drop at later) ≡ Some (at + 1)
ill_here items later S at i h e w = ap (first_ill items S (at + 1) (reverse (take at later))) (split_at later at i h e) ∙ rw w refl
