-- What the search for the first ill item says of a whole model.
use Rattle.std.proofs.Common.{◌≡◌, ℕ, List, [], ◌∷◌, ◌++◌, reverse, Option, Some, None, sym, ap, ◌∙◌, subst, append_assoc}
use Rattle.std.proofs.lemmas.List.{append-nil, reverse-append}
use Rattle.pst_model.specs.Parts.{state_of}
use Rattle.pst_model.specs.declared.model.Item.{Item}
use Rattle.pst_model.specs.declared.model.Source.{Source}
use Rattle.pst_model.specs.WellTyped.{WellItem, WellItems, WellModel}
use Rattle.pst_typing.specs.Items.{first_ill}
use Rattle.pst_typing.specs.Least.{IsWhole, IsIll, Judged}
use Rattle.pst_typing.proofs.WellItems.{all_well, least_ill}
use Rattle.pst_value.specs.declared.ty.Ty.{Ty}

pub judged : (source : Source) (S : Ty) (number : Option ℕ) → IsWhole source → state_of source.items ≡ Some S → number ≡ first_ill source.items S 1 [] source.items → Judged source number
judged source S None whole is e =
    record { state = S; state_is = is; opening = whole.opening; opening_is = whole.opening_is; calls = whole.calls; calls_is = whole.calls_is; well = all_well source.items S (sym e) }
judged source S (Some number) whole is e = record { state = S; state_is = is; least = least_ill source.items S number (sym e) }

well_at : (items : List Item) (S : Ty) (earlier before : List Item) (here : Item) (after : List Item) → WellItems items S earlier (before ++ here ∷ after) → WellItem items S (reverse before ++ earlier) here
well_at items S earlier [] here after w = w.0
well_at items S earlier (i ∷ before) here after w =
    let P : List Item → Type 0 = λ xs. WellItem items S xs here in
    let e : reverse before ++ (i ∷ earlier) ≡ reverse (i ∷ before) ++ earlier = sym (ap (λ xs. xs ++ earlier) (reverse-append (i ∷ []) before) ∙ append_assoc (reverse before) (i ∷ []) earlier) in
    subst P e (well_at items S (i ∷ earlier) before here after w.1)

-- a model with an ill item is not well typed
pub ill_not_well : (source : Source) (number : ℕ) → IsIll source number → WellModel source → ⊥
ill_not_well source number ill well =
    let l = ill.least in
    let same : well.state ≡ ill.state = one _ _ (sym well.state_is ∙ ill.state_is) in
    let P : Ty → Type 0 = λ S. WellItems source.items S [] source.items in
    let Q : List Item → Type 0 = λ xs. WellItems source.items ill.state [] xs in
    let R : List Item → Type 0 = λ xs. WellItem source.items ill.state xs l.here in
    l.ill (subst R (append-nil (reverse l.before)) (well_at source.items ill.state [] l.before l.here l.after (subst Q l.parts (subst P same well.well))))
  where
    one : (a b : Ty) → Some a ≡ Some b → a ≡ b
    one a b e = cc
