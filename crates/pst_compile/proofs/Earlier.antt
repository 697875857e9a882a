-- Loops over the items of a model, from the first to the last.
use Rattle.std.proofs.Common.{◌≡◌, ℕ, ◌+◌, ◌<◌, List, [], ◌∷◌, length, take, reverse, get_or, sym, ap, ◌∙◌, add-one}
use Rattle.std.proofs.Math.Seq.{take-suc}
use Rattle.std.proofs.lemmas.List.{reverse-append}
use Rattle.pst_model.specs.declared.model.Item.{Item}

-- those before the next place, the last first
pub earlier_next : (items : List Item) (i : ℕ) (x : Item) → i < length items → x ≡ get_or items i x → reverse (take (i + 1) items) ≡ x ∷ reverse (take i items)
earlier_next items i x h is =
    ap (λ n. reverse (take n items)) (add-one i)
    ∙ ap reverse (take-suc items i x h)
    ∙ reverse-append (take i items) (get_or items i x ∷ [])
    ∙ ap (λ y. y ∷ reverse (take i items)) (sym is)
