-- A model has one least item that is not well typed, at most.
use Rattle.std.proofs.Common.{◌≡◌, ◌+◌, ℕ, suc, List, [], ◌∷◌, ◌++◌, length, reverse, Some, refl, sym, ap, ◌∙◌, subst, append_assoc}
use Rattle.std.proofs.lemmas.List.{append-nil, reverse-append}
use Rattle.pst_model.specs.WellTyped.{WellItem, WellItems}
use Rattle.pst_model.specs.declared.model.Item.{Item}
use Rattle.pst_model.specs.declared.model.Source.{Source}
use Rattle.pst_typing.specs.Least.{IsLeastIll, IsIll}
use Rattle.pst_value.specs.declared.ty.Ty.{Ty}

-- an item that is not well typed stands behind items that are
record Splits (all : List Item) (S : Ty) (earlier before : List Item) (here : Item) (after items : List Item) : Type 0 where
  parts : items ≡ before ++ here ∷ after
  well : WellItems all S earlier before
  ill : WellItem all S (reverse before ++ earlier) here → ⊥

head_is : (i j : Item) (xs ys : List Item) → i ∷ xs ≡ j ∷ ys → i ≡ j
head_is i j xs ys e = cc

tail_is : (i j : Item) (xs ys : List Item) → i ∷ xs ≡ j ∷ ys → xs ≡ ys
tail_is i j xs ys e = cc

-- one item further
moved : (before : List Item) (i : Item) (earlier : List Item) → reverse before ++ (i ∷ earlier) ≡ reverse (i ∷ before) ++ earlier
moved before i earlier = sym (ap (λ xs. xs ++ earlier) (reverse-append (i ∷ []) before) ∙ append_assoc (reverse before) (i ∷ []) earlier)

further : (all : List Item) (S : Ty) (earlier : List Item) (i : Item) (before : List Item) (here : Item) (after items : List Item)
    → items ≡ before ++ here ∷ after → WellItems all S (i ∷ earlier) before → (WellItem all S (reverse (i ∷ before) ++ earlier) here → ⊥)
    → Splits all S (i ∷ earlier) before here after items
further all S earlier i before here after items e w ill = record {
  parts = e;
  well = w;
  ill = λ h. ill (subst (λ xs. WellItem all S xs here) (moved before i earlier) h);
}

same_place : (all : List Item) (S : Ty) (earlier before : List Item) (here : Item) (after before' : List Item) (here' : Item) (after' items : List Item)
    → Splits all S earlier before here after items → Splits all S earlier before' here' after' items → length before ≡ length before'
same_place all S earlier [] here after [] here' after' items p q = refl
same_place all S earlier [] here after (j ∷ before') here' after' items p q =
    let e : here ≡ j = head_is here j after (before' ++ here' ∷ after') (sym p.parts ∙ q.parts) in
    absurd (p.ill (subst (WellItem all S earlier) (sym e) q.well.0))
same_place all S earlier (i ∷ before) here after [] here' after' items p q =
    let e : here' ≡ i = head_is here' i after' (before ++ here ∷ after) (sym q.parts ∙ p.parts) in
    absurd (q.ill (subst (WellItem all S earlier) (sym e) p.well.0))
same_place all S earlier (i ∷ before) here after (j ∷ before') here' after' items p q =
    let f : i ∷ (before ++ here ∷ after) ≡ j ∷ (before' ++ here' ∷ after') = sym p.parts ∙ q.parts in
    let e : j ≡ i = sym (head_is i j (before ++ here ∷ after) (before' ++ here' ∷ after') f) in
    let w : WellItems all S (i ∷ earlier) before' = subst (λ k. WellItems all S (k ∷ earlier) before') e q.well.1 in
    let n : WellItem all S (reverse (i ∷ before') ++ earlier) here' → ⊥ = λ h. q.ill (subst (λ k. WellItem all S (reverse (k ∷ before') ++ earlier) here') (sym e) h) in
    ap suc (same_place all S (i ∷ earlier) before here after before' here' after' (before ++ here ∷ after)
    (further all S earlier i before here after (before ++ here ∷ after) refl p.well.1 p.ill)
    (further all S earlier i before' here' after' (before ++ here ∷ after) (tail_is i j (before ++ here ∷ after) (before' ++ here' ∷ after') f) w n))

splits : (items : List Item) (S : Ty) (number : ℕ) → (l : IsLeastIll items S number) → Splits items S [] l.before l.here l.after items
splits items S number l = record {
  parts = l.parts;
  well = l.well;
  ill = λ h. l.ill (subst (λ xs. WellItem items S xs l.here) (append-nil (reverse l.before)) h);
}

one_type : (a b : Ty) → Some a ≡ Some b → a ≡ b
one_type a b e = cc

one_place : (items : List Item) (S : Ty) (number other : ℕ) → IsLeastIll items S number → IsLeastIll items S other → number ≡ other
one_place items S number other l k =
    let e = same_place items S [] l.before l.here l.after k.before k.here k.after items (splits items S number l) (splits items S other k) in
    l.place ∙ ap (λ n. n + 1) e ∙ sym k.place

pub one_ill : (source : Source) (number other : ℕ) → IsIll source number → IsIll source other → number ≡ other
one_ill source number other p q =
    let e : p.state ≡ q.state = one_type p.state q.state (sym p.state_is ∙ q.state_is) in
    one_place source.items q.state number other (subst (λ S. IsLeastIll source.items S number) e p.least) q.least
