-- What holds of each item of a list holds of the last one and of those before it.
use Rattle.std.proofs.Common.{◌≡◌, All, IfSome, MatchOption, List, [], ◌∷◌, ◌++◌, Option, Some, None}
use Rattle.std.proofs.lemmas.List.Elements.{All-nil, All-pop}

module _ {X : Type 0} (P : X → Type 0) (xs ys : List X) (all : All P xs) where
  pub popped : (r : Option X) → MatchOption r ((xs ≡ []) × (ys ≡ [])) (λ x. xs ≡ ys ++ x ∷ []) → IfSome r P × All P ys
  popped None e = (tt, rw e.1 (All-nil P))
  popped (Some x) e = let both = All-pop P xs ys (Some x) e all in (both.1, both.0)
