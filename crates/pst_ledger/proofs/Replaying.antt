-- Lists of events, one event longer.
use Rattle.std.proofs.Common.{◌≡◌, List, [], ◌∷◌, ◌++◌, refl, ap}
use Rattle.pst_ledger.specs.Core.{Core, Event, Answer, after, run}
use Rattle.pst_ledger.specs.Replay.{answers}

module _ {R : Type 0} where
  pub run-snoc : (c : Core R) (es : List (Event R)) (e : Event R) → run c (es ++ e ∷ []) ≡ (after (run c es) e).0
  run-snoc c [] e = refl
  run-snoc c (x ∷ es) e = run-snoc (after c x).0 es e

  pub answers-snoc : (c : Core R) (es : List (Event R)) (e : Event R) → answers c (es ++ e ∷ []) ≡ answers c es ++ (after (run c es) e).1 ∷ []
  answers-snoc c [] e = refl
  answers-snoc c (x ∷ es) e = ap (λ (l : List Answer). (after c x).1 ∷ l) (answers-snoc (after c x).0 es e)
