use Rattle.std.proofs.Common.{◌≡◌, ℕ, zero, suc, ◌-◌, ◌≤◌, List, [], ◌∷◌, ◌++◌, replicate, arith, append_assoc}
use Rattle.pst_judge.specs.declared.events.Event.{Event}
use Rattle.pst_judge.proofs.unknown_calls.+append_empty_columns.Goals as goal

-- one empty column, and those that are left
one_less : (columns : List (List Event)) (count : ℕ) → 1 ≤ count → (columns ++ [] ∷ []) ++ replicate (count - 1) [] ≡ columns ++ replicate count []
one_less columns zero h = absurd (omega arith)
one_less columns (suc n) h = let e : suc n - 1 ≡ n = omega arith in rw e (append_assoc columns ([] ∷ []) (replicate n []))

pub returns : goal.returns
returns t c = rw (c.in_ok-push.ensures.ok, c.new.ensures, one_less c.args.columns c.args.count (omega arith)) at c.append_empty_columns.ensures
