-- Obstacles rule out the order in time.
use Rattle.std.proofs.Common.{ℕ, List, [], ◌∷◌, sym, subst}
use Rattle.std.specs.List.{All}
use Rattle.pst_case.specs.declared.history.CallTime.{CallTime}
use Rattle.pst_grid.proofs.Answering.{IsAt-none, merge}
use Rattle.pst_grid.proofs.Completing.{Completes-head, Completes-tail}
use Rattle.pst_grid.proofs.Placing.{IsAt-branch, IsAt-more}
use Rattle.pst_grid.specs.Completions.{IsAt, Completes}
use Rattle.pst_grid.specs.Merges.{none_done, one_more}
use Rattle.pst_grid.specs.Orders.{IsInOrder}
use Rattle.pst_judge.specs.ByOrder.{order_of}
use Rattle.pst_judge.specs.InTime.{AreTimesOf}
use Rattle.pst_judge.specs.RealTime.{real_time}
use Rattle.pst_judge.specs.Replay.{branch_lengths}
use Rattle.pst_precedence.proofs.Kept.{open_in_time}
use Rattle.pst_precedence.proofs.Verdicts.{fitting_times}
use Rattle.pst_precedence.specs.Laws.{ObstaclesRuleOutTime}
use Rattle.pst_precedence.specs.Precedences.{keeping, IsRecorded}
use Rattle.pst_precedence.specs.declared.precedence.Precedence.{Precedence}
use Rattle.pst_reasons.specs.Reasons.{IsUnexplained}

-- a word in the order of time keeps recorded precedences
time_keeps : (times : List (List CallTime)) (lengths : List ℕ) → AreTimesOf lengths times → (ps : List Precedence) → All (IsRecorded times) ps
    → (done w : List ℕ) → IsAt lengths done → Completes lengths done w → IsInOrder (real_time times) done w → IsInOrder (keeping ps) done w
time_keeps times lengths are ps recorded done [] at k in_order = tt
time_keeps times lengths are ps recorded done (b ∷ w) at k in_order =
    let left = Completes-head lengths done b w k in
    let inside = IsAt-branch lengths done b at left in (
      open_in_time times lengths are ps recorded done at b in_order.0,
      time_keeps times lengths are ps recorded (one_more done b) w (IsAt-more lengths done b at left) (Completes-tail lengths done b inside w k) in_order.1,
    )

pub obstacles_rule_out_time : ObstaclesRuleOutTime
obstacles_rule_out_time m c h o are =
    subst (λ t. IsUnexplained m (order_of t) c h) (sym are.fitting)
    (λ word in_order all. are.against word (
      in_order.0,
      time_keeps are.times (branch_lengths c) (fitting_times m c h are.times are.fitting) o.precedences.items are.recorded
          (none_done (branch_lengths c)) word (IsAt-none (branch_lengths c)) (merge (branch_lengths c) word in_order.0) in_order.1,
    )
    all)
