use Rattle.std.proofs.Common.{◌≡◌, ◌+◌, ℕ, List, [], ◌∷◌, Bool, drop, ap, sym, subst, ◌∙◌}
use Rattle.std.specs.Prelude.{if◌then◌else◌}
use Rattle.pst_cli.specs.CampaignFailures.{lost_number}
use Rattle.pst_cli.specs.declared.losses.LostTrials.{LostTrials}
use Rattle.pst_cli.proofs.Fewest.{drop_here}
use Rattle.pst_cli.proofs.Losing.{IsSoFar, so_far_next, so_far_past}
use Rattle.pst_cli.proofs.losses.trials_lost_for_cause.Goals as goal
use Rattle.pst_cli.proofs.losses.trials_lost_for_cause.Goals.{then-is_lost_for_cause+in_ok-add_lost_trial, else-is_lost_for_cause}

pub loop-number-preserved : goal.loop-number-preserved
loop-number-preserved c =
    let entries = c.args.entries.now in
    let cause = c.args.cause in
    let n = c.loop-number.number in
    let e = c.index-entries-number.result in
    let next = drop_here entries n e c.loop-number-test.true c.index-entries-number.is in
    let So : LostTrials → Type 0 = λ l. IsSoFar entries cause (n + 1) l in
    let Lost : Bool → Type 0 = λ b. lost_number cause n e ≡ (if b then n ∷ [] else []) in
    elim c.if-is_lost_for_cause.branch [
      | then-is_lost_for_cause+in_ok-add_lost_trial w ↦
          let one = subst Lost w.if-is_lost_for_cause.true (c.is_lost_for_cause.ensures n) in
          let does = w.in_ok-add_lost_trial.ensures in
          subst So (sym w.lost-is) (so_far_next entries cause n e next _ _ one does.cause does.count does.named does.counted c.loop-number.invariant)
      | else-is_lost_for_cause w ↦
          let none = subst Lost w.if-is_lost_for_cause.false (c.is_lost_for_cause.ensures n) in
          subst So (sym w.lost-is) (so_far_past entries cause n e next _ none c.loop-number.invariant)
    ]
