use Rattle.std.proofs.Common.{◌≡◌, ◌+◌, ℕ, Option, Some, IfSome, length, drop, refl, ap, arith, sym, subst, ◌∙◌}
use Rattle.std.proofs.lemmas.Option.{slice_get-get_or}
use Rattle.pst_cli.specs.CampaignFailures.{IsFailingRun, IsSmallestIfAny}
use Rattle.pst_cli.specs.declared.failing_run.TrialFailure.{TrialFailure}
use Rattle.pst_cli.proofs.Fewest.{drop_here, none_of, smaller_fails, smallest_next, smallest_past}
use Rattle.pst_report.specs.InOrder.{AreOf, IsOf}
use Rattle.pst_cli.proofs.smallest.smallest_failure_of.Goals as goal
use Rattle.pst_cli.proofs.smallest.smallest_failure_of.Goals.{in-Some, in_default}

pub loop-trial-preserved : goal.loop-trial-preserved
loop-trial-preserved c =
    let entries = c.args.entries.now in
    let plan = c.args.plan.now in
    let n = c.loop-trial.trial in
    let e = c.index-entries-trial.result in
    let at = slice_get-get_or entries n e c.loop-trial-test.true ∙ ap Some (sym c.index-entries-trial.is) in
    let so_far = c.loop-trial.invariant in
    let next_of = drop_here entries n e c.loop-trial-test.true c.index-entries-trial.is in
    let here : IsOf plan n e × AreOf plan (n + 1) (drop (n + 1) entries) = subst (λ es. AreOf plan n es) next_of so_far.records in
    let of_plan = here.0 in
    let records = here.1 in
    let Smallest : Option TrialFailure → Type 0 = λ o. IsSmallestIfAny (n + 1) entries o in
    let Fails : Option TrialFailure → Type 0 = λ o. IfSome o (λ f. IsFailingRun plan f.shrunk.now.last) in
    elim c.match-shrinking_of_entry.branch [
      | in-Some w ↦
          let next : TrialFailure = record { trial = n; shrunk = w.in-Some.shrunk } in
          let is = w.smaller_failure.ensures in
          record {
            smallest = subst Smallest (sym w.found-is)
                (smallest_next entries n e at w.in-Some.shrunk.now w.in-Some.ensures.failure next refl refl c.loop-trial.found _ is so_far.smallest);
            failing = subst Fails (sym w.found-is)
                (smaller_fails plan c.loop-trial.found next _ is so_far.failing (w.in-Some.ensures.failing plan n of_plan));
            records = records;
          }
      | in_default w ↦
          let none = none_of _ _ c.shrinking_of_entry.result w.in_default.not-Some c.shrinking_of_entry.ensures.failure in
          record {
            smallest = subst Smallest (sym w.found-is) (smallest_past entries n e at none c.loop-trial.found so_far.smallest);
            failing = subst Fails (sym w.found-is) so_far.failing;
            records = records;
          }
    ]

pub returns-clause-smallest : goal.returns-clause-smallest
returns-clause-smallest c =
    let all : c.loop-trial.trial ≡ length c.args.entries.now = omega (arith, c.loop-trial-test.false, c.loop-trial.auto.trial-end) in
    subst (λ (m : ℕ). IsSmallestIfAny m c.args.entries.now c.loop-trial.found) all c.loop-trial.invariant.smallest
