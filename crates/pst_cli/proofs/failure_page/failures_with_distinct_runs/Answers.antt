use Rattle.std.proofs.Common.{◌≡◌, ◌+◌, ℕ, Some, Vec, Global, length, drop, ap, arith, sym, subst, ◌∙◌}
use Rattle.std.proofs.lemmas.Option.{slice_get-get_or}
use Rattle.pst_cli.specs.CampaignFailures.{AreFailuresBelow, IsSmallestIfAny, head_of}
use Rattle.pst_cli.specs.Page.{AreFailing}
use Rattle.pst_cli.specs.declared.failing_run.TrialFailure.{TrialFailure}
use Rattle.pst_cli.proofs.Fewest.{drop_here, none_of}
use Rattle.pst_cli.proofs.Paging.{below_next, below_past, failing_next, head_next}
use Rattle.pst_report.specs.InOrder.{AreOf, IsOf}
use Rattle.pst_cli.proofs.failure_page.failures_with_distinct_runs.Goals as goal
use Rattle.pst_cli.proofs.failure_page.failures_with_distinct_runs.Goals.{in-Some+in_ok-add_failure_if_run_is_new, in_default}

pub loop-trial-preserved : goal.loop-trial-preserved
loop-trial-preserved c =
    let entries = c.args.entries.now in
    let plan = c.args.plan.now in
    let n = c.loop-trial.trial in
    let e = c.index-entries-trial.result in
    let at = slice_get-get_or entries n e c.loop-trial-test.true ∙ ap Some (sym c.index-entries-trial.is) in
    let so_far = c.loop-trial.invariant in
    let next_of = drop_here entries n e c.loop-trial-test.true c.index-entries-trial.is in
    let here : IsOf plan n e × AreOf plan (n + 1) (drop (n + 1) entries) = subst (λ es. AreOf plan n es) next_of so_far.records in
    let of_plan = here.0 in
    let records = here.1 in
    let before = c.loop-trial.failures.items in
    let Below : Vec TrialFailure Global → Type 0 = λ v. AreFailuresBelow (n + 1) 100 entries v.items in
    let Fail : Vec TrialFailure Global → Type 0 = λ v. AreFailing plan v.items in
    let First : Vec TrialFailure Global → Type 0 = λ v. IsSmallestIfAny (length entries) entries (head_of v.items) in
    elim c.match-shrinking_of_entry.branch [
      | in-Some+in_ok-add_failure_if_run_is_new w ↦
          let s = w.in-Some.shrunk.now in
          let own = w.in-Some.ensures.failure in
          let keeps = w.in_ok-add_failure_if_run_is_new.ensures in
          record {
            failures = subst Below (sym w.failures-is) (below_next 100 entries n e at s own before _ keeps so_far.failures);
            failing = subst Fail (sym w.failures-is)
                (failing_next plan 100 n s before _ (w.in-Some.ensures.failing plan n of_plan) keeps so_far.failing);
            first = subst First (sym w.failures-is)
                (head_next 100 entries n e at s own before _ c.loop-trial-test.true keeps so_far.first);
            records = records;
          }
      | in_default w ↦
          let none = none_of _ _ c.shrinking_of_entry.result w.in_default.not-Some c.shrinking_of_entry.ensures.failure in
          record {
            failures = subst Below (sym w.failures-is) (below_past 100 entries n e at before none so_far.failures);
            failing = subst Fail (sym w.failures-is) so_far.failing;
            first = subst First (sym w.failures-is) so_far.first;
            records = records;
          }
    ]

pub returns-clause-failures : goal.returns-clause-failures
returns-clause-failures c =
    let all : c.loop-trial.trial ≡ length c.args.entries.now = omega (arith, c.loop-trial-test.false, c.loop-trial.auto.trial-end) in
    subst (λ (m : ℕ). AreFailuresBelow m 100 c.args.entries.now c.loop-trial.failures.items) all c.loop-trial.invariant.failures
