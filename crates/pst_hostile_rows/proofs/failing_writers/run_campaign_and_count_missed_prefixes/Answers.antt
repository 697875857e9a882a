use Rattle.std.proofs.Common.{◌≡◌, inr, sym, ◌∙◌, subst}
use Rattle.std.specs.Arc.{arc_value}
use Rattle.pst_cli.proofs.Campaigning.{all_of}
use Rattle.pst_report.specs.InOrder.{AreOf}
use Rattle.pst_trial.specs.PlanView.{PlanView}
use Rattle.pst_hostile_rows.proofs.failing_writers.run_campaign_and_count_missed_prefixes.Goals as goal

pub missed_prefix_count_and_report_length-requires-clause-records : goal.missed_prefix_count_and_report_length-requires-clause-records
missed_prefix_count_and_report_length-requires-clause-records g c =
    let Of : PlanView → Type 0 = λ p. AreOf p 0 c.in-Ok.closed in
    let same : arc_value c.in_ok-clone.field-0 ≡ c.deref.result.now =
    c.in_ok-clone.ensures.cases ∙ sym c.deref.ensures in
    subst Of same (all_of ⊥ _ _ _ (arc_value c.in_ok-clone.field-0) c.args.systems.items c.in-Ok.closed
    (λ k e at. inr (c.in-Ok.ensures.given k e at)))
