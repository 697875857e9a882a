use Rattle.std.proofs.Common.{◌≡◌, ◌++◌, List, ap, ◌∙◌}
use Rattle.pst_cli.proofs.Campaigning.{is_object}
use Rattle.pst_cli.specs.CampaignEnd.{status_by}
use Rattle.pst_rejudge.specs.declared.field.Field.{Field}
use Rattle.pst_ledger.specs.declared.entry.Entry.{Entry}
use Rattle.pst_report.specs.Object.{report_fields}
use Rattle.pst_report.specs.declared.status.CampaignStatus.{CampaignStatus}
use Rattle.pst_trial.specs.PlanView.{PlanView}
use Rattle.pst_trial.specs.RecordView.{RecordView}
use Rattle.pst_cli.proofs.campaign.campaign_object.Goals as goal

pub returns : goal.returns
returns c =
    let end = c.args.end.now in
    let more = c.add_lost_trials_and_first_failure.new.fields.items in
    let entries = c.closed-closed.result.now in
    let status = c.status_of_trials-status.result in
    let first = c.in_ok-fields.ensures ∙ (ap (λ (p : PlanView). report_fields p status entries) c.plan-plan.ensures
    ∙ (ap (λ (s : CampaignStatus). report_fields end.plan s entries) c.status_of_trials-status.ensures
    ∙ ap (λ (es : List (Entry RecordView)). report_fields end.plan (status_by c.args.undrawn es) es) c.closed-closed.ensures.same)) in
    let same : c.as_slice.result.now ≡ report_fields end.plan (status_by c.args.undrawn end.entries) end.entries ++ more =
    c.as_slice.ensures.value ∙ c.in_ok-append.ensures.items ∙ ap (λ (fs : List Field). fs ++ more) first in
    is_object c.args.undrawn end _ more same c.json_object_line.result c.json_object_line.ensures.line
