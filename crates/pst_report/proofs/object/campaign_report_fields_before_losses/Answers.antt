use Rattle.std.proofs.Common.{◌≡◌, [], ◌∷◌, ◌++◌, ap, ◌∙◌, rules}
use Rattle.pst_rejudge.specs.declared.field.Field.TheVariants.{Words}
use Rattle.pst_rejudge.specs.declared.field.FieldName.TheVariants as name
use Rattle.pst_report.specs.Object.{case_fields, drive_fields, judged_fields, other_fields, status_word}
use Rattle.pst_report.proofs.Fields.{five_parts}
use Rattle.pst_report.proofs.object.campaign_report_fields_before_losses.Goals as goal

pub returns : goal.returns
returns c =
    let p = c.args.plan.now in
    let one = c.add_text_field-2.new.fields.items in
    let two = c.add_seed_trials_commands_branches_fields.new.fields.items in
    let three = c.add_drive_fields.new.fields.items in
    let four = c.add_passed_and_failed_counts.new.fields.items in
    let head : one ≡ Words name.Verdict (status_word c.args.status) ∷ Words name.Model p.model.name ∷ [] = search rules in
    five_parts one two three four c.add_other_counts.new.fields.items _ _ _ _ _ head
    (c.in_ok-add_seed_trials_commands_branches_fields.ensures ∙ ap (λ s. one ++ case_fields s) c.settings.ensures.same)
    (c.in_ok-add_drive_fields.ensures ∙ ap (λ s. two ++ drive_fields s) c.settings-2.ensures.same)
    (c.in_ok-add_passed_and_failed_counts.ensures ∙ ap (λ es. three ++ judged_fields es) c.entries-entries.ensures)
    (c.in_ok-add_other_counts.ensures ∙ ap (λ es. four ++ other_fields es) c.entries-entries.ensures)
