use Rattle.std.proofs.Common.{refl}
use Rattle.pst_cli.proofs.Printing.{file_reached, meant, out_reached, reaches, refuses_so}
use Rattle.pst_cli.proofs.Reporting.{if_ok_then}
use Rattle.pst_cli.specs.Answering.{refusal_of}
use Rattle.pst_cli.specs.Answers.{Answers, IsRefusalBy}
use Rattle.pst_cli.specs.GenerateOutput.{IsGenerateOutput, form_beside, refused}
use Rattle.pst_cli.specs.declared.answer.Status.TheVariants.{Refused}
use Rattle.pst_cli.proofs.generate.generate_cases.Goals as goal

pub returns-in-Ok-Err : goal.returns-in-Ok-Err
returns-in-Ok-Err g c = record {
  prints =
      let IsSo = IsGenerateOutput c.args.form c.args.settings c.args.first c.args.count c.plain.result.now in
      let line = refusal_of (form_beside c.args.form) c.in-Ok-Err.refusal in
      meant _ (IsGenerateOutput c.args.form c.args.settings c.args.first c.args.count) _ _ _ c.plain.ensures
      (reaches _ IsSo _ c.refused_model_answer-refused.result
      (if_ok_then (IsRefusalBy line Refused) (Answers IsSo)
      (λ a is. refuses_so IsSo line a is (refused c.in-Ok-Err.refusal (rw c.in-Ok-Err.field-0-is at c.in-Ok-Err.ensures)))
      c.refused_model_answer-refused.result (rw c.form_beside-in-Ok-Err.ensures at c.refused_model_answer-refused.ensures))
      (rw (c.memory_text-memory.ensures, c.form_beside.ensures) at c.deliver.ensures));
}

pub returns-in-Some : goal.returns-in-Some
returns-in-Some g c = record {
  prints =
      let held = rw c.in-Ok-Ok.field-0-is at c.in-Ok-Ok.ensures in
      meant _ (IsGenerateOutput c.args.form c.args.settings c.args.first c.args.count) _ _ _ c.plain.ensures
      (file_reached _ _ _ _ _ (IsGenerateOutput c.args.form c.args.settings c.args.first c.args.count c.plain.result.now) _ _ _
      c.in-Some.file c.write_cases.new.sink c.in-Some.is refl refl
      (rw held.settings_are at c.write_cases.ensures c.plain.result.now held.trees held.holds));
}

pub returns : goal.returns
returns g c = record {
  prints =
      let held = rw c.in-Ok-Ok.field-0-is at c.in-Ok-Ok.ensures in
      meant _ (IsGenerateOutput c.args.form c.args.settings c.args.first c.args.count) _ _ _ c.plain.ensures
      (out_reached _ _ _ _ _ (IsGenerateOutput c.args.form c.args.settings c.args.first c.args.count c.plain.result.now) _ _ _
      c.in-None.is refl
      (rw held.settings_are at c.write_cases-in-None.ensures c.plain.result.now held.trees held.holds));
}
