use Rattle.std.proofs.Common.{refl}
use Rattle.pst_cli.proofs.Printing.{file_reached, out_reached, reaches, refuses_so}
use Rattle.pst_cli.proofs.Reporting.{if_ok_then}
use Rattle.pst_cli.specs.Answers.{Answers, IsRefusalBy}
use Rattle.pst_cli.specs.Head.{refusal_line}
use Rattle.pst_cli.specs.StreamOutput.{IsStreamOutput, refused}
use Rattle.pst_cli.specs.declared.answer.Status.TheVariants.{Refused}
use Rattle.pst_cli.proofs.stream.judge_stream.Goals as goal

pub returns-in-Ok-Err : goal.returns-in-Ok-Err
returns-in-Ok-Err g c = record {
  prints = λ bytes known.
      let IsSo = IsStreamOutput g.I.BlockSource.may_fail c.args.order c.args.input.now bytes in
      let line = refusal_line c.in-Ok-Err.refusal in
      reaches _ IsSo _ c.refusal_answer.result
      (if_ok_then (IsRefusalBy line Refused) (Answers IsSo)
      (λ a is. refuses_so IsSo line a is (refused c.in-Ok-Err.refusal (rw c.in-Ok-Err.field-0-is at c.in-Ok-Err.ensures)))
      c.refusal_answer.result c.refusal_answer.ensures) c.deliver.ensures;
}

pub returns-in-Some : goal.returns-in-Some
returns-in-Some g c = record {
  prints = λ bytes known.
      file_reached _ _ _ _ _ (IsStreamOutput g.I.BlockSource.may_fail c.args.order c.args.input.now bytes) _ _ _ c.in-Some.file c.write_stream.new.sink c.in-Some.is refl refl
      (c.write_stream.ensures c.args.input.now bytes c.in-Ok-Ok.file.trees.items (rw c.in-Ok-Ok.field-0-is at c.in-Ok-Ok.ensures) known);
}

pub returns : goal.returns
returns g c = record {
  prints = λ bytes known.
      out_reached _ _ _ _ _ (IsStreamOutput g.I.BlockSource.may_fail c.args.order c.args.input.now bytes) _ _ _ c.in-None.is refl
      (c.write_stream-in-None.ensures c.args.input.now bytes c.in-Ok-Ok.file.trees.items (rw c.in-Ok-Ok.field-0-is at c.in-Ok-Ok.ensures) known);
}
