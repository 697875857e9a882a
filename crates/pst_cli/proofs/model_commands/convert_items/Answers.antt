use Rattle.pst_cli.proofs.Printing.{meant, reaches}
use Rattle.pst_cli.specs.ConvertOutput.{IsConvertOutput}
use Rattle.pst_cli.proofs.model_commands.convert_items.Goals as goal

pub returns : goal.returns
returns g c = record {
  prints =
      meant _ (IsConvertOutput c.args.form) _ _ _ c.plain.ensures
      (reaches _ (IsConvertOutput c.args.form c.plain.result.now) _ c.convert_answer-answer.result c.convert_answer-answer.ensures c.deliver.ensures);
}
