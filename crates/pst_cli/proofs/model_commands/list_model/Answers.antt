use Rattle.pst_cli.proofs.Printing.{meant, reaches}
use Rattle.pst_cli.specs.ListOutput.{IsListOutput}
use Rattle.pst_cli.proofs.model_commands.list_model.Goals as goal

pub returns : goal.returns
returns g c = record {
  prints =
      meant _ IsListOutput _ _ _ c.plain.ensures
      (reaches _ (IsListOutput c.plain.result.now) _ c.list_answer-answer.result c.list_answer-answer.ensures c.deliver.ensures);
}
