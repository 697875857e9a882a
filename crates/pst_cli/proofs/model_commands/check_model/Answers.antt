use Rattle.pst_cli.proofs.Printing.{meant, reaches}
use Rattle.pst_cli.specs.Commands.{check_answer}
use Rattle.pst_cli.proofs.model_commands.check_model.Goals as goal

pub returns : goal.returns
returns g c = record {
  prints =
      meant _ (check_answer c.args.form c.args.notices.now) _ _ _ c.plain.ensures
      (reaches _ (check_answer c.args.form c.args.notices.now c.plain.result.now) _ c.check_answer-answer.result c.check_answer-answer.ensures
      (rw c.memory_text.ensures at c.deliver.ensures));
}
