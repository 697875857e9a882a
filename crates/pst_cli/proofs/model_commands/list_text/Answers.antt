use Rattle.pst_cli.proofs.Printing.{prints}
use Rattle.pst_cli.specs.ListOutput.{IsListOutput}
use Rattle.pst_cli.proofs.model_commands.list_text.Goals as goal

pub returns : goal.returns
returns g c = prints (IsListOutput c.args.input.now) _ _ _ _ c.list_answer.result c.list_answer.ensures c.send.ensures
