use Rattle.pst_cli.proofs.Printing.{prints}
use Rattle.pst_cli.specs.Output.{IsCheckOutput}
use Rattle.pst_cli.proofs.model_commands.check_text.Goals as goal

pub returns : goal.returns
returns g c = prints (IsCheckOutput c.args.input.now) _ _ _ _ c.check_line_answer.result c.check_line_answer.ensures c.send.ensures
