use Rattle.pst_cli.proofs.Printing.{prints}
use Rattle.pst_cli.specs.ExplainOutput.{IsExplainOutput}
use Rattle.pst_cli.proofs.explain.explain_text.Goals as goal

pub returns : goal.returns
returns g c = prints (IsExplainOutput c.args.asked.order c.args.input.now c.args.asked.chosen) _ _ _ _ c.explain_answer-answer.result c.explain_answer-answer.ensures c.send.ensures
