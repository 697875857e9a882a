use Rattle.pst_cli.proofs.JudgedRuns.{answer_alone}
use Rattle.pst_cli.proofs.Printing.{prints}
use Rattle.pst_cli.specs.Output.{IsJudgeOutput}
use Rattle.pst_cli.proofs.judge.judge_text.Goals as goal

pub returns : goal.returns
returns g c =
    prints (IsJudgeOutput c.args.input.now) _ _ _ _ c.split_judging-answer.result.0
    (answer_alone (IsJudgeOutput c.args.input.now) c.judge_up_to_refusal-judged.result c.split_judging-answer.result.0 c.split_judging-answer.result.1 c.judge_up_to_refusal-judged.ensures.output c.split_judging-answer.ensures)
    c.send.ensures
