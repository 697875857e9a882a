use Rattle.std.proofs.Common.{IfSome}
use Rattle.pst_cli.proofs.JudgedRuns.{answer_alone, judging_alone}
use Rattle.pst_cli.proofs.Printing.{meant, reaches, some_meant}
use Rattle.pst_cli.specs.Commands.{HoldsJudging, IsJudgeAnswer}
use Rattle.pst_cli.proofs.judge.judge_items.Goals as goal

pub returns-clause-prints : goal.returns-clause-prints
returns-clause-prints g c =
    let IsSo = IsJudgeAnswer c.args.options c.plain.result.now in
    meant _ (IsJudgeAnswer c.args.options) _ _ _ c.plain.ensures
    (reaches _ IsSo _ c.split_judging-answer.result.0
    (answer_alone IsSo c.judge_answer-judged.result c.split_judging-answer.result.0 c.split_judging-answer.result.1 c.judge_answer-judged.ensures.output c.split_judging-answer.ensures)
    (rw c.memory_text.ensures at c.deliver.ensures))

pub returns-clause-held : goal.returns-clause-held
returns-clause-held g c =
    some_meant (HoldsJudging c.args.options.order) _ _ c.plain.ensures c.split_judging-answer.result.1
    (judging_alone (HoldsJudging c.args.options.order c.plain.result.now) c.judge_answer-judged.result c.split_judging-answer.result.0 c.split_judging-answer.result.1 c.judge_answer-judged.ensures.held c.split_judging-answer.ensures)
