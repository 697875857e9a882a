use Rattle.pst_cli.proofs.JudgedRuns.{answer_alone}
use Rattle.pst_cli.proofs.Printing.{prints}
use Rattle.pst_cli.specs.KeepingOn.{IsShownKeepingOn}
use Rattle.pst_judge.specs.declared.by_order.CallOrder.TheVariants.{Any}
use Rattle.pst_cli.proofs.judge.judge_file_keep_going.Goals as goal

pub returns-in-Some-Each-clause-prints : goal.returns-in-Some-Each-clause-prints
returns-in-Some-Each-clause-prints g c =
    let IsSo = IsShownKeepingOn Any c.args.shown c.args.input.now in
    prints IsSo _ _ _ _ c.split_judging-answer.result.0
    (answer_alone IsSo c.judge_each-judged.result c.split_judging-answer.result.0 c.split_judging-answer.result.1 c.judge_each-judged.ensures.output c.split_judging-answer.ensures)
    c.send-status.ensures

pub returns-clause-prints : goal.returns-clause-prints
returns-clause-prints g c =
    let IsSo = IsShownKeepingOn Any c.args.shown c.args.input.now in
    prints IsSo _ _ _ _ c.split_judging-answer.result.0
    (answer_alone IsSo c.judge_each-judged.result c.split_judging-answer.result.0 c.split_judging-answer.result.1 c.judge_each-judged.ensures.output c.split_judging-answer.ensures)
    c.send-status.ensures
