use Rattle.pst_cli.proofs.JudgedRuns.{answer_alone, judging_alone}
use Rattle.pst_cli.proofs.Printing.{prints}
use Rattle.pst_cli.specs.Commands.{HoldsJudging}
use Rattle.pst_cli.specs.Output.{IsShownOutput}
use Rattle.pst_judge.specs.declared.by_order.CallOrder.TheVariants.{Any}
use Rattle.pst_cli.proofs.judge.judge_file.Goals as goal

pub returns-in-Some-UpToRefusal-clause-prints : goal.returns-in-Some-UpToRefusal-clause-prints
returns-in-Some-UpToRefusal-clause-prints g c =
    let IsSo = IsShownOutput Any c.args.shown c.args.input.now in
    prints IsSo _ _ _ _ c.split_judging-answer.result.0
    (answer_alone IsSo c.judge_up_to_refusal-judged.result c.split_judging-answer.result.0 c.split_judging-answer.result.1 c.judge_up_to_refusal-judged.ensures.output c.split_judging-answer.ensures)
    c.send-status.ensures

pub returns-clause-prints : goal.returns-clause-prints
returns-clause-prints g c =
    let IsSo = IsShownOutput Any c.args.shown c.args.input.now in
    prints IsSo _ _ _ _ c.split_judging-answer.result.0
    (answer_alone IsSo c.judge_up_to_refusal-judged.result c.split_judging-answer.result.0 c.split_judging-answer.result.1 c.judge_up_to_refusal-judged.ensures.output c.split_judging-answer.ensures)
    c.send-status.ensures

pub returns-in-Some-UpToRefusal-clause-held : goal.returns-in-Some-UpToRefusal-clause-held
returns-in-Some-UpToRefusal-clause-held g c =
    let held = judging_alone (HoldsJudging Any c.args.input.now) c.judge_up_to_refusal-judged.result c.split_judging-answer.result.0 c.split_judging-answer.result.1 c.judge_up_to_refusal-judged.ensures.held c.split_judging-answer.ensures in
    let found = rw c.in-Some-UpToRefusal.field-0-is at (rw c.in-Some-UpToRefusal.is at held) in
    found.0
