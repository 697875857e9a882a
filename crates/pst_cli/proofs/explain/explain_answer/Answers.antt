use Rattle.std.proofs.Common.{List, subst}
use Rattle.pst_cli.proofs.Printing.{answers_so}
use Rattle.pst_cli.proofs.Reporting.{if_ok_then}
use Rattle.pst_cli.specs.Answers.{Answers}
use Rattle.pst_cli.specs.ExplainOutput.{IsExplainOutput, IsExplanation}
use Rattle.pst_cli.specs.Output.{IsFirstRefusal, judged, refused}
use Rattle.pst_judge.specs.declared.judgement.Judged.{Judged}
use Rattle.pst_cli.proofs.explain.explain_answer.Goals as goal

pub returns-in-Err : goal.returns-in-Err
returns-in-Err g c =
    answers_so (IsFirstRefusal c.args.input.now) (IsExplainOutput c.args.asked.order c.args.input.now c.args.asked.chosen) (λ text status h. refused h) c.in-Err.answer
    (rw c.in-Err.is at c.in_ok-file.ensures)

pub returns : goal.returns
returns g c =
    let file = c.in-Ok.file in
    let read = rw c.in-Ok.is at c.in_ok-file.ensures in
    let all = file.judged.items in
    let IsSo = IsExplainOutput c.args.asked.order c.args.input.now c.args.asked.chosen in
    let IsChosen = IsExplanation c.args.asked.chosen c.as_slice-2.result.now in
    if_ok_then (Answers IsChosen) (Answers IsSo)
    (answers_so IsChosen IsSo (λ text status h.
    let OfAll : List Judged → Type 0 = λ js. IsExplanation c.args.asked.chosen js text status in
    judged file.compiled read.runs all read.holds read.judged (subst OfAll c.as_slice-2.ensures.value h)))
    c.explanations_answer.result c.explanations_answer.ensures
