use Rattle.std.proofs.Common.{List, subst}
use Rattle.pst_cli.proofs.Printing.{answers_so}
use Rattle.pst_cli.proofs.Reporting.{if_ok_then}
use Rattle.pst_cli.specs.Answers.{Answers}
use Rattle.pst_cli.specs.GraphOutput.{IsGraphOf, IsGraphOutput}
use Rattle.pst_cli.specs.Output.{IsFirstRefusal, judged, refused}
use Rattle.pst_judge.specs.declared.judgement.Judged.{Judged}
use Rattle.pst_cli.proofs.graph.graph_answer.Goals as goal

pub returns-in-Err : goal.returns-in-Err
returns-in-Err g c =
    answers_so (IsFirstRefusal c.args.input.now) (IsGraphOutput c.args.order c.args.input.now c.args.item) (λ text status h. refused h) c.in-Err.answer
    (rw c.in-Err.is at c.in_ok-file.ensures)

pub returns : goal.returns
returns g c =
    let file = c.in-Ok.file in
    let read = rw c.in-Ok.is at c.in_ok-file.ensures in
    let all = file.judged.items in
    let IsSo = IsGraphOutput c.args.order c.args.input.now c.args.item in
    let IsChosen = IsGraphOf c.args.item c.as_slice-2.result.now in
    if_ok_then (Answers IsChosen) (Answers IsSo)
    (answers_so IsChosen IsSo (λ text status h.
    let OfAll : List Judged → Type 0 = λ js. IsGraphOf c.args.item js text status in
    judged file.compiled read.runs all read.holds read.judged (subst OfAll c.as_slice-2.ensures.value h)))
    c.item_graph_answer.result c.item_graph_answer.ensures
