use Rattle.std.proofs.Common.{◌≡◌, Some, None, ap, sym, ◌∙◌, subst}
use Rattle.pst_cli.proofs.Printing.{refuses_so}
use Rattle.pst_cli.proofs.Reading.{first_refuses, judged_unless_refused}
use Rattle.pst_cli.specs.Kept.{HoldsJudged}
use Rattle.pst_cli.specs.Output.{IsFirstRefusal}
use Rattle.pst_rejudge.specs.Answers.{first_refusal}
use Rattle.pst_rejudge.specs.Parts.{joined}
use Rattle.pst_cli.proofs.input.judged_file_unless_refused.Goals as goal

pub returns-in-Some : goal.returns-in-Some
returns-in-Some c order all input h =
    let file = c.args.file in
    let refused : first_refusal 1 file.answers.items ≡ Some c.in-Some.fault =
    ap (first_refusal 1) (sym c.as_slice.ensures.value) ∙ sym c.first_refused_item.ensures ∙ c.in-Some.is in
    refuses_so (IsFirstRefusal input) _ _ c.in_ok-refused_item_answer.ensures
    (first_refuses order all input file.compiled (joined file.runs.items) file.answers.items c.in-Some.fault _ _ h refused)

pub returns : goal.returns
returns c order all input h =
    let file = c.args.file in
    let unrefused : first_refusal 1 file.answers.items ≡ None =
    ap (first_refusal 1) (sym c.as_slice.ensures.value) ∙ sym c.first_refused_item.ensures ∙ c.in_default.is in
    subst (λ js. HoldsJudged order all input file.compiled (joined file.runs.items) js) (sym c.in_ok-judged.ensures)
    (judged_unless_refused order all input file.compiled (joined file.runs.items) file.answers.items h unrefused)
