use Rattle.std.proofs.Common.{◌≡◌, List, sym, ap, ◌∙◌, subst}
use Rattle.std.specs.List.{AllZip}
use Rattle.pst_rejudge.specs.Answers.{IsAnswer}
use Rattle.pst_typing.specs.Loading.{items_of}
use Rattle.pst_sexpr.specs.declared.form.Form.{Form}
use Rattle.pst_cli.proofs.keep.judge_each_item_of_input.Goals as goal

pub returns : goal.returns
returns g c =
    let trees = c.in-Ok.file.trees.items in
    let answers = c.in_ok-answers.answers.items in
    let items : items_of trees ≡ c.trees_after_model-items.result.now = ap items_of (sym c.as_slice.ensures.value) ∙ sym c.trees_after_model-items.ensures in
    let AreAnswered : List Form → Type 0 = λ forms. AllZip (IsAnswer c.args.order c.in-Ok.file.compiled) forms answers in
    record { holds = rw c.in-Ok.is at c.in_ok-file.ensures; answered = subst AreAnswered (sym items) c.in_ok-answers.ensures }
