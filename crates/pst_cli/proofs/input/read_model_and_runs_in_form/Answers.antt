use Rattle.std.proofs.Common.{◌≡◌, Err, sym, ap, ◌∙◌}
use Rattle.pst_cli.proofs.Printing.{refuses_so}
use Rattle.pst_cli.specs.RunOutput.{IsRefusedIn, item_refused, model_refused}
use Rattle.pst_typing.specs.Loading.{items_of}
use Rattle.pst_runs.specs.Items.{runs_of}
use Rattle.pst_cli.proofs.input.read_model_and_runs_in_form.Goals as goal

pub returns-in-Err : goal.returns-in-Err
returns-in-Err c =
    refuses_so (IsRefusedIn c.args.form c.args.input.now) _ _ c.in_ok-refused_model_answer-in-Err.ensures
    (model_refused c.in-Err.refusal (rw c.in-Err.is at c.in_ok-file.ensures))

pub returns-in_ok-refused_item_answer-in-Err-2 : goal.returns-in_ok-refused_item_answer-in-Err-2
returns-in_ok-refused_item_answer-in-Err-2 c =
    let m = c.in-Ok.file.compiled in
    let trees = c.in-Ok.file.trees.items in
    let items : items_of trees ≡ c.trees_after_model.result.now = ap items_of (sym c.as_slice.ensures.value) ∙ sym c.trees_after_model.ensures in
    let read : runs_of m c.trees_after_model.result.now ≡ Err c.in-Err-2.fault = rw (c.typed.ensures, c.in-Err-2.is) at c.in_ok-runs.ensures.runs in
    refuses_so (IsRefusedIn c.args.form c.args.input.now) _ _ c.in_ok-refused_item_answer-in-Err-2.ensures
    (item_refused m trees c.in-Err-2.fault (rw c.in-Ok.is at c.in_ok-file.ensures) (ap (runs_of m) items ∙ read))
