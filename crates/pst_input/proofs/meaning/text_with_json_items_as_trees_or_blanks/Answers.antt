use Rattle.std.proofs.Common.{◌≡◌, ◌∙◌, sym}
use Rattle.pst_input.proofs.Meanings.{blanks_meant, trees_meant}
use Rattle.pst_input.specs.Lines.{blanked}
use Rattle.pst_input.proofs.meaning.text_with_json_items_as_trees_or_blanks.Goals as goal

pub returns-in-Ok : goal.returns-in-Ok
returns-in-Ok c =
    let e : c.as_slice.result.now ≡ blanked c.args.text.now = c.as_slice.ensures.value ∙ c.in_ok-blanked.ensures in
    trees_meant c.args.model.now c.args.text.now c.as_slice.result.now _ e (rw c.in-Ok.is at c.in_ok-read.ensures) _
    c.replace_json_lines_by_trees.ensures

pub returns-in-Err : goal.returns-in-Err
returns-in-Err c =
    let e : c.as_slice.result.now ≡ blanked c.args.text.now = c.as_slice.ensures.value ∙ c.in_ok-blanked.ensures in
    blanks_meant c.args.model.now c.args.text.now c.as_slice.result.now c.in_ok-blanked.blanked.items _ e
    (rw c.in-Err.is at c.in_ok-read.ensures) (sym c.as_slice.ensures.value)
