use Rattle.pst_input.proofs.Meanings.{head_meant, whole_meant}
use Rattle.pst_input.proofs.meaning.plain_text_of_input_with_json_items.Goals as goal

pub returns-in-Ok : goal.returns-in-Ok
returns-in-Ok c =
    whole_meant c.args.input.now c.text_before-head.result.now c.args.place c.requires c.text_before-head.ensures c.in-Ok.file.typed
    c.source.result.now _ c.source.ensures.same (rw c.in-Ok.is at c.in_ok-file.ensures) _
    c.text_with_json_items_as_trees_or_blanks.ensures

pub returns-in-Err : goal.returns-in-Err
returns-in-Err c =
    head_meant c.args.input.now c.text_before-head.result.now c.args.place c.requires c.text_before-head.ensures c.in-Err.field-0
    (rw c.in-Err.is at c.in_ok-file.ensures) _ c.from_slice.ensures.items
