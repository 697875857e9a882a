use Rattle.std.proofs.Common.{◌++◌, ◌∷◌, [], refl, ap, sym, ◌∙◌, map, arith}
use Rattle.pst_sexpr.specs.Spelling.{escape, spaced, spelling}
use Rattle.pst_sexpr.proofs.Spelled.{spelling_word, spelling_text, spelling_node, next_part}
use Rattle.pst_sexpr.proofs.Sequence.{nothing_yet, then_all, then_fails, then_last, writes_is}
use Rattle.pst_sexpr.proofs.writer.+writing.Goals as goal

pub write_form-returns-in-Word : goal.write_form-returns-in-Word
write_form-returns-in-Word g t c =
    writes_is (ap spelling c.in-Word.is ∙ spelling_word c.in-Word.word ∙ sym c.as_bytes.ensures) c.put_all.ensures

pub write_form-returns-in_err-put_all-in-Text : goal.write_form-returns-in_err-put_all-in-Text
write_form-returns-in_err-put_all-in-Text g t c =
    let start = nothing_yet (spelling c.args.form.now) c.requires in
    then_fails _ c.from_residual.ensures.0 start c.in_err-put_all-in-Text.ensures
    (ap spelling c.in-Text.is ∙ spelling_text c.in-Text.text)

pub write_form-returns-in_err-write_escaped_text_bytes-in-Text : goal.write_form-returns-in_err-write_escaped_text_bytes-in-Text
write_form-returns-in_err-write_escaped_text_bytes-in-Text g t c =
    let text = c.as_bytes-in-Text.result.now in
    let spelled = ap spelling c.in-Text.is ∙ spelling_text c.in-Text.text ∙ ap (λ l. 34 ∷ escape l ++ 34 ∷ []) (sym c.as_bytes-in-Text.ensures) in
    let start = nothing_yet (spelling c.args.form.now) c.requires in
    let quote = then_all (escape text ++ 34 ∷ []) start c.in_ok-put_all-in-Text.ensures spelled in
    then_fails _ c.from_residual-in_err-write_escaped_text_bytes-in-Text.ensures.0 quote c.in_err-write_escaped_text_bytes-in-Text.ensures refl

pub write_form-returns-in_ok-write_escaped_text_bytes-in-Text : goal.write_form-returns-in_ok-write_escaped_text_bytes-in-Text
write_form-returns-in_ok-write_escaped_text_bytes-in-Text g t c =
    let text = c.as_bytes-in-Text.result.now in
    let spelled = ap spelling c.in-Text.is ∙ spelling_text c.in-Text.text ∙ ap (λ l. 34 ∷ escape l ++ 34 ∷ []) (sym c.as_bytes-in-Text.ensures) in
    let start = nothing_yet (spelling c.args.form.now) c.requires in
    let quote = then_all (escape text ++ 34 ∷ []) start c.in_ok-put_all-in-Text.ensures spelled in
    let inside = then_all (34 ∷ []) quote c.in_ok-write_escaped_text_bytes-in-Text.ensures refl in
    then_last inside c.put_all-in-Text-2.ensures refl

pub write_form-returns-in_err-put_all-in-Node : goal.write_form-returns-in_err-put_all-in-Node
write_form-returns-in_err-put_all-in-Node g t c =
    let start = nothing_yet (spelling c.args.form.now) c.requires in
    then_fails _ c.from_residual-in_err-put_all-in-Node.ensures.0 start c.in_err-put_all-in-Node.ensures
    (ap spelling c.in-Node.is ∙ spelling_node c.in-Node.forms)

pub write_form-returns-in_err-write_forms_with_spaces-in-Node : goal.write_form-returns-in_err-write_forms_with_spaces-in-Node
write_form-returns-in_err-write_forms_with_spaces-in-Node g t c =
    let forms = c.as_slice.result.now in
    let spelled = ap spelling c.in-Node.is ∙ spelling_node c.in-Node.forms ∙ ap (λ l. 40 ∷ spaced (map spelling l) ++ 41 ∷ []) (sym c.as_slice.ensures) in
    let start = nothing_yet (spelling c.args.form.now) c.requires in
    let bracket = then_all (spaced (map spelling forms) ++ 41 ∷ []) start c.in_ok-put_all-in-Node.ensures spelled in
    then_fails _ c.from_residual-in_err-write_forms_with_spaces-in-Node.ensures.0 bracket c.in_err-write_forms_with_spaces-in-Node.ensures refl

pub write_form-returns-in_ok-write_forms_with_spaces-in-Node : goal.write_form-returns-in_ok-write_forms_with_spaces-in-Node
write_form-returns-in_ok-write_forms_with_spaces-in-Node g t c =
    let forms = c.as_slice.result.now in
    let spelled = ap spelling c.in-Node.is ∙ spelling_node c.in-Node.forms ∙ ap (λ l. 40 ∷ spaced (map spelling l) ++ 41 ∷ []) (sym c.as_slice.ensures) in
    let start = nothing_yet (spelling c.args.form.now) c.requires in
    let bracket = then_all (spaced (map spelling forms) ++ 41 ∷ []) start c.in_ok-put_all-in-Node.ensures spelled in
    let inside = then_all (41 ∷ []) bracket c.in_ok-write_forms_with_spaces-in-Node.ensures refl in
    then_last inside c.put_all-in-Node-2.ensures refl

pub write_forms_with_spaces-returns-in_err-write_space_unless_first : goal.write_forms_with_spaces-returns-in_err-write_space_unless_first
write_forms_with_spaces-returns-in_err-write_space_unless_first g t c =
    let next = next_part c.args.forms.now c.loop-place.place c.index-forms-place.result (omega arith) c.index-forms-place.is in
    then_fails _ c.from_residual.ensures.0 c.loop-place.invariant c.in_err-write_space_unless_first.ensures next

pub write_forms_with_spaces-returns-in_err-write_form : goal.write_forms_with_spaces-returns-in_err-write_form
write_forms_with_spaces-returns-in_err-write_form g t c =
    let next = next_part c.args.forms.now c.loop-place.place c.index-forms-place.result (omega arith) c.index-forms-place.is in
    let gap = then_all _ c.loop-place.invariant c.in_ok-write_space_unless_first.ensures next in
    then_fails _ c.from_residual-in_err-write_form.ensures.0 gap c.in_err-write_form.ensures refl

pub write_forms_with_spaces-loop-place-preserved : goal.write_forms_with_spaces-loop-place-preserved
write_forms_with_spaces-loop-place-preserved g t c =
    let next = next_part c.args.forms.now c.loop-place.place c.index-forms-place.result (omega arith) c.index-forms-place.is in
    let gap = then_all _ c.loop-place.invariant c.in_ok-write_space_unless_first.ensures next in
    then_all _ gap c.in_ok-write_form.ensures refl
