use Rattle.std.proofs.Common.{sym}
use Rattle.pst_typing.proofs.Formed.{text_true, list_true, sequence_false}
use Rattle.pst_typing.proofs.operators.is_sequence.Goals as goal

pub returns-in-Text : goal.returns-in-Text
returns-in-Text c = sym (text_true c.in_ok-form.field-0 c.args.kind.now c.in_ok-form.ensures c.in-Text.is)

pub returns-in-List : goal.returns-in-List
returns-in-List c = sym (list_true c.in_ok-form.field-0 c.args.kind.now c.in_ok-form.ensures c.in-List.field-0 c.in-List.is)

pub returns : goal.returns
returns c = sym (sequence_false c.in_ok-form.field-0 c.args.kind.now c.in_ok-form.ensures c.in_default.not-Text c.in_default.not-List)
