use Rattle.std.proofs.Common.{sym}
use Rattle.pst_typing.proofs.Formed.{ref_true, ref_false}
use Rattle.pst_typing.proofs.operators.is_ref.Goals as goal

pub returns-in-Ref : goal.returns-in-Ref
returns-in-Ref c = sym (ref_true c.in_ok-form.field-0 c.args.kind.now c.in_ok-form.ensures c.in-Ref.field-0 c.in-Ref.is)

pub returns : goal.returns
returns c = sym (ref_false c.in_ok-form.field-0 c.args.kind.now c.in_ok-form.ensures c.in_default.not-Ref)
