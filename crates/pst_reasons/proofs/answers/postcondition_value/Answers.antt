use Rattle.std.proofs.Common.{sym}
use Rattle.pst_reasons.proofs.Posts.{post_given}
use Rattle.pst_reasons.proofs.answers.postcondition_value.Goals as goal

pub returns : goal.returns
returns c =
    let is = rw (c.in-Some.is, c.as_slice-items.ensures) at c.operation_of.ensures in
    let meets = rw (c.as_slice-items.ensures, c.as_slice.ensures) at c.eval.ensures in
    post_given c.args.model.now c.args.op c.in-Some.operation.now c.args.state.now c.args.arguments.now c.args.r.now c.eval.result c.eval.new.turns (sym is) meets
