use Rattle.std.proofs.Common.{arith}
use Rattle.pst_grid.proofs.Packing.{room}
use Rattle.pst_grid.proofs.position.pack_done_counts_if_small.Goals as goal

pub overflow_mul-word : goal.overflow_mul-word
overflow_mul-word c =
    let kept = c.loop-branch.invariant in
    let h = room c.args.done.now c.loop-branch.branch kept.few (omega (arith, c.loop-branch-test.true)) kept.small in
    omega (arith, h, kept.word)

pub overflow_add-word-in-loop-branch : goal.overflow_add-word-in-loop-branch
overflow_add-word-in-loop-branch c =
    let kept = c.loop-branch.invariant in
    let h = room c.args.done.now c.loop-branch.branch kept.few (omega (arith, c.loop-branch-test.true)) kept.small in
    omega (arith, h, kept.word, c.if-count-ge-LEAST_LARGE.false)
