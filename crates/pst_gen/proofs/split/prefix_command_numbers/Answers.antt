use Rattle.std.proofs.Common.{◌≡◌, ◌+◌, arith}
use Rattle.pst_gen.proofs.Ranges.{range_more}
use Rattle.pst_gen.proofs.split.prefix_command_numbers.Goals as goal

pub loop-before-preserved : goal.loop-before-preserved
loop-before-preserved c =
    let e : c.loop-before.before + 1 ≡ 1 + c.loop-before.before = omega arith in
    range_more 1 c.loop-before.before c.loop-before.numbers.items c.push.new.self.items (c.loop-before.before + 1) c.loop-before.invariant e c.in_ok-push.ensures.items
