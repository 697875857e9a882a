use Rattle.pst_shrink.proofs.Counting.{numbers_more}
use Rattle.pst_shrink.proofs.candidate.new_command_numbers.Goals as goal

pub loop-before-preserved : goal.loop-before-preserved
loop-before-preserved c =
    numbers_more c.args.by c.loop-before.before c.loop-before.numbers.items c.push.new.self.items
    c.new_number.result c.loop-before.invariant c.new_number.ensures c.in_ok-push.ensures.items
