use Rattle.std.proofs.Common.{◌≡◌, ◌≤◌, take}
use Rattle.pst_case.specs.Times.{called}
use Rattle.pst_case.proofs.times.count_called.Given as goal

abbrev pub invariant-loop-reply : goal.invariant-loop-reply
invariant-loop-reply l = (l.count ≡ called (take l.reply-index l.replies)) × (l.count ≤ l.reply-index)
