use Rattle.std.proofs.Common.{◌≡◌, take, map}
use Rattle.pst_case.specs.Times.{called}
use Rattle.pst_case.proofs.unknown.count_called_in_each.Given as goal

abbrev pub invariant-loop-replies : goal.invariant-loop-replies
invariant-loop-replies l = l.counts.items ≡ map called (take l.replies-index l.branches)
