use Rattle.std.proofs.Common.{◌≡◌, take, map, length}
use Rattle.pst_judge.proofs.search.count_commands_in_each_branch.Given as goal

abbrev pub invariant-loop-branch : goal.invariant-loop-branch
invariant-loop-branch l = l.lengths.items ≡ map length (take l.branch-index l.branches)
