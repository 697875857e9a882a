use Rattle.std.proofs.Common.{◌≡◌, map}
use Rattle.std.specs.List.{range_with_len}
use Rattle.pst_gen.specs.Split.{branch_of}
use Rattle.pst_gen.proofs.split.choose_branches_of_commands.Given as goal

abbrev pub invariant-loop-index : goal.invariant-loop-index
invariant-loop-index l = l.all.items ≡ map (branch_of l.branches l.word) (range_with_len 0 l.index)
