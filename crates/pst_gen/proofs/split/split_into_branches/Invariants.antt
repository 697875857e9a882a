use Rattle.std.proofs.Common.{◌≡◌, map}
use Rattle.std.specs.List.{range_with_len}
use Rattle.pst_gen.specs.Split.{sent_to}
use Rattle.pst_case.specs.Renumber.{new_number, renumbered_command}
use Rattle.pst_gen.proofs.split.split_into_branches.Given as goal

abbrev pub invariant-loop-branch : goal.invariant-loop-branch
invariant-loop-branch l = l.all ≡ map (λ b. map (renumbered_command (new_number l.numbers)) (sent_to b l.branches l.parallel)) (range_with_len 0 l.branch)
