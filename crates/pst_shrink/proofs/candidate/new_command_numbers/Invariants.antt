use Rattle.std.proofs.Common.{◌≡◌}
use Rattle.pst_shrink.specs.Number.{numbers_by}
use Rattle.pst_shrink.proofs.candidate.new_command_numbers.Given as goal

abbrev pub invariant-loop-before : goal.invariant-loop-before
invariant-loop-before l = l.numbers.items ≡ numbers_by l.by l.before
