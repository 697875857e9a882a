use Rattle.std.proofs.Common.{◌≡◌, take, map}
use Rattle.pst_case.specs.Renumber.{new_number, renumbered}
use Rattle.pst_case.proofs.renumber.+renumber_value.Given as goal

abbrev pub invariant-renumber_values-loop-value : goal.invariant-renumber_values-loop-value
invariant-renumber_values-loop-value l = l.all ≡ map (renumbered (new_number l.numbers)) (take l.value-index l.values)
