use Rattle.std.proofs.Common.{◌≡◌, map, take}
use Rattle.pst_driver.specs.Driven.{real_argument}
use Rattle.pst_driver.proofs.part.plain_arguments_with_known_results.Given as goal

abbrev pub invariant-loop-arg : goal.invariant-loop-arg
invariant-loop-arg l = l.all ≡ map (real_argument l.known) (take l.arg-index l.args)
