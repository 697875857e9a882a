use Rattle.std.proofs.Common.{◌≡◌, take, map}
use Rattle.pst_value.specs.Subst.{substituted}
use Rattle.pst_judge.proofs.events.substituted_arguments.Given as goal

abbrev pub invariant-loop-arg : goal.invariant-loop-arg
invariant-loop-arg l = l.all ≡ map (substituted l.results) (take l.arg-index l.args)
