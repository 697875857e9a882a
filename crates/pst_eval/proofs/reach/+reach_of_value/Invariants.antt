use Rattle.std.proofs.Common.{◌≡◌, drop}
use Rattle.pst_eval.specs.Reach.{greater, farthest}
use Rattle.pst_eval.proofs.reach.+reach_of_value.Given as goal

abbrev pub invariant-farthest-loop-value : goal.invariant-farthest-loop-value
invariant-farthest-loop-value l = greater l.most (farthest (drop l.value-index l.values)) ≡ farthest l.values
