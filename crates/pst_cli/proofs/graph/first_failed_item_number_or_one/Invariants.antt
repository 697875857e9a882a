use Rattle.std.proofs.Common.{◌≡◌, ◌+◌, drop}
use Rattle.pst_cli.specs.GraphOutput.{first_failed}
use Rattle.pst_cli.proofs.graph.first_failed_item_number_or_one.Given as goal

abbrev pub invariant-loop-index : goal.invariant-loop-index
invariant-loop-index l = first_failed 1 l.all ≡ first_failed (l.index + 1) (drop l.index l.all)
