use Rattle.std.proofs.Common.{◌≡◌, ◌++◌, drop}
use Rattle.pst_cli.specs.Outputs.{joined, worst_of}
use Rattle.pst_cli.proofs.answer.joined_outputs_with_worst_status.Given as goal

abbrev pub invariant-loop-output : goal.invariant-loop-output
invariant-loop-output l = record {
  text : joined l.outputs ≡ l.text.items ++ joined (drop l.output-index l.outputs);
  status : worst_of l.initial.status l.outputs ≡ worst_of l.status (drop l.output-index l.outputs);
}
