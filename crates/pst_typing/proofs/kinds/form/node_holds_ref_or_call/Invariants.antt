use Rattle.std.proofs.Common.{◌≡◌}
use Rattle.pst_typing.proofs.Held.{held_of}
use Rattle.pst_typing.proofs.kinds.form.node_holds_ref_or_call.Given as goal

abbrev pub invariant-loop-at : goal.invariant-loop-at
invariant-loop-at l = l.held ≡ held_of l.nodes l.at
