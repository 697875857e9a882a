use Rattle.std.proofs.Common.{◌≡◌, ◌+◌, ◌≤◌, drop}
use Rattle.pst_sources.specs.declared.scan.State.TheVariants.{Between}
use Rattle.pst_sources.specs.Scanning.{closed_bytes}
use Rattle.pst_sources.proofs.scan.end_of_text_or_node.Given as goal

abbrev pub invariant-loop-at : goal.invariant-loop-at
invariant-loop-at l = record {
  shallow : l.depth ≤ l.at;
  counted : l.from + closed_bytes Between 0 (drop l.from l.input)
      ≡ l.at + closed_bytes l.state l.depth (drop l.at l.input);
}
