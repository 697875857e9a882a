use Rattle.std.proofs.Common.{◌≡◌, ◌++◌, drop, Some}
use Rattle.pst_runs.specs.Values.{each, entry_key}
use Rattle.pst_sexpr.specs.Parts.{and_then}
use Rattle.pst_runs.proofs.values.read_map_keys.Given as goal

abbrev pub invariant-loop-entry : goal.invariant-loop-entry
invariant-loop-entry l = each entry_key l.entries ≡ and_then (each entry_key (drop l.entry-index l.entries)) (λ more. Some (l.keys ++ more))
