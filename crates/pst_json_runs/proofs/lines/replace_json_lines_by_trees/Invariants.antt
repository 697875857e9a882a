use Rattle.std.proofs.Common.{◌≡◌, ◌++◌, drop, []}
use Rattle.pst_json_runs.specs.Lines.{trees_after}
use Rattle.pst_json_runs.proofs.lines.replace_json_lines_by_trees.Given as goal

abbrev pub invariant-loop-byte : goal.invariant-loop-byte
invariant-loop-byte l =
    trees_after l.model [] l.text ≡ l.trees.items ++ trees_after l.model l.line.items (drop l.byte-index l.text)
