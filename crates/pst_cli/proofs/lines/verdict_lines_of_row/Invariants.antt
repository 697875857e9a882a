use Rattle.std.proofs.Common.{◌≡◌, ◌++◌, length, string_bytes}
use Rattle.pst_cli.specs.Rows.{first_of, lines_behind}
use Rattle.pst_cli.proofs.lines.verdict_lines_of_row.Given as goal

abbrev pub invariant-loop-index : goal.invariant-loop-index
invariant-loop-index l = lines_behind l.all (first_of l.row (length l.all)) ≡ string_bytes l.text ++ lines_behind l.all l.index
