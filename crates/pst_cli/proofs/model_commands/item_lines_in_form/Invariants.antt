use Rattle.std.proofs.Common.{◌≡◌, ◌++◌, length}
use Rattle.pst_cli.specs.ConvertOutput.{lines_in}
use Rattle.pst_runs.specs.Lawful.{AreLawful}
use Rattle.pst_cli.proofs.model_commands.item_lines_in_form.Given as goal

abbrev pub invariant-loop-run : goal.invariant-loop-run
invariant-loop-run l = record {
  lines : lines_in l.form l.typed l.runs ≡ l.text.items ++ lines_in l.form l.typed l.rest;
  lawful : AreLawful l.typed l.rest;
}

abbrev pub decreases-loop-run : goal.decreases-loop-run
decreases-loop-run l = length l.rest
