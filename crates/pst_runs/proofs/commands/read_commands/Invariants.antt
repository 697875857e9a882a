use Rattle.std.proofs.Common.{◌≡◌, ◌++◌, drop, Some}
use Rattle.pst_runs.specs.Values.{each}
use Rattle.pst_sexpr.specs.Parts.{and_then}
use Rattle.pst_runs.specs.Commands.{command_of}
use Rattle.pst_runs.proofs.commands.read_commands.Given as goal

abbrev pub invariant-loop-form : goal.invariant-loop-form
invariant-loop-form l = each (command_of l.typed) l.forms ≡ and_then (each (command_of l.typed) (drop l.form-index l.forms)) (λ more. Some (l.commands ++ more))
