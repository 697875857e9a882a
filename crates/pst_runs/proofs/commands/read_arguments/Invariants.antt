use Rattle.std.proofs.Common.{◌≡◌, ◌++◌, ◌&&◌, drop}
use Rattle.pst_runs.specs.Commands.{arguments_of, present, are_present}
use Rattle.pst_runs.proofs.commands.read_arguments.Given as goal

abbrev pub invariant-loop-form : goal.invariant-loop-form
invariant-loop-form l = record {
  values : present (arguments_of l.typed l.forms) ≡ l.values ++ present (arguments_of l.typed (drop l.form-index l.forms));
  all : are_present (arguments_of l.typed l.forms) ≡ (l.are_all && are_present (arguments_of l.typed (drop l.form-index l.forms)));
}
