use Rattle.std.proofs.Common.{◌≡◌, map, take}
use Rattle.pst_print.specs.Printed.{param_form}
use Rattle.pst_print.proofs.printer.print_parameters.Given as goal

abbrev pub invariant-loop-param : goal.invariant-loop-param
invariant-loop-param l = l.forms ≡ map param_form (take l.param-index l.params)
