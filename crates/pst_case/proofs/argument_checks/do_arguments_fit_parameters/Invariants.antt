use Rattle.std.proofs.Common.{◌≡◌, true, take, map, []}
use Rattle.pst_model.specs.Parts.{types_of}
use Rattle.pst_value.specs.Fits.{fits, fit_each}
use Rattle.pst_case.proofs.argument_checks.do_arguments_fit_parameters.Given as goal

abbrev pub invariant-loop-i : goal.invariant-loop-i
invariant-loop-i l = fit_each (map (fits l.vars l.vars []) (take l.i l.args)) (types_of (take l.i l.params)) ≡ true
