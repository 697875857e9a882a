use Rattle.std.proofs.Common.{◌≡◌, map, take}
use Rattle.pst_print.specs.Printed.{ty_form}
use Rattle.pst_print.proofs.expressions.+ty_form.Given as goal

abbrev pub invariant-print_types-loop-ty : goal.invariant-print_types-loop-ty
invariant-print_types-loop-ty l = l.forms ≡ map ty_form (take l.ty-index l.types)
