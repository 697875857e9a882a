use Rattle.std.proofs.Common.{◌≡◌, ◌∷◌, map, take}
use Rattle.pst_print.specs.Printed.{item_form}
use Rattle.pst_sexpr.specs.declared.form.Form.TheVariants.{Word}
use Rattle.pst_print.proofs.printer.print_source.Given as goal

abbrev pub invariant-loop-item : goal.invariant-loop-item
invariant-loop-item l = l.forms ≡ Word l.source.name ∷ map item_form (take l.item-index l.source.items)
