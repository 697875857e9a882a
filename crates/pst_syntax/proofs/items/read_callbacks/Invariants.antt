use Rattle.std.proofs.Common.{◌≡◌, drop}
use Rattle.pst_syntax.specs.Items.{callbacks_from, no_callbacks}
use Rattle.pst_syntax.proofs.items.read_callbacks.Given as goal

abbrev pub invariant-loop-form : goal.invariant-loop-form
invariant-loop-form l = callbacks_from l.has_maps no_callbacks l.forms ≡ callbacks_from l.has_maps l.callbacks (drop l.form-index l.forms)
