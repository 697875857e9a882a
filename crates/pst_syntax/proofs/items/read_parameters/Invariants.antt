use Rattle.std.proofs.Common.{◌≡◌, [], drop}
use Rattle.pst_syntax.specs.Items.{params_from}
use Rattle.pst_syntax.proofs.items.read_parameters.Given as goal

abbrev pub invariant-loop-form : goal.invariant-loop-form
invariant-loop-form l = params_from l.has_maps [] l.forms ≡ params_from l.has_maps l.params (drop l.form-index l.forms)
