use Rattle.std.proofs.Common.{◌≡◌, [], drop}
use Rattle.pst_syntax.specs.Items.{items_from}
use Rattle.pst_syntax.proofs.reader.read_items.Given as goal

abbrev pub invariant-loop-form : goal.invariant-loop-form
invariant-loop-form l = items_from l.has_maps [] l.forms ≡ items_from l.has_maps l.items (drop l.form-index l.forms)
