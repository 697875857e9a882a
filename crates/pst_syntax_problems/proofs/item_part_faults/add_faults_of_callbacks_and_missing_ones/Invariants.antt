use Rattle.std.proofs.Common.{◌≡◌, ◌+◌, [], drop}
use Rattle.pst_syntax_problems.specs.Kept.{keep}
use Rattle.pst_syntax_problems.specs.PlacedModel.{callbacks_faults_at}
use Rattle.pst_syntax_problems.specs.SeenShapes.{callbacks_in}
use Rattle.pst_syntax_problems.proofs.item_part_faults.add_faults_of_callbacks_and_missing_ones.Given as goal

abbrev pub invariant-loop-form : goal.invariant-loop-form
invariant-loop-form l = record {
  number : l.number ≡ l.form-index + 4;
  same : keep l.walk.limit l.fn.faults (callbacks_faults_at l.walk.has_maps [] l.path 4 l.forms)
      ≡ keep l.walk.limit l.faults (callbacks_faults_at l.walk.has_maps (callbacks_in l.seen) l.path l.number (drop l.form-index l.forms));
}
