use Rattle.std.proofs.Common.{◌≡◌, ◌+◌, [], drop}
use Rattle.pst_syntax_problems.specs.Kept.{keep}
use Rattle.pst_syntax_problems.specs.PlacedModel.{items_faults_at}
use Rattle.pst_syntax_problems.specs.SeenShapes.{items_in}
use Rattle.pst_syntax_problems.proofs.model_faults.add_faults_of_items_and_missing_ones.Given as goal

abbrev pub invariant-loop-form : goal.invariant-loop-form
invariant-loop-form l = record {
  number : l.number ≡ l.form-index + 2;
  same : keep l.walk.limit l.fn.faults (items_faults_at l.walk.has_maps [] l.path 2 l.forms)
      ≡ keep l.walk.limit l.faults (items_faults_at l.walk.has_maps (items_in l.seen) l.path l.number (drop l.form-index l.forms));
}
