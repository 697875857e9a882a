use Rattle.std.proofs.Common.{◌≡◌, [], drop}
use Rattle.pst_syntax_problems.specs.Kept.{keep}
use Rattle.pst_syntax_problems.specs.PlacedModel.{params_after_at}
use Rattle.pst_syntax_problems.specs.SeenShapes.{params_in}
use Rattle.pst_syntax_problems.proofs.item_part_faults.add_faults_of_each_parameter.Given as goal

abbrev pub invariant-loop-form : goal.invariant-loop-form
invariant-loop-form l = record {
  number : l.number ≡ l.form-index;
  same : keep l.walk.limit l.fn.faults (params_after_at l.walk.has_maps [] l.path 0 l.forms)
      ≡ keep l.walk.limit l.faults (params_after_at l.walk.has_maps (params_in l.seen) l.path l.number (drop l.form-index l.forms));
}
