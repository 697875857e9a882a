use Rattle.std.proofs.Common.{length}
use Rattle.pst_scene.proofs.faulty.+add_parameter_bindings.Given as goal

abbrev pub decreases-add_parameter_bindings : goal.decreases-add_parameter_bindings
decreases-add_parameter_bindings l = length l.params.now
