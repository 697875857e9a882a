use Rattle.std.proofs.Common.{length}
use Rattle.pst_scene.proofs.attempt.+last_function_named.Given as goal

abbrev pub decreases-last_function_named : goal.decreases-last_function_named
decreases-last_function_named l = length l.items.now
