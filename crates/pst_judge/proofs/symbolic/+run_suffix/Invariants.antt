use Rattle.std.proofs.Common.{length}
use Rattle.pst_judge.proofs.symbolic.+run_suffix.Given as goal

abbrev pub decreases-run_suffix : goal.decreases-run_suffix
decreases-run_suffix g l = length l.commands.now
