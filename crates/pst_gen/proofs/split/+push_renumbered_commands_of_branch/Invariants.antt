use Rattle.std.proofs.Common.{length}
use Rattle.pst_gen.proofs.split.+push_renumbered_commands_of_branch.Given as goal

abbrev pub decreases-push_renumbered_commands_of_branch : goal.decreases-push_renumbered_commands_of_branch
decreases-push_renumbered_commands_of_branch l = length l.branches.now
