use Rattle.std.proofs.Common.{length}
use Rattle.pst_judge.proofs.unknown_calls.BrokenRule.+first_in_part.Given as goal

abbrev pub decreases-first_in_part : goal.decreases-first_in_part
decreases-first_in_part g l = length l.commands.now
