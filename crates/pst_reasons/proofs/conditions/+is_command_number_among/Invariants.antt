use Rattle.std.proofs.Common.{length}
use Rattle.pst_reasons.proofs.conditions.+is_command_number_among.Given as goal

abbrev pub decreases-is_command_number_among : goal.decreases-is_command_number_among
decreases-is_command_number_among l = length l.numbers.now
