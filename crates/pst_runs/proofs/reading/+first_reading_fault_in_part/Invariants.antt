use Rattle.std.proofs.Common.{length}
use Rattle.pst_runs.proofs.reading.+first_reading_fault_in_part.Given as goal

abbrev pub decreases-first_reading_fault_in_part : goal.decreases-first_reading_fault_in_part
decreases-first_reading_fault_in_part l = length l.commands.now
