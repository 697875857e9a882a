use Rattle.std.proofs.Common.{length}
use Rattle.pst_runs.proofs.reading.+first_reading_fault_in_branches.Given as goal

abbrev pub decreases-first_reading_fault_in_branches : goal.decreases-first_reading_fault_in_branches
decreases-first_reading_fault_in_branches l = length l.branches.now
