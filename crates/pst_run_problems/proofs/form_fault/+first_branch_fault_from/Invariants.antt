use Rattle.std.proofs.Common.{length}
use Rattle.pst_run_problems.proofs.form_fault.+first_branch_fault_from.Given as goal

abbrev pub decreases-first_branch_fault_from : goal.decreases-first_branch_fault_from
decreases-first_branch_fault_from l = length l.forms.now
