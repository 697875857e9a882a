use Rattle.pst_run_problems.proofs.Points.{fault_refused}
use Rattle.pst_run_problems.proofs.laws.place_of_case_form_fault_is_refused.Goals as goal

pub returns : goal.returns
returns c = fault_refused
