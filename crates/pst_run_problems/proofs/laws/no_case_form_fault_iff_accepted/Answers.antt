use Rattle.pst_run_problems.proofs.FormAgrees.{form_agrees}
use Rattle.pst_run_problems.proofs.laws.no_case_form_fault_iff_accepted.Goals as goal

pub returns : goal.returns
returns c = λ m form. (form_agrees m form).same
