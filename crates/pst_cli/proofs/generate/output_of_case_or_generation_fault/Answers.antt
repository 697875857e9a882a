use Rattle.std.proofs.Common.{rules, refl}
use Rattle.pst_cli.specs.GenerateOutput.{generated, faulted}
use Rattle.pst_cli.proofs.generate.output_of_case_or_generation_fault.Goals as goal

pub returns-in_ok-text-in-Ok : goal.returns-in_ok-text-in-Ok
returns-in_ok-text-in-Ok c = generated c.in-Ok.valid.case (search rules) (search rules) refl

pub returns-in_ok-generation_fault_line_in_form-in-Err : goal.returns-in_ok-generation_fault_line_in_form-in-Err
returns-in_ok-generation_fault_line_in_form-in-Err c = faulted c.in-Err.place (search rules) (search rules) refl
