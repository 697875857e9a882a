use Rattle.pst_driver.proofs.Naming.{first_fault, later_fault, some_length}
use Rattle.pst_driver.proofs.kept.+run_branches_with_crew.Goals as goal
use Rattle.pst_driver.specs.Progress.{IsBranchFault}

pub returns-in-Err : goal.returns-in-Err
returns-in-Err g t c =
    let from : IsBranchFault c.in-Some.others.now c.in-Err.fault = rw c.in-Err.is at c.run_branches_with_crew-more.ensures in
    rw c.in-Some.ensures.cases.0 (later_fault c.in-Some.first.now c.in-Some.others.now c.in-Err.fault from)

pub returns-in-Err-own : goal.returns-in-Err-own
returns-in-Err-own g t c =
    rw c.in-Some.ensures.cases.0
    (first_fault c.in-Some.first.now c.in-Some.others.now c.in-Err-own.fault
    (some_length c.is_empty.result c.in-Some.first.now c.if-is_empty.false c.is_empty.ensures) c.in-Err-own.ensures.fault)
