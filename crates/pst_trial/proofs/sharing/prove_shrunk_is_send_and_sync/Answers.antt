use denote.Param.Send.{sendable}
use denote.Param.SendFields.{declared_send, declared_sync}
use Rattle.pst_shrink.specs.contracts.shrinking.Shrunk.{the_type}
use Rattle.pst_trial.specs.contracts.record.JudgedRun.{the_row as run_row}
use Rattle.pst_trial.proofs.sharing.prove_shrunk_is_send_and_sync.Goals as goal

pub returns-clause-sent : goal.returns-clause-sent
returns-clause-sent c =
    let e = c.prove_failing_cases_are_send_and_sync.ensures in
    declared_send (the_type run_row) (e.all_taken_sent, (e.taken_sent, (e.tried_sent, (search sendable, tt))))

pub returns-clause-shared : goal.returns-clause-shared
returns-clause-shared c =
    let e = c.prove_failing_cases_are_send_and_sync.ensures in
    declared_sync (the_type run_row) (e.all_taken_shared, (e.taken_shared, (e.tried_shared, (search sendable, tt))))
