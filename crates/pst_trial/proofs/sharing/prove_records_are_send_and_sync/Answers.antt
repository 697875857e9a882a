use denote.Param.Send.{IsSend, IsSync, view_send, view_sync, sendable}
use denote.Param.SendFields.{declared_send, declared_sync}
use Rattle.pst_trial.proofs.sharing.prove_records_are_send_and_sync.Goals as goal
use Rattle.pst_trial.specs.contracts.record.TrialOutcome.{the_row as outcome_row}
use Rattle.pst_trial.specs.contracts.record.Record.TheInside.{the_type}
use Rattle.std.proofs.Crossing.{Arc-send, Arc-sync}

pub returns-clause-sent : goal.returns-clause-sent
returns-clause-sent c =
    let o : IsSend outcome_row = c.prove_outcomes_are_send_and_sync.ensures.sent in
    let arc = Arc-send _ c.prove_plans_are_send_and_sync.ensures.sent c.prove_plans_are_send_and_sync.ensures.shared in
    view_send _ _ _ _ _ (declared_send the_type (arc, (search sendable, (o, tt))))

pub returns-clause-shared : goal.returns-clause-shared
returns-clause-shared c =
    let o : IsSync outcome_row = c.prove_outcomes_are_send_and_sync.ensures.shared in
    let arc = Arc-sync _ c.prove_plans_are_send_and_sync.ensures.sent c.prove_plans_are_send_and_sync.ensures.shared in
    view_sync _ _ _ _ _ (declared_sync the_type (arc, (search sendable, (o, tt))))
