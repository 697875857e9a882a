use denote.Param.SendFields.{variants_send, variants_sync}
use Rattle.pst_trial.specs.contracts.record.TrialOutcome.{enum}
use Rattle.pst_trial.proofs.sharing.prove_outcomes_are_send_and_sync.Goals as goal

pub returns-clause-sent : goal.returns-clause-sent
returns-clause-sent c =
    let e = c.prove_outcome_parts_are_send_and_sync.ensures in
    variants_send enum ((e.place_sent, tt), ((e.case_sent, (e.runs_sent, tt)), ((e.runs_sent, (e.shrunk_sent, tt)), tt)))

pub returns-clause-shared : goal.returns-clause-shared
returns-clause-shared c =
    let e = c.prove_outcome_parts_are_send_and_sync.ensures in
    variants_sync enum ((e.place_shared, tt), ((e.case_shared, (e.runs_shared, tt)), ((e.runs_shared, (e.shrunk_shared, tt)), tt)))
