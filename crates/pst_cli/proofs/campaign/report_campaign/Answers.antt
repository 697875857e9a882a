use Rattle.pst_cli.proofs.Campaigning.{AreTold, end_of, output_of, shown_of}
use Rattle.pst_cli.proofs.Printing.{reaches}
use Rattle.pst_cli.proofs.campaign.report_campaign.Goals as goal

pub returns : goal.returns
returns g c =
    let told : AreTold _ _ _ _ _ _ _ c.run_trials_of_input-ended.result c.answer_and_end-answer.result.0 c.answer_and_end-answer.result.1 = record {
      is_end = c.run_trials_of_input-ended.ensures.end;
      is_refusal = c.run_trials_of_input-ended.ensures.refusal;
      same = c.answer_and_end-answer.ensures.end;
      report = c.answer_and_end-answer.ensures.report;
      refusal = c.answer_and_end-answer.ensures.refusal;
    } in
    let sent = rw c.memory_text.ensures at c.deliver.ensures in
    let answer = c.answer_and_end-answer.result.0 in
    let end = c.answer_and_end-answer.result.1 in record {
      prints = reaches _ _ _ answer (output_of _ _ _ _ _ _ _ c.run_trials_of_input-ended.result answer end told) sent;
      same = end_of _ _ _ _ _ _ _ c.run_trials_of_input-ended.result answer end told;
      shown = shown_of _ _ _ _ _ _ _ _ _ c.run_trials_of_input-ended.result answer end told sent;
    }
