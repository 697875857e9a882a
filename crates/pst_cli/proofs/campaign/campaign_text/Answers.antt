use Rattle.pst_cli.proofs.Campaigning.{AreTold, output_of}
use Rattle.pst_cli.proofs.Printing.{prints}
use Rattle.pst_cli.proofs.ToTheEnd.{whole, prints_so}
use Rattle.pst_cli.proofs.campaign.campaign_text.Goals as goal

pub returns : goal.returns
returns g c =
    let told : AreTold _ _ _ _ _ _ _ c.run_trials_of_input-ended.result c.answer_and_end-answer.result.0 c.answer_and_end-answer.result.1 = record {
      is_end = c.run_trials_of_input-ended.ensures.end;
      is_refusal = c.run_trials_of_input-ended.ensures.refusal;
      same = c.answer_and_end-answer.ensures.end;
      report = c.answer_and_end-answer.ensures.report;
      refusal = c.answer_and_end-answer.ensures.refusal;
    } in
    prints_so _ _ (whole _ _ _ c.args.settings c.args.systems.items c.args.input.now) _ _ _ _
    (prints _ _ _ _ _ _ (output_of _ _ _ _ _ _ _ _ _ _ told) c.send.ensures)
