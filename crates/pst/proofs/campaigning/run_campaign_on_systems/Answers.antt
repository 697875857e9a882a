use Rattle.std.proofs.Common.{inl, inr, refl}
use Rattle.pst.proofs.Endings.{are_made, is_absence_by, is_lost, is_sent, trials_meant}
use Rattle.pst.proofs.campaigning.run_campaign_on_systems.Goals as goal
use Rattle.pst_cli.specs.declared.absent.Absence.TheVariants.{NoSystem}

pub returns-in-Err : goal.returns-in-Err
returns-in-Err g c = inr (inr (c.in-Err.why, c.in-Err.ensures.absent, c.refuse.ensures))

pub returns-then-is_empty : goal.returns-then-is_empty
returns-then-is_empty g c =
    inr (inr (
      NoSystem c.args.campaign.system,
      is_absence_by c.in-Ok.systems c.args.campaign.system c.is_empty.result c.in-Ok.ensures.made c.is_empty.ensures c.if-is_empty.true,
      c.refuse-then-is_empty.ensures,
    ))

pub returns : goal.returns
returns g c =
    let made = are_made c.in-Ok.systems c.in-Ok.systems.items c.in-Ok.ensures.made refl in
    let reports = trials_meant _ _ _ c.plain_input-plain.ensures _ _ _ _ _ _ c.run_campaign_with_progress-status.ensures in
    elim c.write_beside_report-beside.ensures [
      | inl a ↦
          let same = is_sent c.run_campaign_with_progress-status.result.0 c.write_beside_report-beside.result _ a c.or_worse.ensures in
          inl (c.in-Ok.systems.items, made, rw same reports)
      | inr w ↦
          let lost = is_lost c.run_campaign_with_progress-status.result.0 c.write_beside_report-beside.result _ w.1 c.or_worse.ensures in
          inr (inl (w.0, lost, (c.run_campaign_with_progress-status.result.0, (c.in-Ok.systems.items, made, reports))))
    ]
