use Rattle.std.proofs.Common.{List, subst}
use Rattle.pst_cli.specs.Losses.{AddsLosses}
use Rattle.pst_cli.specs.declared.losses.LostTrials.{LostTrials}
use Rattle.pst_ledger.specs.declared.entry.Cause.TheVariants.{ResetFailed}
use Rattle.pst_cli.proofs.Losing.{all_losses}
use Rattle.pst_cli.proofs.losses.lost_trials_by_cause.Goals as goal

pub returns : goal.returns
returns c =
    let entries = c.args.entries.now in
    let first = c.add_trials_lost_for_cause.new.losses.items in
    let Adds : List LostTrials → Type 0 = λ before. AddsLosses entries ResetFailed before first in
    all_losses entries first _ _ (subst Adds c.new-losses.ensures.items c.in_ok-add_trials_lost_for_cause.ensures)
    c.in_ok-add_trials_lost_for_cause-2.ensures c.in_ok-add_trials_lost_for_cause-3.ensures
