use Rattle.std.proofs.Common.{List, sym, subst}
use Rattle.pst_cli.specs.Losses.{AddsLosses}
use Rattle.pst_cli.specs.declared.losses.LostTrials.{LostTrials}
use Rattle.pst_cli.proofs.Losing.{adds_one}
use Rattle.pst_cli.proofs.losses.add_trials_lost_for_cause.Goals as goal

pub returns-in_ok-push : goal.returns-in_ok-push
returns-in_ok-push c =
    let before = c.args.losses.now.items in
    let Adds : List LostTrials → Type 0 = λ after. AddsLosses c.args.entries.now c.args.cause before after in
    let lost = c.in_ok-lost.lost in
    subst Adds (sym c.in_ok-push.ensures.items) (adds_one c.args.entries.now c.args.cause lost c.in_ok-lost.ensures.cause c.in_ok-lost.ensures.loss before)
