-- Losses for one cause, added to those for others.
use Rattle.std.specs.Prelude.{List}
use Rattle.std.specs.List.{All}
use Rattle.pst_cli.specs.CampaignFailures.{HasLossesFor, IsLoss}
use Rattle.pst_cli.specs.declared.losses.LostTrials.{LostTrials}
use Rattle.pst_ledger.specs.declared.entry.Cause.{Cause}
use Rattle.pst_ledger.specs.declared.entry.Entry.{Entry}
use Rattle.pst_trial.specs.RecordView.{RecordView}

-- the losses for the cause are there afterwards, with those that were there before
pub record AddsLosses (entries : List (Entry RecordView)) (cause : Cause) (before after : List LostTrials) : Type 0 where
  pub each : All (IsLoss entries) before → All (IsLoss entries) after
  pub has : HasLossesFor entries after cause
  pub kept : (other : Cause) → HasLossesFor entries before other → HasLossesFor entries after other
