-- What contracts see of a campaign that has ended.
use Rattle.std.specs.Prelude.{◌≡◌, List, length}
use Rattle.pst_ledger.specs.declared.entry.Entry.{Entry}
use Rattle.pst_report.specs.InOrder.{AreOf}
use Rattle.pst_trial.specs.PlanView.{PlanView}
use Rattle.pst_trial.specs.RecordView.{RecordView}

-- its plan, and what came of each number
pub record CampaignView : Type 0 where
  pub plan : PlanView
  pub entries : List (Entry RecordView)

-- each trial of the plan has an entry, and each record is of the plan and at its own number
pub record IsComplete (c : CampaignView) : Type 0 where
  pub count : length c.entries ≡ c.plan.settings.trials
  pub records : AreOf c.plan 0 c.entries
