-- The output of `pst campaign`: a text and a status, for an input, the settings of the trials, and the
-- systems.
use Rattle.std.specs.Prelude.{◌≡◌, ℕ, List, ◌++◌, length, codes}
use Rattle.pst_campaign.specs.FaultName.{fault_name}
use Rattle.pst_campaign.specs.Working.{AllGiven, HasWorkers, IsCampaignFault}
use Rattle.pst_campaign.specs.declared.campaigns.CampaignFault.{CampaignFault}
use Rattle.pst_campaign.specs.declared.campaigns.CampaignFault.TheVariants.{NoMemory}
use Rattle.pst_cli.specs.Head.{refusal_line, line_end}
use Rattle.pst_cli.specs.declared.answer.Status.{Status}
use Rattle.pst_cli.specs.declared.answer.Status.TheVariants.{Accepted, Failed, Refused, Lost}
use Rattle.pst_ledger.specs.declared.entry.Entry.{Entry}
use Rattle.pst_model.specs.declared.model.Source.{Source}
use Rattle.pst_report.specs.Status.{campaign_status}
use Rattle.pst_report.specs.Text.{report_text}
use Rattle.pst_report.specs.declared.status.CampaignStatus.{CampaignStatus}
use Rattle.pst_report.specs.declared.status.CampaignStatus.TheVariants as campaign
use Rattle.pst_sexpr.specs.declared.form.Form.{Form}
use Rattle.pst_trial.specs.PlanView.{PlanView}
use Rattle.pst_trial.specs.RecordView.{RecordView}
use Rattle.pst_trial.specs.declared.plan.Settings.{Settings}
use Rattle.pst_typing.specs.Loading.{Holds, IsRefusal}
use Rattle.pst_typing.specs.declared.loading.Refusal.{Refusal}

-- the plan of a model with the settings
abbrev pub plan_of : Source → Settings → PlanView
plan_of m settings = record { model = m; settings = settings }

-- `refused campaign KIND`
abbrev pub campaign_line : CampaignFault → List ℕ
campaign_line fault = codes "refused campaign " ++ (fault_name fault ++ line_end)

-- Lost where a number is lost, held or undrawn; else Failed where a trial did not pass; else Accepted
abbrev pub status_after : CampaignStatus → Status
status_after campaign.Passed = Accepted
status_after campaign.Failed = Failed
status_after campaign.Incomplete = Lost

-- which entries the trial of a number of a plan may come to on a system
abbrev pub Gives : Type 0 → Type 1
Gives S = S → PlanView → ℕ → Entry RecordView → Type 0

module _ {S : Type 0} (may_give : Gives S) (settings : Settings) (systems : List S) where
  -- The output for a well-typed model: if there are 1 to 16 systems the report of a list in which each number of the
  -- plan has an entry that one of the systems may give for it; or the fault of a campaign with this number of systems,
  -- which is not that an allocation failed.
  pub data IsOutputFor (m : Source) (text : List ℕ) (status : Status) : Type 0 where
    reported : HasWorkers (length systems) → (entries : List (Entry RecordView)) → length entries ≡ settings.trials
        → AllGiven (λ s. may_give s (plan_of m settings)) systems entries
        → text ≡ report_text (plan_of m settings) entries
        → status ≡ status_after (campaign_status entries)
        → IsOutputFor m text status
    not_started : (fault : CampaignFault) → IsCampaignFault (length systems) fault → (fault ≡ NoMemory → ⊥)
        → text ≡ campaign_line fault → status ≡ Lost
        → IsOutputFor m text status

  -- the output for the model that the input begins with; or its first refusal
  pub data IsCampaignOutput (input text : List ℕ) (status : Status) : Type 0 where
    accepted : (m : Source) (trees : List Form) → Holds input m trees → IsOutputFor m text status
        → IsCampaignOutput input text status
    refused : (refusal : Refusal) → IsRefusal input refusal
        → text ≡ refusal_line refusal → status ≡ Refused
        → IsCampaignOutput input text status
