-- How `pst campaign` ends: with what its trials came to, which it reports, or before the first trial.
use Rattle.std.specs.Prelude.{◌≡◌, ℕ, List, ◌++◌, length}
use Rattle.pst_campaign.specs.Working.{AllGivenUnless, HasWorkers, IsCampaignFault}
use Rattle.pst_campaign.specs.declared.campaigns.CampaignFault.{CampaignFault}
use Rattle.pst_campaign.specs.declared.campaigns.CampaignFault.TheVariants.{NoMemory}
use Rattle.pst_cli.specs.Answering.{refusal_of}
use Rattle.pst_cli.specs.CampaignOutput.{Gives, plan_of, campaign_line, status_after}
use Rattle.pst_cli.specs.CampaignView.{CampaignView}
use Rattle.pst_cli.specs.declared.answer.OutputForm.{OutputForm}
use Rattle.pst_cli.specs.declared.answer.OutputForm.TheVariants as output
use Rattle.pst_cli.specs.declared.answer.Status.{Status}
use Rattle.pst_cli.specs.declared.answer.Status.TheVariants.{Refused, Lost}
use Rattle.pst_cli.specs.declared.campaign.UndrawnTrials.{UndrawnTrials}
use Rattle.pst_cli.specs.declared.campaign.UndrawnTrials.TheVariants.{Missing, LeftOut}
use Rattle.pst_ledger.specs.declared.entry.Entry.{Entry}
use Rattle.pst_model.specs.declared.model.Source.{Source}
use Rattle.pst_rejudge.specs.Objects.{object_line}
use Rattle.pst_rejudge.specs.declared.field.Field.{Field}
use Rattle.pst_report.specs.Object.{report_fields}
use Rattle.pst_report.specs.Status.{ended_status, made_status}
use Rattle.pst_report.specs.Text.{report_text}
use Rattle.pst_report.specs.declared.status.CampaignStatus.{CampaignStatus}
use Rattle.pst_sexpr.specs.declared.form.Form.{Form}
use Rattle.pst_trial.specs.RecordView.{RecordView}
use Rattle.pst_trial.specs.declared.plan.Settings.{Settings}
use Rattle.pst_typing.specs.Loading.{Holds, IsRefusal}
use Rattle.pst_typing.specs.declared.loading.Refusal.{Refusal}

-- ---- what is written of a campaign that has ended

-- how its trials ended: those that were not made are missing, or they are left out
abbrev pub status_by : UndrawnTrials → List (Entry RecordView) → CampaignStatus
status_by Missing entries = ended_status entries
status_by LeftOut entries = made_status entries

module _ (undrawn : UndrawnTrials) where
  -- the object of its report, on its line; of the members after the counts nothing is said
  abbrev pub IsReportObject : CampaignView → List ℕ → Type 0
  IsReportObject c text =
      (more : List Field) × (text ≡ object_line (report_fields c.plan (status_by undrawn c.entries) c.entries ++ more))

  -- its report, or the object of its report
  abbrev pub IsReportIn : OutputForm → CampaignView → List ℕ → Type 0
  IsReportIn output.Text c text = text ≡ report_text c.plan c.entries
  IsReportIn output.Json c text = IsReportObject c text

  -- this, with the status of the trials that ended
  pub record IsReportOf (form : OutputForm) (c : CampaignView) (text : List ℕ) (status : Status) : Type 0 where
    pub report : IsReportIn form c text
    pub ending : status ≡ status_after (status_by undrawn c.entries)

-- ---- which campaign it is

module _ {S : Type 0} (may_end : Type 0) (may_give : Gives S) (settings : Settings) (systems : List S) where
  -- A campaign on a model, with 1 to 16 systems: each number of its plan has an entry that one of the systems may give
  -- for it, or is undrawn if the campaign may end early.
  pub record IsEndFor (m : Source) (c : CampaignView) : Type 0 where
    pub workers : HasWorkers (length systems)
    pub plan : c.plan ≡ plan_of m settings
    pub count : length c.entries ≡ settings.trials
    pub given : AllGivenUnless may_end (λ s. may_give s (plan_of m settings)) systems c.entries

  -- a campaign on the model that the input begins with
  pub record IsEndOf (input : List ℕ) (c : CampaignView) : Type 0 where
    pub model : Source
    pub trees : List Form
    pub holds : Holds input model trees
    pub ended : IsEndFor model c

-- ---- what is written if no trial began

module _ {S : Type 0} (form : OutputForm) (systems : List S) where
  -- The refusal of the model; or, as text, the fault of a campaign on the model with this number of systems, which is not
  -- that an allocation failed.
  pub data IsNotBegun (input text : List ℕ) (status : Status) : Type 0 where
    not_loaded : (refusal : Refusal) → IsRefusal input refusal → text ≡ refusal_of form refusal → status ≡ Refused
        → IsNotBegun input text status
    not_begun : (m : Source) (trees : List Form) → Holds input m trees
        → (fault : CampaignFault) → IsCampaignFault (length systems) fault → (fault ≡ NoMemory → ⊥)
        → form ≡ output.Text → text ≡ campaign_line fault → status ≡ Lost
        → IsNotBegun input text status

-- ---- the output

module _ {S : Type 0} (form : OutputForm) (undrawn : UndrawnTrials) (may_end : Type 0) (may_give : Gives S) (settings : Settings)
    (systems : List S) where
  -- the report of a campaign on the model that the input begins with; or what is written if no trial began
  pub data IsEarlyOutput (input text : List ℕ) (status : Status) : Type 0 where
    ended : (c : CampaignView) → IsEndOf may_end may_give settings systems input c → IsReportOf undrawn form c text status
        → IsEarlyOutput input text status
    unbegun : IsNotBegun form systems input text status → IsEarlyOutput input text status
