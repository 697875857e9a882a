-- Whole answers within the crate.
use Rattle.std.specs.Prelude.{◌≡◌, ◌⊎◌, ℕ, true, List}
use Rattle.pst_campaign.specs.declared.campaigns.CampaignFault.{CampaignFault}
use Rattle.pst_campaign.specs.declared.campaigns.CampaignFault.TheVariants.{NoMemory}
use Rattle.pst_cli.specs.CampaignOutput.{campaign_line}
use Rattle.pst_cli.specs.JsonOutput.{shown_objects}
use Rattle.pst_cli.specs.KeepingOn.{shown_answer_lines}
use Rattle.pst_cli.specs.declared.answer.Answer.{Answer}
use Rattle.pst_cli.specs.declared.answer.OutputForm.{OutputForm}
use Rattle.pst_cli.specs.declared.answer.OutputForm.TheVariants as output
use Rattle.pst_cli.specs.declared.answer.Status.{Status}
use Rattle.pst_cli.specs.declared.answer.Status.TheVariants.{Refused, Lost}
use Rattle.pst_cli.specs.declared.lines.Shown.{Shown}
use Rattle.pst_rejudge.specs.declared.reading.ItemResult.{ItemResult}

-- the answer is an output; if it refuses the whole input its status is Refused or Lost
pub record Answers (IsOutput : List ℕ → Status → Type 0) (a : Answer) : Type 0 where
  pub output : IsOutput a.text.items a.status
  pub refusing : a.refuses ≡ true → (a.status ≡ Refused) ⊎ (a.status ≡ Lost)

-- the answer refuses the whole input by this text, with this status
pub record IsRefusalBy (text : List ℕ) (status : Status) (a : Answer) : Type 0 where
  pub text_is : a.text.items ≡ text
  pub status_is : a.status ≡ status
  pub refusing : a.refuses ≡ true

-- the lines or the objects of the items that are shown
abbrev pub shown_results : OutputForm → Shown → List ItemResult → List ℕ
shown_results output.Text which answers = shown_answer_lines which answers
shown_results output.Json which answers = shown_objects which 1 answers

-- ---- `pst campaign`

-- the line of a campaign that did not start for another reason than that an allocation failed, as text
pub record IsRefusedCampaign (form : OutputForm) (fault : CampaignFault) (a : Answer) : Type 0 where
  pub as_text : form ≡ output.Text
  pub reason : fault ≡ NoMemory → ⊥
  pub refusal : IsRefusalBy (campaign_line fault) Lost a
