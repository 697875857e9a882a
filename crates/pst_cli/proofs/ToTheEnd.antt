-- A campaign that does not end early has the output of one whose trials all run.
use Rattle.std.proofs.Common.{◌≡◌, ◌⊎◌, inl, inr, ℕ, suc, Bool, true, false, List, [], ◌∷◌, Option, Some, refl, ap, sym, ◌∙◌}
use Rattle.std.proofs.Math.Bool.{or-false, and-true}
use Rattle.std.specs.Prelude.{slice_get, not, if◌then◌else◌, ◌&&◌, ◌||◌}
use Rattle.std.specs.List.{list_any}
use Rattle.pst_campaign.specs.Entries.{MayGive}
use Rattle.pst_campaign.proofs.Given.{all_given_to_the_end}
use Rattle.pst_cli.specs.CampaignOutput.{Gives, plan_of, status_after, reported, not_started, IsCampaignOutput, accepted, refused}
use Rattle.pst_cli.specs.CampaignEnd.{IsEarlyOutput, ended, not_begun, not_loaded, unbegun}
use Rattle.pst_cli.specs.Sending.{Prints}
use Rattle.pst_cli.specs.declared.answer.OutputForm.TheVariants as form
use Rattle.pst_cli.specs.declared.answer.Status.{Status}
use Rattle.pst_cli.specs.declared.campaign.UndrawnTrials.TheVariants.{Missing}
use Rattle.pst_judge.specs.declared.judgement.Verdict.{Verdict}
use Rattle.pst_judge.specs.declared.judgement.Verdict.TheVariants as verdict
use Rattle.pst_ledger.specs.declared.entry.Entry.{Entry}
use Rattle.pst_ledger.specs.declared.entry.Entry.TheVariants as entry
use Rattle.pst_report.specs.Kinds.{kind_of_verdict, kind_of_outcome, own_failure, is_same}
use Rattle.pst_report.specs.Status.{is_missing, is_failed, is_lost, is_undrawn, did_not_pass, campaign_status, ended_status}
use Rattle.pst_report.specs.Text.{report_text}
use Rattle.pst_report.specs.declared.status.EntryKind.TheVariants as kind
use Rattle.pst_report.specs.declared.status.CampaignStatus.TheVariants.{Passed, Failed, Incomplete}
use Rattle.pst_system.specs.Kept.{Answers, Fails, ResetFails}
use Rattle.pst_trial.specs.PlanView.{PlanView}
use Rattle.pst_trial.specs.RecordView.{RecordView}
use Rattle.pst_trial.specs.declared.record.TrialOutcome.{TrialOutcome}
use Rattle.pst_trial.specs.declared.record.TrialOutcome.TheVariants as outcome
use Rattle.pst_trial.specs.declared.plan.Settings.{Settings}

verdict_is_drawn : (v : Verdict) → is_same (kind_of_verdict v) kind.Undrawn ≡ false
verdict_is_drawn (verdict.Explained word) = refl
verdict_is_drawn (verdict.Faulted place) = refl
verdict_is_drawn (verdict.Unexplained far) = refl
verdict_is_drawn (verdict.Broken command) = refl

outcome_is_drawn : (o : TrialOutcome) → is_same (kind_of_outcome o) kind.Undrawn ≡ false
outcome_is_drawn (outcome.GenFaulted place) = refl
outcome_is_drawn (outcome.Passed case runs) = refl
outcome_is_drawn (outcome.Failed earlier shrunk) = verdict_is_drawn (own_failure shrunk).history.verdict

given_is_drawn : (A : Answers) (F : Fails) (R : ResetFails) (p : PlanView) (k : ℕ) (e : Entry RecordView)
    → MayGive A F R p k e → is_undrawn e ≡ false
given_is_drawn A F R p k entry.Undrawn h = absurd h
given_is_drawn A F R p k entry.Held h = absurd h
given_is_drawn A F R p k (entry.Done r) h = outcome_is_drawn r.outcome
given_is_drawn A F R p k (entry.Lost cause) h = refl

lost_is_missing : (e : Entry RecordView) → is_undrawn e ≡ false → is_lost e ≡ is_missing e
lost_is_missing e drawn = sym (ap (λ b. is_lost e || b) drawn ∙ or-false (is_lost e))

not_passed_is_failed : (e : Entry RecordView) → is_undrawn e ≡ false → did_not_pass e ≡ is_failed e
not_passed_is_failed e drawn = ap (λ b. is_failed e && not b) drawn ∙ and-true (is_failed e)

-- two tests that agree on each entry agree on the list
any_same : {X : Type 0} (f g : X → Bool) (xs : List X) → ((k : ℕ) (x : X) → slice_get xs k ≡ Some x → f x ≡ g x)
    → list_any f xs ≡ list_any g xs
any_same f g [] same = refl
any_same f g (x ∷ xs) same =
    ap (λ b. b || list_any f xs) (same 0 x refl) ∙ ap (λ b. g x || b) (any_same f g xs (λ k y at. same (suc k) y at))

same_choice : (a b : Bool) → (if a then Incomplete else if b then Failed else if a then Incomplete else Passed)
    ≡ (if a then Incomplete else if b then Failed else Passed)
same_choice true b = refl
same_choice false b = refl

-- where each number is drawn the two ways to tell how a campaign ended agree
same_status : (entries : List (Entry RecordView))
    → ((k : ℕ) (e : Entry RecordView) → slice_get entries k ≡ Some e → is_undrawn e ≡ false)
    → ended_status entries ≡ campaign_status entries
same_status entries drawn =
    let missing = list_any is_missing entries in
    let failed = list_any is_failed entries in
    let lost : list_any is_lost entries ≡ missing
    = any_same is_lost is_missing entries (λ k e at. lost_is_missing e (drawn k e at)) in
    let bad : list_any did_not_pass entries ≡ failed
    = any_same did_not_pass is_failed entries (λ k e at. not_passed_is_failed e (drawn k e at)) in
    ap (λ b. if b then Incomplete else if list_any did_not_pass entries then Failed else if missing then Incomplete else Passed) lost
    ∙ (ap (λ b. if missing then Incomplete else if b then Failed else if missing then Incomplete else Passed) bad
    ∙ same_choice missing failed)

module _ {S : Type 0} (A : S → Answers) (F : S → Fails) (R : S → ResetFails) (settings : Settings) (systems : List S) where
  abbrev Give : Gives S
  Give = λ s. MayGive (A s) (F s) (R s)

  pub whole : (input text : List ℕ) (status : Status)
      → IsEarlyOutput form.Text Missing ⊥ Give settings systems input text status → IsCampaignOutput Give settings systems input text status
  whole input text status (ended c is output) =
      let all = all_given_to_the_end (λ s. Give s (plan_of is.model settings)) systems c.entries is.ended.given in
      let same = same_status c.entries (λ k e at.
      let one = all k e at in given_is_drawn (A one.1) (F one.1) (R one.1) (plan_of is.model settings) k e one.3) in
      accepted is.model is.trees is.holds (reported is.ended.workers c.entries is.ended.count all
      (output.report ∙ ap (λ p. report_text p c.entries) is.ended.plan) (output.ending ∙ ap status_after same))
  whole input text status (unbegun (not_loaded refusal is is_text is_status)) = refused refusal is is_text is_status
  whole input text status (unbegun (not_begun m trees holds fault deserved reason as_text is_text is_status)) =
      accepted m trees holds (not_started fault deserved reason is_text is_status)

printed_so : (P Q : List ℕ → Status → Type 0) → ((text : List ℕ) (status : Status) → P text status → Q text status)
    → (text : List ℕ) (status : Status) (Z : Type 0) → P text status ⊎ Z → Q text status ⊎ Z
printed_so P Q so text status Z (inl p) = inl (so text status p)
printed_so P Q so text status Z (inr z) = inr z

-- what prints an output prints what each such output is
pub prints_so : (P Q : List ℕ → Status → Type 0) → ((text : List ℕ) (status : Status) → P text status → Q text status)
    → (before after : Option (List ℕ)) (broken : Bool) (answer : Status) → Prints P before after broken answer → Prints Q before after broken answer
prints_so P Q so before after broken answer h = record {
  text = h.text;
  status = h.status;
  lawful = printed_so P Q so h.text h.status _ h.lawful;
  sent = h.sent;
}
