-- What the trials of a plan came to, and what is written of it.
use Rattle.std.proofs.Common.{◌≡◌, ◌⊎◌, inl, inr, ℕ, suc, ◌+◌, List, [], ◌∷◌, ◌++◌, length, Option, Some, None, Result, Ok, Err, IfOk, Vec, Global, refl, ap, sym, ◌∙◌, subst, add-zero, arith}
use Rattle.std.specs.Prelude.{slice_get, Bool, IfErr, IfSome, MatchOption, MatchResult}
use Rattle.std.specs.declared.alloc.AllocError.{AllocError}
use Rattle.pst_campaign.specs.Entries.{MayGive}
use Rattle.pst_campaign.specs.Working.{AllGivenUnless, HasWorkers, IsCampaignFault}
use Rattle.pst_campaign.specs.declared.campaigns.CampaignFault.{CampaignFault}
use Rattle.pst_cli.specs.Answering.{Reaches, refusal_of, refuses, sent_status, sent_text}
use Rattle.pst_cli.specs.Answers.{Answers, IsRefusalBy, IsRefusedCampaign}
use Rattle.pst_cli.specs.CampaignEnd.{IsEndFor, IsEndOf, IsEarlyOutput, IsNotBegun, IsReportObject, IsReportOf, ended, not_begun, not_loaded, status_by, unbegun}
use Rattle.pst_cli.specs.CampaignOutput.{Gives, plan_of}
use Rattle.pst_cli.specs.CampaignView.{CampaignView, IsComplete}
use Rattle.pst_cli.specs.declared.answer.Answer.{Answer}
use Rattle.pst_cli.specs.declared.answer.OutputForm.{OutputForm}
use Rattle.pst_cli.specs.declared.answer.Status.{Status}
use Rattle.pst_cli.specs.declared.answer.Status.TheVariants.{Refused}
use Rattle.pst_cli.specs.declared.campaign.UndrawnTrials.{UndrawnTrials}
use Rattle.pst_cli.proofs.Printing.{answers_so, reaches}
use Rattle.pst_ledger.specs.declared.entry.Entry.{Entry}
use Rattle.pst_ledger.specs.declared.entry.Entry.TheVariants as entry
use Rattle.pst_model.specs.declared.model.Source.{Source}
use Rattle.pst_rejudge.specs.Objects.{object_line}
use Rattle.pst_rejudge.specs.declared.field.Field.{Field}
use Rattle.pst_report.specs.InOrder.{IsOf, AreOf}
use Rattle.pst_report.specs.Object.{report_fields}
use Rattle.pst_sexpr.specs.declared.form.Form.{Form}
use Rattle.pst_system.specs.Kept.{Answers as SystemAnswers, Fails, ResetFails}
use Rattle.pst_trial.specs.PlanView.{PlanView}
use Rattle.pst_trial.specs.RecordView.{RecordView}
use Rattle.pst_trial.specs.declared.plan.Settings.{Settings}
use Rattle.pst_typing.specs.Loading.{Holds, IsRefusal}
use Rattle.pst_typing.specs.declared.loading.Refusal.{Refusal}

-- ---- the entries are of the plan

given_is_of : (A : SystemAnswers) (F : Fails) (R : ResetFails) (p : PlanView) (number : ℕ) (e : Entry RecordView)
    → MayGive A F R p number e → IsOf p number e
given_is_of A F R p number entry.Undrawn h = tt
given_is_of A F R p number entry.Held h = tt
given_is_of A F R p number (entry.Done r) h = (h.0, h.1)
given_is_of A F R p number (entry.Lost cause) h = tt

given_or_undrawn : {S : Type 0} {may_end : Type 0} (A : S → SystemAnswers) (F : S → Fails) (R : S → ResetFails) (p : PlanView)
    (systems : List S) (k : ℕ) (e : Entry RecordView)
    → (may_end × (e ≡ entry.Undrawn)) ⊎ ((i : ℕ) × (s : S) × (slice_get systems i ≡ Some s) × MayGive (A s) (F s) (R s) p k e)
    → IsOf p k e
given_or_undrawn A F R p systems k e (inl undrawn) = subst (IsOf p k) (sym undrawn.1) tt
given_or_undrawn A F R p systems k e (inr given) = given_is_of (A given.1) (F given.1) (R given.1) p k e given.3

are_of : (p : PlanView) (number : ℕ) (es : List (Entry RecordView))
    → ((k : ℕ) (e : Entry RecordView) → slice_get es k ≡ Some e → IsOf p (number + k) e) → AreOf p number es
are_of p number [] h = tt
are_of p number (e ∷ es) h =
    let Here : ℕ → Type 0 = λ n. IsOf p n e in (
      subst Here (add-zero number) (h 0 e refl),
      are_of p (number + 1) es (λ k x at.
          let There : ℕ → Type 0 = λ n. IsOf p n x in
          let next : number + suc k ≡ number + 1 + k = omega arith in
          subst There next (h (suc k) x at)),
    )

pub all_of : {S : Type 0} (may_end : Type 0) (A : S → SystemAnswers) (F : S → Fails) (R : S → ResetFails) (p : PlanView)
    (systems : List S) (es : List (Entry RecordView))
    → AllGivenUnless may_end (λ s. MayGive (A s) (F s) (R s) p) systems es → AreOf p 0 es
all_of may_end A F R p systems es h = are_of p 0 es (λ k e at.
    let Of : ℕ → Type 0 = λ n. IsOf p n e in
    let here : k ≡ 0 + k = omega arith in
    subst Of here (given_or_undrawn A F R p systems k e (h k e at)))

-- ---- a campaign that has ended

-- the line of an object that begins with the fields of the report
pub is_object : {E : Type 0} (undrawn : UndrawnTrials) (c : CampaignView) (fields more : List Field)
    → fields ≡ report_fields c.plan (status_by undrawn c.entries) c.entries ++ more
    → (r : Result (Vec ℕ Global) E) → IfOk r (λ line. line.items ≡ object_line fields)
    → IfOk r (λ line. IsReportObject undrawn c line.items)
is_object undrawn c fields more same (Ok line) h = (more, h ∙ ap object_line same)
is_object undrawn c fields more same (Err e) h = tt

if_ok_so : {A E : Type 0} (P Q : A → Type 0) → ((a : A) → P a → Q a) → (r : Result A E) → IfOk r P → IfOk r Q
if_ok_so P Q f (Ok a) h = f a h
if_ok_so P Q f (Err e) h = tt

pub if_err_so : {A E : Type 0} (P Q : E → Type 0) → ((e : E) → P e → Q e) → (r : Result A E) → IfErr r P → IfErr r Q
if_err_so P Q f (Ok a) h = tt
if_err_so P Q f (Err e) h = f e h

module _ {S : Type 0} (may_end : Type 0) (A : S → SystemAnswers) (F : S → Fails) (R : S → ResetFails) (settings : Settings)
    (systems : List S) (m : Source) (p q : PlanView) (entries : List (Entry RecordView)) (e : p ≡ plan_of m settings)
    (f : q ≡ plan_of m settings) (count : length entries ≡ p.settings.trials)
    (given : AllGivenUnless may_end (λ s. MayGive (A s) (F s) (R s) p) systems entries) where
  pub is_complete : IsComplete (record { plan = q; entries = entries })
  is_complete =
      let Of : PlanView → Type 0 = λ x. AreOf x 0 entries in
      let same : p ≡ q = e ∙ sym f in record {
        count = count ∙ ap (λ x. x.settings.trials) same;
        records = subst Of same (all_of may_end A F R p systems entries given);
      }

  pub is_end_for : HasWorkers (length systems)
      → IsEndFor may_end (λ s. MayGive (A s) (F s) (R s)) settings systems m (record { plan = q; entries = entries })
  is_end_for workers =
      let Given : PlanView → Type 0 = λ x. AllGivenUnless may_end (λ s. MayGive (A s) (F s) (R s) x) systems entries in record {
        workers = workers;
        plan = f;
        count = count ∙ ap (λ x. x.settings.trials) e;
        given = subst Given e given;
      }

module _ {S : Type 0} (form : OutputForm) (may_end : Type 0) (may_give : Gives S) (settings : Settings) (systems : List S)
    (input : List ℕ) where
  pub is_end_of : (m : Source) (trees : List Form) → Holds input m trees
      → (r : Result CampaignView (Result Answer AllocError)) → IfOk r (IsEndFor may_end may_give settings systems m)
      → IfOk r (IsEndOf may_end may_give settings systems input)
  is_end_of m trees h (Ok c) is = record { model = m; trees = trees; holds = h; ended = is }
  is_end_of m trees h (Err refusal) is = tt

  -- the line of a campaign that did not start
  pub not_begun_so : (m : Source) (trees : List Form) → Holds input m trees → (a : Answer)
      → (fault : CampaignFault) × IsCampaignFault (length systems) fault × IsRefusedCampaign form fault a
      → Answers (IsNotBegun form systems input) a
  not_begun_so m trees h a (fault, deserved, is) = record {
    output = not_begun m trees h fault deserved is.reason is.as_text is.refusal.text_is is.refusal.status_is;
    refusing = λ _. inr is.refusal.status_is;
  }

  -- the refusal of the model
  pub not_loaded_so : (refusal : Refusal) → IsRefusal input refusal → (text : List ℕ) (status : Status)
      → text ≡ refusal_of form refusal → status ≡ Refused → IsNotBegun form systems input text status
  not_loaded_so refusal h text status t s = not_loaded refusal h t s

  pub refused_so : (refusal : Refusal) → IsRefusal input refusal → (r : Result Answer AllocError)
      → IfOk r (IsRefusalBy (refusal_of form refusal) Refused) → IfOk r (Answers (IsNotBegun form systems input))
  refused_so refusal h r is = if_ok_so _ _ (λ a by. record {
    output = not_loaded refusal h by.text_is by.status_is;
    refusing = λ _. inl by.status_is;
  }) r is

  pub not_begun_if_refused : (m : Source) (trees : List Form) → Holds input m trees
      → (r : Result CampaignView (Result Answer AllocError))
      → IfErr r (λ refusal. IfOk refusal (λ a. (fault : CampaignFault)
      × IsCampaignFault (length systems) fault × IsRefusedCampaign form fault a))
      → IfErr r (λ refusal. IfOk refusal (Answers (IsNotBegun form systems input)))
  not_begun_if_refused m trees h r is =
      if_err_so _ _ (λ refusal so. if_ok_so _ _ (not_begun_so m trees h) refusal so) r is

  -- ---- what is written of it

  module _ (undrawn : UndrawnTrials) where
    -- the answer to what became of a campaign, and its end
    pub record AreTold (r : Result CampaignView (Result Answer AllocError)) (answer : Result Answer AllocError)
        (end : Option CampaignView) : Type 0 where
      pub is_end : IfOk r (IsEndOf may_end may_give settings systems input)
      pub is_refusal : IfErr r (λ refusal. IfOk refusal (Answers (IsNotBegun form systems input)))
      pub same : MatchResult r (λ c. end ≡ Some c) (λ _. end ≡ None)
      pub report : IfOk r (λ c. IfOk answer (Answers (IsReportOf undrawn form c)))
      pub refusal : IfErr r (λ refusal. answer ≡ refusal)

    pub output_of : (r : Result CampaignView (Result Answer AllocError)) (answer : Result Answer AllocError) (end : Option CampaignView)
        → AreTold r answer end → IfOk answer (Answers (IsEarlyOutput form undrawn may_end may_give settings systems input))
    output_of (Ok c) answer end told =
        if_ok_so _ _ (answers_so _ _ (λ text status so. ended c told.is_end so)) answer told.report
    output_of (Err refusal) answer end told =
        if_ok_so _ _ (answers_so _ _ (λ text status so. unbegun so)) answer
        (subst (λ (x : Result Answer AllocError). IfOk x (Answers (IsNotBegun form systems input))) (sym told.refusal) told.is_refusal)

    pub end_of : (r : Result CampaignView (Result Answer AllocError)) (answer : Result Answer AllocError) (end : Option CampaignView)
        → AreTold r answer end → IfSome end (IsEndOf may_end may_give settings systems input)
    end_of (Ok c) answer end told =
        subst (λ (x : Option CampaignView). IfSome x (IsEndOf may_end may_give settings systems input)) (sym told.same) told.is_end
    end_of (Err refusal) answer end told =
        subst (λ (x : Option CampaignView). IfSome x (IsEndOf may_end may_give settings systems input)) (sym told.same) tt

    module _ (memory : List ℕ) (Goes : Bool → List ℕ → Status → Type 0) where
      pub shown_of : (r : Result CampaignView (Result Answer AllocError)) (answer : Result Answer AllocError) (end : Option CampaignView)
          → AreTold r answer end → Goes (refuses answer) (sent_text memory answer) (sent_status answer)
          → MatchOption end (Reaches memory (IsNotBegun form systems input) Goes) (λ c. Reaches memory (IsReportOf undrawn form c) Goes)
      shown_of (Ok c) answer end told sent =
          let Shown : Option CampaignView → Type 0 =
          λ x. MatchOption x (Reaches memory (IsNotBegun form systems input) Goes) (λ c. Reaches memory (IsReportOf undrawn form c) Goes) in
          subst Shown (sym told.same) (reaches memory (IsReportOf undrawn form c) Goes answer told.report sent)
      shown_of (Err refusal) answer end told sent =
          let Shown : Option CampaignView → Type 0 =
          λ x. MatchOption x (Reaches memory (IsNotBegun form systems input) Goes) (λ c. Reaches memory (IsReportOf undrawn form c) Goes) in
          let is = subst (λ (x : Result Answer AllocError). IfOk x (Answers (IsNotBegun form systems input))) (sym told.refusal) told.is_refusal in
          subst Shown (sym told.same) (reaches memory (IsNotBegun form systems input) Goes answer is sent)
