-- What a case came to makes its trial sound, also by a relation of histories that admits more.
use Rattle.std.proofs.Common.{◌≡◌, ℕ, ◌+◌, ◌<◌, ◌≤◌, ◌^◌, true, length, List, [], ◌∷◌, ◌++◌, sym, subst, arith, Ok}
use Rattle.pst_case.specs.OfModel.{OfModel}
use Rattle.pst_case.specs.Shape.{joined}
use Rattle.pst_case.specs.declared.case.Case.{Case}
use Rattle.pst_case.specs.declared.history.History.{History}
use Rattle.pst_judge.specs.declared.by_order.CallOrder.{CallOrder}
use Rattle.pst_model.specs.declared.model.Source.{Source}
use Rattle.pst_shrink.proofs.Moving.{shrunk_moves}
use Rattle.pst_shrink.specs.Weight.{weight}
use Rattle.pst_shrink.specs.declared.shrinking.AttemptOutcome.TheVariants.{Held, Broke}
use Rattle.pst_shrink.specs.declared.shrinking.Shrunk.{Shrunk}
use Rattle.pst_trial.specs.Moving.{answer_moves, answer_moves_in}
use Rattle.pst_trial.specs.Driving.{Histories}
use Rattle.pst_trial.specs.JudgedRuns.{is_explained, IsJudgedRun, AreExplained, IsAnswer}
use Rattle.pst_trial.specs.PlanView.{PlanView}
use Rattle.pst_trial.specs.Sound.{IsTrialCase, IsFailure, IsTried, IsSoundBy, IsSound}
use Rattle.pst_trial.specs.declared.record.TrialOutcome.{TrialOutcome}
use Rattle.pst_trial.specs.declared.record.TrialOutcome.TheVariants.{GenFaulted, Passed, Failed}
use Rattle.pst_trial.specs.declared.record.JudgedRun.{JudgedRun}

-- one explained run more
pub explained_more : (D : Histories) (m : Source) (order : CallOrder) (c : Case) (rs : List JudgedRun) (r : JudgedRun)
    → AreExplained D m order c rs → IsJudgedRun D m order c r → is_explained r.verdict ≡ true
    → AreExplained D m order c (rs ++ r ∷ [])
explained_more D m order c [] r all judged e = (judged, e, tt)
explained_more D m order c (x ∷ rs) r all judged e = (all.0, all.1, explained_more D m order c rs r all.2 judged e)

-- a case within the limits weighs little
pub room : (c : Case) → length c.prefix ≤ 64 → length (joined c.branches) ≤ 16 → length c.suffix ≤ 8
    → weight c + 1 < 2 ^ 32
room c p b s = omega (arith, p, b, s)

module _ (may_drive : Histories) (p : PlanView) (k : ℕ) where
  pub tried_sound : (c : Case) (o : TrialOutcome)
      → IsTrialCase p k (Ok c) → IsTried may_drive p c o → IsSoundBy may_drive p k o
  tried_sound c (GenFaulted place) generated h = absurd h
  tried_sound c (Passed d rs) generated h = (
    subst (λ (x : Case). IsTrialCase p k (Ok x)) (sym h.0) generated,
    subst (λ (x : Case). IsAnswer may_drive p.model p.settings.order p.settings.repeats x (Held rs)) (sym h.0) h.1,
  )
  tried_sound c (Failed earlier s) generated h = (c, generated, h)

-- by two relations of the histories of the cases of the plan's model
module _ (D E : Histories) (p : PlanView)
    (to : (c : Case) (h : History) → D (record { model = p.model; case = c }) h → E (record { model = p.model; case = c }) h) where
  failure_moves_in : (c : Case) (earlier : List JudgedRun) (s : Shrunk JudgedRun)
      → IsFailure D p c earlier s → IsFailure E p c earlier s
  failure_moves_in c earlier s f = record {
    run = f.run;
    broke = answer_moves_in D E p.model p.settings.order to p.settings.repeats c (Broke earlier f.run) f.broke;
    driven = f.driven;
    shrunk = shrunk_moves _ _ (λ d o. answer_moves_in D E p.model p.settings.order to p.settings.repeats d o) _ _ _ _ _ f.shrunk;
  }

  pub sound_moves_in : (k : ℕ) (o : TrialOutcome) → IsSoundBy D p k o → IsSoundBy E p k o
  sound_moves_in k (GenFaulted place) h = h
  sound_moves_in k (Passed c rs) h =
      (h.0, answer_moves_in D E p.model p.settings.order to p.settings.repeats c (Held rs) h.1)
  sound_moves_in k (Failed earlier s) h = (h.0, h.1, failure_moves_in h.0 earlier s h.2)

module _ (D E : Histories) (to : (v : OfModel) (h : History) → D v h → E v h) (p : PlanView) where
  pub failure_moves : (c : Case) (earlier : List JudgedRun) (s : Shrunk JudgedRun)
      → IsFailure D p c earlier s → IsFailure E p c earlier s
  failure_moves = failure_moves_in D E p (λ c h. to (record { model = p.model; case = c }) h)

  pub tried_moves : (c : Case) (o : TrialOutcome) → IsTried D p c o → IsTried E p c o
  tried_moves c (GenFaulted place) h = h
  tried_moves c (Passed d rs) h = (h.0, answer_moves D E to p.model p.settings.order p.settings.repeats c (Held rs) h.1)
  tried_moves c (Failed earlier s) h = failure_moves c earlier s h

  pub sound_moves : (k : ℕ) (o : TrialOutcome) → IsSoundBy D p k o → IsSoundBy E p k o
  sound_moves = sound_moves_in D E p (λ c h. to (record { model = p.model; case = c }) h)

-- where the histories of one model's cases may be recorded, and the plan has that model
pub sound_of_model : (D : Histories) (m : Source) (p : PlanView) (k : ℕ) (o : TrialOutcome) → p.model ≡ m
    → IsSoundBy (λ v h. v.model ≡ m → D v h) p k o → IsSoundBy D p k o
sound_of_model D m p k o same = sound_moves_in _ D p (λ c h given. given same) k o

-- without a word of the histories that may be recorded
pub sound_alone : (D : Histories) (p : PlanView) (k : ℕ) (o : TrialOutcome)
    → IsSoundBy D p k o → IsSound p k o
sound_alone D p k o h = sound_moves D _ (λ v h d. tt) p k o h
