-- What is known of judged runs by one relation of histories is known by each that it implies.
use Rattle.std.proofs.Common.{◌≡◌, ℕ, List, [], ◌∷◌, inl, inr}
use Rattle.pst_case.specs.OfModel.{OfModel}
use Rattle.pst_case.specs.declared.case.Case.{Case}
use Rattle.pst_case.specs.declared.history.History.{History}
use Rattle.pst_driver.specs.declared.driving.DriveFault.{DriveFault}
use Rattle.pst_judge.specs.declared.by_order.CallOrder.{CallOrder}
use Rattle.pst_model.specs.declared.model.Source.{Source}
use Rattle.pst_shrink.specs.Outcomes.{IsKept}
use Rattle.pst_shrink.specs.declared.shrinking.AttemptOutcome.{AttemptOutcome}
use Rattle.pst_shrink.specs.declared.shrinking.AttemptOutcome.TheVariants.{NotValid, Held, Broke}
use Rattle.pst_trial.specs.Driving.{Histories, Faults, IsSteady}
use Rattle.pst_trial.specs.JudgedRuns.{IsJudgedRun, AreExplained, IsAnswer, MayFail}
use Rattle.pst_trial.specs.PlanView.{PlanView}
use Rattle.pst_trial.specs.declared.record.JudgedRun.{JudgedRun}

-- by two relations of the histories of one model's cases
module _ (D E : Histories) (m : Source) (order : CallOrder)
    (to : (c : Case) (h : History) → D (record { model = m; case = c }) h → E (record { model = m; case = c }) h) where
  pub run_moves_in : (c : Case) (r : JudgedRun) → IsJudgedRun D m order c r → IsJudgedRun E m order c r
  run_moves_in c r j = record { matching = j.matching; timed = j.timed; judged = j.judged; driven = to c r.history j.driven }

  explained_moves_in : (c : Case) (rs : List JudgedRun) → AreExplained D m order c rs → AreExplained E m order c rs
  explained_moves_in c [] all = tt
  explained_moves_in c (r ∷ rs) all = (run_moves_in c r all.0, all.1, explained_moves_in c rs all.2)

  pub answer_moves_in : (n : ℕ) (c : Case) (o : AttemptOutcome JudgedRun) → IsAnswer D m order n c o → IsAnswer E m order n c o
  answer_moves_in n c NotValid a = a
  answer_moves_in n c (Held rs) a = (a.0, explained_moves_in c rs a.1, a.2)
  answer_moves_in n c (Broke rs r) a = (a.0, explained_moves_in c rs a.1, a.2, run_moves_in c r a.3, a.4)

module _ (D E : Histories) (to : (v : OfModel) (h : History) → D v h → E v h) (m : Source) (order : CallOrder) where
  pub run_moves : (c : Case) (r : JudgedRun) → IsJudgedRun D m order c r → IsJudgedRun E m order c r
  run_moves = run_moves_in D E m order (λ c h. to (record { model = m; case = c }) h)

  pub answer_moves : (n : ℕ) (c : Case) (o : AttemptOutcome JudgedRun) → IsAnswer D m order n c o → IsAnswer E m order n c o
  answer_moves = answer_moves_in D E m order (λ c h. to (record { model = m; case = c }) h)

pub fault_moves : (P Q : Faults) → ((v : OfModel) (f : DriveFault) → P v f → Q v f) → (f : DriveFault)
    → MayFail P f → MayFail Q f
fault_moves P Q to f (inl h) = inl (h.0, to h.0 f h.1)
fault_moves P Q to f (inr h) = inr h

module _ {D E : Histories} {P Q : Faults} (steady : IsSteady E D Q P) where
  pub answer_before : (m : Source) (order : CallOrder) (n : ℕ) (c : Case) (o : AttemptOutcome JudgedRun)
      → IsAnswer E m order n c o → IsAnswer D m order n c o
  answer_before m order = answer_moves E D (λ v h. (steady.driving v h).0) m order

  pub answer_after : (m : Source) (order : CallOrder) (n : ℕ) (c : Case) (o : AttemptOutcome JudgedRun)
      → IsAnswer D m order n c o → IsAnswer E m order n c o
  answer_after m order = answer_moves D E (λ v h. (steady.driving v h).1) m order

  kept_same : (p : PlanView)
      → IsKept
      (IsAnswer D p.model p.settings.order p.settings.repeats) (IsAnswer E p.model p.settings.order p.settings.repeats)
      (MayFail P) (MayFail Q)
  kept_same p = record {
    answers = λ c o. (
      answer_before p.model p.settings.order p.settings.repeats c o,
      answer_after p.model p.settings.order p.settings.repeats c o,
    );
    fails = λ f. (
      fault_moves Q P (λ v e. (steady.failing v e).0) f,
      fault_moves P Q (λ v e. (steady.failing v e).1) f,
    );
  }

  -- a driver that is steady answers of the same plan as before
  pub kept_by : (p q : PlanView) → q ≡ p
      → IsKept
      (IsAnswer D p.model p.settings.order p.settings.repeats) (IsAnswer E q.model q.settings.order q.settings.repeats)
      (MayFail P) (MayFail Q)
  kept_by p q same = rw same (kept_same p)
