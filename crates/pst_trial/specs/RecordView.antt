-- What contracts see of a record.
use Rattle.std.specs.Prelude.{ℕ, refl}
use Rattle.std.specs.Coded.{Coded, code_by, coded×, coded_ℕ}
use Rattle.pst_trial.specs.PlanView.{PlanView, plan_view_code}
use Rattle.pst_trial.specs.contracts.record.TrialOutcome as outcome_coding
use Rattle.pst_trial.specs.declared.record.TrialOutcome.{TrialOutcome}

-- the plan and the number of a trial, and what it came to
pub record RecordView : Type 0 where
  pub plan : PlanView
  pub number : ℕ
  pub outcome : TrialOutcome

abbrev pub record_view_code : Coded RecordView
record_view_code =
    code_by (PlanView × (ℕ × TrialOutcome))
    (coded× plan_view_code (coded× coded_ℕ outcome_coding.the_row.coded))
    (λ r. (r.plan, (r.number, r.outcome))) (λ r. record { plan = r.0; number = r.1.0; outcome = r.1.1 })
    (λ _. refl)
