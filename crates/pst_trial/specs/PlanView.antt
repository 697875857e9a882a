-- What contracts see of a plan.
use Rattle.std.specs.Prelude.{refl}
use Rattle.std.specs.Coded.{Coded, code_by, coded×}
use Rattle.pst_model.specs.contracts.model.Source as source_coding
use Rattle.pst_model.specs.declared.model.Source.{Source}
use Rattle.pst_trial.specs.contracts.plan.Settings as settings_coding
use Rattle.pst_trial.specs.declared.plan.Settings.{Settings}

-- a model, and the settings of its trials
pub record PlanView : Type 0 where
  pub model : Source
  pub settings : Settings

abbrev pub plan_view_code : Coded PlanView
plan_view_code =
    code_by (Source × Settings) (coded× source_coding.the_row.coded settings_coding.the_row.coded)
    (λ p. (p.model, p.settings)) (λ p. record { model = p.0; settings = p.1 }) (λ _. refl)
