-- The ranges of a plan's settings.
use Rattle.std.specs.Prelude.{◌≤◌}
use Rattle.pst_judge.specs.declared.by_order.CallOrder.TheVariants.{Any}
use Rattle.pst_trial.specs.declared.plan.Settings.{Settings}

-- each setting is in its range
pub record AreInRange (s : Settings) : Type 0 where
  pub trials : s.trials ≤ 100000
  pub some_commands : 1 ≤ s.commands
  pub commands : s.commands ≤ 64
  pub some_branches : 1 ≤ s.branches
  pub branches : s.branches ≤ 4
  pub suffix : s.suffix ≤ 8
  pub some_repeats : 1 ≤ s.repeats
  pub repeats : s.repeats ≤ 20
  pub limit : s.limit ≤ 10000

-- the settings where none are given
abbrev pub default_settings : Settings
default_settings =
    record {
      seed = 0;
      trials = 100;
      commands = 16;
      branches = 2;
      suffix = 0;
      repeats = 5;
      limit = 1000;
      order = Any;
    }
