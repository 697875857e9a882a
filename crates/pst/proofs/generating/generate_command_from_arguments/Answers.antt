use Rattle.std.proofs.Common.{◌⊎◌, inr}
use Rattle.pst.proofs.Numbers.{if_none}
use Rattle.pst.specs.Numbers.{LacksCases, LacksRange}
use Rattle.pst.proofs.generating.generate_command_from_arguments.Goals as goal

pub returns-in_err-first-clause-none : goal.returns-in_err-first-clause-none
returns-in_err-first-clause-none c =
    if_none (LacksCases c.args.arguments.now ⊎ LacksRange c.args.arguments.now) _ (inr (λ first trials is_first is_trials. c.in_err-first.ensures first is_first))

pub returns-in_err-trials-clause-none : goal.returns-in_err-trials-clause-none
returns-in_err-trials-clause-none c =
    if_none (LacksCases c.args.arguments.now ⊎ LacksRange c.args.arguments.now) _ (inr (λ first trials is_first is_trials. c.in_err-trials.ensures trials is_trials))
