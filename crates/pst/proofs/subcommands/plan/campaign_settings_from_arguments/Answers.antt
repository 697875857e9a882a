use Rattle.pst.proofs.Numbers.{if_none}
use Rattle.pst.specs.Numbers.{LacksTrials}
use Rattle.pst.proofs.subcommands.plan.campaign_settings_from_arguments.Goals as goal

pub returns-in_err-long_number_from_arguments-clause-none : goal.returns-in_err-long_number_from_arguments-clause-none
returns-in_err-long_number_from_arguments-clause-none c =
    if_none (LacksTrials c.args.arguments.now) _ (λ s given r. c.in_err-long_number_from_arguments.ensures s.seed given.cases.seed)

pub returns-in_err-number_from_arguments-clause-none : goal.returns-in_err-number_from_arguments-clause-none
returns-in_err-number_from_arguments-clause-none c =
    if_none (LacksTrials c.args.arguments.now) _ (λ s given r. c.in_err-number_from_arguments.ensures s.trials given.trials)

pub returns-in_err-number_from_arguments-2-clause-none : goal.returns-in_err-number_from_arguments-2-clause-none
returns-in_err-number_from_arguments-2-clause-none c =
    if_none (LacksTrials c.args.arguments.now) _ (λ s given r. c.in_err-number_from_arguments-2.ensures s.commands given.cases.commands)

pub returns-in_err-number_from_arguments-3-clause-none : goal.returns-in_err-number_from_arguments-3-clause-none
returns-in_err-number_from_arguments-3-clause-none c =
    if_none (LacksTrials c.args.arguments.now) _ (λ s given r. c.in_err-number_from_arguments-3.ensures s.branches given.cases.branches)

pub returns-in_err-number_from_arguments-4-clause-none : goal.returns-in_err-number_from_arguments-4-clause-none
returns-in_err-number_from_arguments-4-clause-none c =
    if_none (LacksTrials c.args.arguments.now) _ (λ s given r. c.in_err-number_from_arguments-4.ensures s.suffix given.cases.suffix)

pub returns-in_err-number_from_arguments-5-clause-none : goal.returns-in_err-number_from_arguments-5-clause-none
returns-in_err-number_from_arguments-5-clause-none c =
    if_none (LacksTrials c.args.arguments.now) _ (λ s given r. c.in_err-number_from_arguments-5.ensures s.repeats given.repeats)

pub returns-in_err-number_from_arguments-6-clause-none : goal.returns-in_err-number_from_arguments-6-clause-none
returns-in_err-number_from_arguments-6-clause-none c =
    if_none (LacksTrials c.args.arguments.now) _ (λ s given r. c.in_err-number_from_arguments-6.ensures s.limit given.limit)
