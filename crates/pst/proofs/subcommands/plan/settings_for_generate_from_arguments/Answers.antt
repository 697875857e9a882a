use Rattle.pst.proofs.Numbers.{if_none}
use Rattle.pst.specs.Numbers.{LacksCases}
use Rattle.pst.proofs.subcommands.plan.settings_for_generate_from_arguments.Goals as goal

pub returns-in_err-long_number_from_arguments-clause-none : goal.returns-in_err-long_number_from_arguments-clause-none
returns-in_err-long_number_from_arguments-clause-none c =
    if_none (LacksCases c.args.arguments.now) _ (λ s given r. c.in_err-long_number_from_arguments.ensures s.seed given.seed)

pub returns-in_err-number_from_arguments-clause-none : goal.returns-in_err-number_from_arguments-clause-none
returns-in_err-number_from_arguments-clause-none c =
    if_none (LacksCases c.args.arguments.now) _ (λ s given r. c.in_err-number_from_arguments.ensures s.commands given.commands)

pub returns-in_err-number_from_arguments-2-clause-none : goal.returns-in_err-number_from_arguments-2-clause-none
returns-in_err-number_from_arguments-2-clause-none c =
    if_none (LacksCases c.args.arguments.now) _ (λ s given r. c.in_err-number_from_arguments-2.ensures s.branches given.branches)

pub returns-in_err-number_from_arguments-3-clause-none : goal.returns-in_err-number_from_arguments-3-clause-none
returns-in_err-number_from_arguments-3-clause-none c =
    if_none (LacksCases c.args.arguments.now) _ (λ s given r. c.in_err-number_from_arguments-3.ensures s.suffix given.suffix)
