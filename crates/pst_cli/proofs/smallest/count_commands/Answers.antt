use Rattle.std.proofs.Common.{List, ◌≤◌, length, subst}
use Rattle.pst_case.specs.declared.case.Command.{Command}
use Rattle.pst_cli.specs.CampaignFailures.{command_count}
use Rattle.pst_cli.proofs.Fewest.{counted_all}
use Rattle.pst_cli.proofs.smallest.count_commands.Goals as goal

pub returns : goal.returns
returns c =
    let Past : List (List Command) → Type 0 = λ bs. length bs ≤ c.loop-branch.branch-index in
    let all = subst Past c.as_slice-branch-items.ensures c.loop-branch-test.false in
    counted_all length c.args.case.now.branches c.loop-branch.count c.loop-branch.branch-index (command_count c.args.case.now) all
    c.loop-branch.invariant.small c.loop-branch.invariant.rest
