use Rattle.std.proofs.Common.{List, ◌≤◌, count_by, length, subst}
use Rattle.pst_case.specs.Unknown.{is_unknown}
use Rattle.pst_case.specs.declared.history.Reply.{Reply}
use Rattle.pst_cli.specs.CampaignFailures.{unknown_count}
use Rattle.pst_cli.proofs.Fewest.{counted_all}
use Rattle.pst_cli.proofs.smallest.count_unknown_outcomes.Goals as goal

pub returns : goal.returns
returns c =
    let Past : List (List Reply) → Type 0 = λ bs. length bs ≤ c.loop-branch.branch-index in
    let all = subst Past c.as_slice-branch-items.ensures c.loop-branch-test.false in
    counted_all (count_by is_unknown) c.args.history.now.branches c.loop-branch.count c.loop-branch.branch-index (unknown_count c.args.history.now) all
    c.loop-branch.invariant.small c.loop-branch.invariant.rest
