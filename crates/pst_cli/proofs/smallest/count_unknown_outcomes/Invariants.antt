use Rattle.std.proofs.Common.{◌≡◌, ◌+◌, ◌-◌, ◌^◌, ◌<◌, count_by, map, min, drop}
use Rattle.std.specs.List.{sum}
use Rattle.pst_case.specs.Unknown.{is_unknown}
use Rattle.pst_cli.specs.CampaignFailures.{unknown_count}
use Rattle.pst_cli.proofs.smallest.count_unknown_outcomes.Given as goal

abbrev pub invariant-loop-branch : goal.invariant-loop-branch
invariant-loop-branch l = record {
  rest : min (l.count + sum (map (count_by is_unknown) (drop l.branch-index l.history.branches))) (2 ^ 64 - 1) ≡ unknown_count l.history;
  small : l.count < 2 ^ 64;
}
