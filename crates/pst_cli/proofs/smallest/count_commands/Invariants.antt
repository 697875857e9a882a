use Rattle.std.proofs.Common.{◌≡◌, ◌+◌, ◌-◌, ◌^◌, ◌<◌, length, map, min, drop}
use Rattle.std.specs.List.{sum}
use Rattle.pst_cli.specs.CampaignFailures.{command_count}
use Rattle.pst_cli.proofs.smallest.count_commands.Given as goal

abbrev pub invariant-loop-branch : goal.invariant-loop-branch
invariant-loop-branch l = record {
  rest : min (l.count + sum (map length (drop l.branch-index l.case.branches))) (2 ^ 64 - 1) ≡ command_count l.case;
  small : l.count < 2 ^ 64;
}
