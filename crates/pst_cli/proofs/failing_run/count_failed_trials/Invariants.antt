use Rattle.std.proofs.Common.{◌≡◌, take, count_by}
use Rattle.std.specs.Option.{is_some}
use Rattle.pst_report.specs.Least.{failure_in, of_record}
use Rattle.pst_cli.proofs.failing_run.count_failed_trials.Given as goal

abbrev pub invariant-loop-entry : goal.invariant-loop-entry
invariant-loop-entry l = l.count ≡ count_by (λ e. is_some (of_record failure_in e)) (take l.entry-index l.entries)
