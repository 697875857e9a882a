use Rattle.std.proofs.Common.{◌≡◌, take, count_by}
use Rattle.pst_report.specs.UnknownOutcomes.{is_ended}
use Rattle.pst_report.proofs.unknown_outcomes.count_ended_trials.Given as goal

abbrev pub invariant-loop-entry : goal.invariant-loop-entry
invariant-loop-entry l = l.count ≡ count_by is_ended (take l.entry-index l.entries)
