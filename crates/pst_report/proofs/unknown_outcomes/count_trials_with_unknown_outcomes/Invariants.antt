use Rattle.std.proofs.Common.{◌≡◌, take, count_by}
use Rattle.pst_report.specs.UnknownOutcomes.{is_uncertain_entry}
use Rattle.pst_report.proofs.unknown_outcomes.count_trials_with_unknown_outcomes.Given as goal

abbrev pub invariant-loop-entry : goal.invariant-loop-entry
invariant-loop-entry l = l.count ≡ count_by is_uncertain_entry (take l.entry-index l.entries)
