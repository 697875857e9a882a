use Rattle.std.proofs.Common.{ℕ, ◌<◌, get_or}
use Rattle.pst_report.specs.Distinct.{HasCase}
use Rattle.pst_report.specs.declared.failures.NumberedFailure.{NumberedFailure}
use Rattle.pst_report.proofs.failures.has_failure_with_case.Given as goal

abbrev pub invariant-loop-other : goal.invariant-loop-other
invariant-loop-other l =
    (k : ℕ) (d : NumberedFailure) → k < l.other-index → HasCase l.case (get_or l.failures k d) → ⊥
