use Rattle.std.proofs.Common.{◌≡◌, drop}
use Rattle.pst_report.specs.Least.{least_fault}
use Rattle.pst_report.proofs.failures.first_trial_with_generation_fault.Given as goal

abbrev pub invariant-loop-number : goal.invariant-loop-number
invariant-loop-number l = least_fault 0 l.entries ≡ least_fault l.number (drop l.number l.entries)
