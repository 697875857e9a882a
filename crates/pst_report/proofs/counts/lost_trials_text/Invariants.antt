use Rattle.std.proofs.Common.{◌≡◌, ◌++◌, drop, string_bytes}
use Rattle.pst_report.specs.Text.{losses}
use Rattle.pst_report.proofs.counts.lost_trials_text.Given as goal

abbrev pub invariant-loop-number : goal.invariant-loop-number
invariant-loop-number l =
    losses 0 l.entries ≡ string_bytes l.text ++ losses l.number (drop l.number l.entries)
