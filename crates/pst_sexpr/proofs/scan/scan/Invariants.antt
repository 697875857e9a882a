use Rattle.std.proofs.Common.{◌≡◌, ◌≤◌, ◌-◌, drop, length}
use Rattle.pst_sexpr.specs.Scan.{run, start}
use Rattle.pst_sexpr.proofs.scan.scan.Given as goal

abbrev pub invariant-loop-place : goal.invariant-loop-place
invariant-loop-place l =
    (run 100 l.scanner l.place (drop l.place l.bytes) ≡ run 100 start 0 l.bytes) × (l.place ≤ length l.bytes)

abbrev pub decreases-loop-place : goal.decreases-loop-place
decreases-loop-place l = length l.bytes - l.place
