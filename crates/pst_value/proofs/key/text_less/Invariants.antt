use Rattle.std.proofs.Common.{◌≡◌, length}
use Rattle.pst_value.specs.Text.{text_less}
use Rattle.pst_value.proofs.key.text_less.Given as goal

abbrev pub invariant-loop-a : goal.invariant-loop-a
invariant-loop-a l = text_less l.left l.right ≡ text_less l.left-2 l.right-2

abbrev pub decreases-loop-a : goal.decreases-loop-a
decreases-loop-a l = length l.left
