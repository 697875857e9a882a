use Rattle.std.proofs.Common.{length}
use Rattle.pst_scene.proofs.cutting.+without_leading_continuation_bytes.Given as goal

abbrev pub decreases-without_leading_continuation_bytes : goal.decreases-without_leading_continuation_bytes
decreases-without_leading_continuation_bytes l = length l.text.now
