use Rattle.std.proofs.Common.{◌+◌, ◌*◌}
use Rattle.pst_eval.specs.Weight.{weight}
use Rattle.pst_scene.proofs.evidence_falsity.+falsity.Given as goal

abbrev pub decreases-false_part_of_expression : goal.decreases-false_part_of_expression
decreases-false_part_of_expression l = 2 * weight l.expr.now + 1

abbrev pub decreases-false_part_within_conjunct_or_if : goal.decreases-false_part_within_conjunct_or_if
decreases-false_part_within_conjunct_or_if l = 2 * weight l.expr.now
