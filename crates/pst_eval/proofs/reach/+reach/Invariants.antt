use Rattle.std.proofs.Common.{◌+◌, ◌*◌, map}
use Rattle.pst_eval.specs.Weight.{weight, total}
use Rattle.pst_eval.proofs.reach.+reach.Given as goal

abbrev pub decreases-reach_of_expression : goal.decreases-reach_of_expression
decreases-reach_of_expression l = 8 * weight l.expr.now

abbrev pub decreases-reach_of_let : goal.decreases-reach_of_let
decreases-reach_of_let l = 8 * (weight l.value.now + weight l.body.now) + 2

abbrev pub decreases-reach_of_either : goal.decreases-reach_of_either
decreases-reach_of_either l = 8 * (weight l.a.now + weight l.b.now) + 2

abbrev pub decreases-reach_of_all : goal.decreases-reach_of_all
decreases-reach_of_all l = 8 * total (map weight l.exprs.now) + 2

abbrev pub decreases-reach_of_unary : goal.decreases-reach_of_unary
decreases-reach_of_unary l = 8 * weight l.operand.now + 2

abbrev pub decreases-reach_of_binary : goal.decreases-reach_of_binary
decreases-reach_of_binary l = 8 * (weight l.a.now + weight l.b.now) + 2

abbrev pub decreases-reach_of_put : goal.decreases-reach_of_put
decreases-reach_of_put l = 8 * (weight l.map.now + weight l.key.now + weight l.value.now) + 2
