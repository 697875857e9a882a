use Rattle.std.proofs.Common.{◌+◌, ◌*◌, map, take}
use Rattle.pst_typing.specs.Blamed.{each_part}
use Rattle.pst_typing.specs.Gathering.{IsGathered}
use Rattle.pst_typing.specs.Scope.{names_in, type_in}
use Rattle.pst_eval.specs.Weight.{weight, clause_weight, total}
use Rattle.pst_typing.proofs.expressions.+infer.Given as goal

abbrev pub decreases-infer_kind : goal.decreases-infer_kind
decreases-infer_kind l = 8 * weight l.expr.now + 1

abbrev pub decreases-infer_kinds_of_parts : goal.decreases-infer_kinds_of_parts
decreases-infer_kinds_of_parts l = 8 * weight l.expr.now

abbrev pub decreases-infer_one_part : goal.decreases-infer_one_part
decreases-infer_one_part l = 8 * weight l.expr.now + 2

abbrev pub decreases-infer_two_parts : goal.decreases-infer_two_parts
decreases-infer_two_parts l = 8 * (weight l.first.now + weight l.second.now) + 3

abbrev pub decreases-infer_three_parts : goal.decreases-infer_three_parts
decreases-infer_three_parts l = 8 * (weight l.first.now + weight l.second.now + weight l.third.now) + 4

abbrev pub decreases-infer_each_part : goal.decreases-infer_each_part
decreases-infer_each_part l = 8 * total (map weight l.exprs.now) + 2

abbrev pub decreases-infer_let_parts : goal.decreases-infer_let_parts
decreases-infer_let_parts l = 8 * (weight l.bound.now + weight l.body.now) + 2

abbrev pub decreases-infer_fold_parts : goal.decreases-infer_fold_parts
decreases-infer_fold_parts l = 8 * (weight l.list.now + weight l.first.now + weight l.body.now) + 2

abbrev pub decreases-infer_clauses_and_body : goal.decreases-infer_clauses_and_body
decreases-infer_clauses_and_body l = 8 * (total (map clause_weight l.clauses.now) + weight l.body.now) + 3

abbrev pub decreases-infer_in_clause : goal.decreases-infer_in_clause
decreases-infer_in_clause l = 8 * (weight l.list.now + total (map clause_weight l.rest.now) + weight l.body.now) + 4

abbrev pub invariant-infer_each_part-loop-expr : goal.invariant-infer_each_part-loop-expr
invariant-infer_each_part-loop-expr l = IsGathered (type_in l.context) (each_part (names_in l.names) (take l.expr-index l.exprs)) l.all
