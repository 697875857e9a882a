use Rattle.std.proofs.Common.{◌≡◌, ◌+◌, ◌*◌, ◌++◌, map, drop}
use Rattle.pst_eval.specs.Weight.{weight, clause_weight, total}
use Rattle.pst_compile.specs.Code.{load_all, all_at}
use Rattle.pst_compile.specs.Scopes.{scope_of, code_in}
use Rattle.pst_compile.proofs.+expression_code.Given as goal

abbrev pub decreases-expressions::expression_code : goal.decreases-expressions::expression_code
decreases-expressions::expression_code l = 4 * weight l.expr.now

abbrev pub decreases-expressions::operand_code : goal.decreases-expressions::operand_code
decreases-expressions::operand_code l = 4 * weight l.expr.now + 1

abbrev pub decreases-expressions::unary_code : goal.decreases-expressions::unary_code
decreases-expressions::unary_code l = 4 * weight l.operand.now + 3

abbrev pub decreases-expressions::binary_code : goal.decreases-expressions::binary_code
decreases-expressions::binary_code l = 4 * (weight l.first.now + weight l.second.now) + 3

abbrev pub decreases-expressions::map_put_code : goal.decreases-expressions::map_put_code
decreases-expressions::map_put_code l = 4 * (weight l.map.now + weight l.key.now + weight l.value.now) + 3

abbrev pub decreases-expressions::let_code : goal.decreases-expressions::let_code
decreases-expressions::let_code l = 4 * (weight l.bound.now + weight l.body.now) + 3

abbrev pub decreases-expressions::if_code : goal.decreases-expressions::if_code
decreases-expressions::if_code l = 4 * (weight l.test.now + weight l.then.now + weight l.other.now) + 3

abbrev pub decreases-expressions::and_code : goal.decreases-expressions::and_code
decreases-expressions::and_code l = 4 * (weight l.first.now + weight l.second.now) + 3

abbrev pub decreases-expressions::or_code : goal.decreases-expressions::or_code
decreases-expressions::or_code l = 4 * (weight l.first.now + weight l.second.now) + 3

abbrev pub decreases-expressions::call_code : goal.decreases-expressions::call_code
decreases-expressions::call_code l = 4 * total (map weight l.exprs.now) + 3

abbrev pub decreases-expressions::apply_code : goal.decreases-expressions::apply_code
decreases-expressions::apply_code l = 4 * total (map weight l.exprs.now) + 3

abbrev pub decreases-expressions::operands_code : goal.decreases-expressions::operands_code
decreases-expressions::operands_code l = 4 * total (map weight l.exprs.now) + 2

abbrev pub decreases-overwriting::overwriting_code : goal.decreases-overwriting::overwriting_code
decreases-overwriting::overwriting_code l = 4 * weight l.expr.now + 1

abbrev pub decreases-overwriting::overwriting_let_code : goal.decreases-overwriting::overwriting_let_code
decreases-overwriting::overwriting_let_code l = 4 * (weight l.bound.now + weight l.body.now) + 3

abbrev pub decreases-overwriting::overwriting_if_code : goal.decreases-overwriting::overwriting_if_code
decreases-overwriting::overwriting_if_code l = 4 * (weight l.test.now + weight l.then.now + weight l.other.now) + 3

abbrev pub decreases-loops::for_code : goal.decreases-loops::for_code
decreases-loops::for_code l = 4 * (total (map clause_weight l.clauses.now) + weight l.body.now) + 3

abbrev pub decreases-loops::fold_code : goal.decreases-loops::fold_code
decreases-loops::fold_code l = 4 * (weight l.list.now + weight l.first.now + weight l.body.now) + 3

abbrev pub decreases-loops::clauses_code : goal.decreases-loops::clauses_code
decreases-loops::clauses_code l = 4 * (total (map clause_weight l.clauses.now) + weight l.body.now) + 2

abbrev pub decreases-loops::in_clause_code : goal.decreases-loops::in_clause_code
decreases-loops::in_clause_code l = 4 * (weight l.list.now + 1 + total (map clause_weight l.rest.now) + weight l.body.now) + 1

abbrev pub decreases-loops::when_clause_code : goal.decreases-loops::when_clause_code
decreases-loops::when_clause_code l = 4 * (weight l.test.now + 1 + total (map clause_weight l.rest.now) + weight l.body.now) + 1

abbrev pub invariant-expressions::operands_code-loop-expr : goal.invariant-expressions::operands_code-loop-expr
invariant-expressions::operands_code-loop-expr l =
    let m = map (code_in l.context) in
    record {
      code : l.code ++ load_all (m (drop l.expr-index l.exprs)) (scope_of l.names) l.next.register l.next.place ≡ load_all (m l.exprs) (scope_of l.names) l.fn.target.register l.fn.target.place;
      registers : l.registers ++ all_at (m (drop l.expr-index l.exprs)) (scope_of l.names) l.next.register ≡ all_at (m l.exprs) (scope_of l.names) l.fn.target.register;
    }
