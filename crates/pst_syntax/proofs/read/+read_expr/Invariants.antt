use Rattle.std.proofs.Common.{◌≡◌, ◌+◌, ◌*◌, ◌++◌, drop, Ok}
use Rattle.pst_syntax.specs.Reading.{◌>>=◌, each, expr_of, clause_of}
use Rattle.pst_syntax.proofs.read.+read_expr.Given as goal

abbrev pub decreases-read_expr : goal.decreases-read_expr
decreases-read_expr l = 5 * l.room

abbrev pub decreases-read_expr_of_shape : goal.decreases-read_expr_of_shape
decreases-read_expr_of_shape l = 5 * l.room + 4

abbrev pub decreases-read_exprs : goal.decreases-read_exprs
decreases-read_exprs l = 5 * l.room + 1

abbrev pub decreases-read_clauses : goal.decreases-read_clauses
decreases-read_clauses l = 5 * l.room + 2

abbrev pub decreases-read_clause : goal.decreases-read_clause
decreases-read_clause l = 5 * l.room + 1

abbrev pub invariant-read_exprs-loop-form : goal.invariant-read_exprs-loop-form
invariant-read_exprs-loop-form l = each (expr_of l.has_maps l.room) l.forms ≡ (each (expr_of l.has_maps l.room) (drop l.form-index l.forms) >>= (λ more. Ok (l.expressions ++ more)))

abbrev pub invariant-read_clauses-loop-form : goal.invariant-read_clauses-loop-form
invariant-read_clauses-loop-form l = each (clause_of l.has_maps (expr_of l.has_maps l.room)) l.forms ≡ (each (clause_of l.has_maps (expr_of l.has_maps l.room)) (drop l.form-index l.forms) >>= (λ more. Ok (l.clauses ++ more)))

abbrev pub decreases-read_boxed_expr : goal.decreases-read_boxed_expr
decreases-read_boxed_expr l = 5 * l.room + 1

abbrev pub decreases-read_let : goal.decreases-read_let
decreases-read_let l = 5 * l.room + 3

abbrev pub decreases-read_if : goal.decreases-read_if
decreases-read_if l = 5 * l.room + 3

abbrev pub decreases-read_for : goal.decreases-read_for
decreases-read_for l = 5 * l.room + 3

abbrev pub decreases-read_fold : goal.decreases-read_fold
decreases-read_fold l = 5 * l.room + 3

abbrev pub decreases-read_tuple : goal.decreases-read_tuple
decreases-read_tuple l = 5 * l.room + 3

abbrev pub decreases-read_list : goal.decreases-read_list
decreases-read_list l = 5 * l.room + 3

abbrev pub decreases-read_put : goal.decreases-read_put
decreases-read_put l = 5 * l.room + 3
