use Rattle.std.proofs.Common.{◌≡◌, map, take}
use Rattle.pst_print.specs.Printed.{expr_form, clause_form}
use Rattle.pst_print.proofs.expressions.+expr_form.Given as goal

abbrev pub invariant-print_expressions-loop-expr : goal.invariant-print_expressions-loop-expr
invariant-print_expressions-loop-expr l = l.forms ≡ map expr_form (take l.expr-index l.exprs)

abbrev pub invariant-print_clauses-loop-clause : goal.invariant-print_clauses-loop-clause
invariant-print_clauses-loop-clause l = l.forms ≡ map clause_form (take l.clause-index l.clauses)
