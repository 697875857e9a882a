use Rattle.std.proofs.Common.{◌≡◌, [], ◌∷◌, ◌+◌, ◌*◌, map, reverse, drop}
use Rattle.pst_eval.specs.Env.{env_of, mean_in, parts_in}
use Rattle.pst_eval.specs.Meaning.{all_from, visit, visit_each, fold_over}
use Rattle.pst_eval.specs.Weight.{weight, clause_weight, functions_weight, total}
use Rattle.pst_eval.proofs.evaluation.+eval.Given as goal

abbrev pub decreases-eval : goal.decreases-eval
decreases-eval l = 4 * (weight l.expr.now + functions_weight (reverse l.context.now.earlier.now))

abbrev pub decreases-eval_let : goal.decreases-eval_let
decreases-eval_let l = 4 * (weight l.bound.now + weight l.body.now + functions_weight (reverse l.context.now.earlier.now)) + 1

abbrev pub decreases-eval_if : goal.decreases-eval_if
decreases-eval_if l = 4 * (weight l.test.now + weight l.then.now + weight l.other.now + functions_weight (reverse l.context.now.earlier.now)) + 2

abbrev pub decreases-eval_and : goal.decreases-eval_and
decreases-eval_and l = 4 * (weight l.first.now + weight l.second.now + functions_weight (reverse l.context.now.earlier.now)) + 2

abbrev pub decreases-eval_or : goal.decreases-eval_or
decreases-eval_or l = 4 * (weight l.first.now + weight l.second.now + functions_weight (reverse l.context.now.earlier.now)) + 2

abbrev pub decreases-eval_put : goal.decreases-eval_put
decreases-eval_put l = 4 * (weight l.map.now + weight l.key.now + weight l.value.now + functions_weight (reverse l.context.now.earlier.now)) + 1

abbrev pub decreases-eval_binary : goal.decreases-eval_binary
decreases-eval_binary l = 4 * (weight l.left.now + weight l.right.now + functions_weight (reverse l.context.now.earlier.now)) + 1

abbrev pub decreases-eval_truth : goal.decreases-eval_truth
decreases-eval_truth l = 4 * (weight l.expr.now + functions_weight (reverse l.context.now.earlier.now)) + 1

abbrev pub decreases-eval_all : goal.decreases-eval_all
decreases-eval_all l = 4 * (total (map weight l.exprs.now) + functions_weight (reverse l.context.now.earlier.now)) + 1

abbrev pub decreases-eval_comprehension : goal.decreases-eval_comprehension
decreases-eval_comprehension l = 4 * (total (map clause_weight l.clauses.now) + weight l.body.now + functions_weight (reverse l.context.now.earlier.now)) + 2

abbrev pub decreases-eval_clauses : goal.decreases-eval_clauses
decreases-eval_clauses l = 4 * (total (map clause_weight l.clauses.now) + weight l.body.now + functions_weight (reverse l.context.now.earlier.now)) + 1

abbrev pub decreases-eval_clauses_for_each : goal.decreases-eval_clauses_for_each
decreases-eval_clauses_for_each l = 4 * (total (map clause_weight l.rest.now) + weight l.body.now + functions_weight (reverse l.context.now.earlier.now)) + 2

abbrev pub decreases-eval_fold : goal.decreases-eval_fold
decreases-eval_fold l = 4 * (weight l.list.now + weight l.first.now + weight l.body.now + functions_weight (reverse l.context.now.earlier.now)) + 2

abbrev pub decreases-fold_over : goal.decreases-fold_over
decreases-fold_over l = 4 * (weight l.body.now + functions_weight (reverse l.context.now.earlier.now)) + 1

abbrev pub decreases-eval_apply : goal.decreases-eval_apply
decreases-eval_apply l = 4 * functions_weight (reverse l.context.now.earlier.now) + 1

abbrev pub invariant-eval_all-loop-expr : goal.invariant-eval_all-loop-expr
invariant-eval_all-loop-expr l =
    all_from l.all (map (mean_in l.context) (drop l.expr-index l.exprs)) (env_of l.env) l.turns ≡ all_from [] (map (mean_in l.context) l.exprs) (env_of l.env) l.initial.turns

abbrev pub invariant-eval_clauses_for_each-loop-item : goal.invariant-eval_clauses_for_each-loop-item
invariant-eval_clauses_for_each-loop-item l =
    let next = visit (parts_in l.context l.rest) (mean_in l.context l.body) in
    visit_each next l.name (env_of l.env) (drop l.item-index l.items) l.built l.turns ≡ visit_each next l.name (env_of l.env) l.items l.initial.built l.initial.turns

abbrev pub invariant-fold_over-loop-item : goal.invariant-fold_over-loop-item
invariant-fold_over-loop-item l =
    let f = fold_over (mean_in l.context l.body) l.name l.acc (env_of l.env) in
    f (drop l.item-index l.items) l.built l.turns ≡ f l.items l.initial.built l.initial.turns
