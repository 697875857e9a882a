use Rattle.std.proofs.Common.{◌≡◌, ◌+◌, ◌*◌, map, reverse, drop}
use Rattle.pst_eval.specs.Env.{env_of, mean_in, parts_in}
use Rattle.pst_eval.specs.Meaning.{visit, visit_each, fold_over}
use Rattle.pst_eval.specs.Weight.{weight, clause_weight, functions_weight, total}
use Rattle.pst_scene.proofs.descent.+descent.Given as goal

abbrev pub decreases-descend_to_faulty_part : goal.decreases-descend_to_faulty_part
decreases-descend_to_faulty_part l = 4 * (weight l.expr.now + functions_weight (reverse l.site.now.context.earlier.now)) + 1

abbrev pub decreases-faulty_part_in_fold : goal.decreases-faulty_part_in_fold
decreases-faulty_part_in_fold l = 4 * (weight l.expr.now + functions_weight (reverse l.site.now.context.earlier.now))

abbrev pub decreases-faulty_part_in_function_body : goal.decreases-faulty_part_in_function_body
decreases-faulty_part_in_function_body l = 4 * functions_weight (reverse l.site.now.context.earlier.now) + 1

abbrev pub decreases-faulty_part_in_fold_items : goal.decreases-faulty_part_in_fold_items
decreases-faulty_part_in_fold_items l = 4 * (weight l.body.now + functions_weight (reverse l.site.now.context.earlier.now)) + 2

abbrev pub decreases-try_comprehension : goal.decreases-try_comprehension
decreases-try_comprehension l =
    4 * (total (map clause_weight l.clauses.now) + weight l.body.now + functions_weight (reverse l.site.now.context.earlier.now)) + 2

abbrev pub decreases-try_clause_items : goal.decreases-try_clause_items
decreases-try_clause_items l =
    4 * (total (map clause_weight l.rest.now) + weight l.body.now + functions_weight (reverse l.site.now.context.earlier.now)) + 3

abbrev pub invariant-faulty_part_in_fold_items-loop-item : goal.invariant-faulty_part_in_fold_items-loop-item
invariant-faulty_part_in_fold_items-loop-item l =
    let f = fold_over (mean_in l.site.context l.body) l.name l.acc (env_of l.env) in
    f (drop l.item-index l.items) l.built l.left ≡ f l.items l.initial.built l.turns

abbrev pub invariant-try_clause_items-loop-item : goal.invariant-try_clause_items-loop-item
invariant-try_clause_items-loop-item l =
    let next = visit (parts_in l.site.context l.rest) (mean_in l.site.context l.body) in
    visit_each next l.name (env_of l.env) (drop l.item-index l.items) l.built l.left ≡ visit_each next l.name (env_of l.env) l.items l.initial.built l.turns
