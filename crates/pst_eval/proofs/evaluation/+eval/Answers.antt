use Rattle.std.proofs.Common.{◌≡◌, ◌<◌, ◌≤◌, map, reverse, refl, sym, arith}
use Rattle.std.proofs.lemmas.Result.{err_from_is_err_and}
use Rattle.pst_eval.specs.Env.{env_of, mean_in, parts_in, functions_in}
use Rattle.pst_eval.specs.Meaning.{visit}
use Rattle.pst_eval.proofs.Means.{mean_for}
use Rattle.pst_eval.proofs.Steps.{stops_on, all_stops, all_goes, each_stops, each_goes, visit_in, visit_when, fold_in}
use Rattle.pst_eval.proofs.Weights.{item_weight}
use Rattle.pst_eval.proofs.evaluation.+eval.Goals as goal

pub eval-returns-in-For : goal.eval-returns-in-For
eval-returns-in-For t c =
    rw (c.in-For.is, mean_for c.args.context.now.items.now (functions_in c.args.context.now) c.in-For.clauses c.in-For.body) (rw (c.as_slice-in-For.ensures, c.get-in-For.ensures) at c.eval_comprehension.ensures)

pub eval_all-eval-requires : goal.eval_all-eval-requires
eval_all-eval-requires t c =
    let h = rw (sym c.expr-item.is) at (item_weight c.args.exprs.now c.loop-expr.expr-index c.expr-item.result c.loop-expr-test.true) in
    (omega (arith, h), tt)

pub eval_all-returns-in_err-eval : goal.eval_all-returns-in_err-eval
eval_all-returns-in_err-eval t c =
    let p = err_from_is_err_and c.from_residual.result c.from_residual.ensures.1 in
    rw (p.1, p.2) (all_stops (mean_in c.args.context.now) c.args.exprs.now c.loop-expr.expr-index c.expr-item.result c.loop-expr.all (env_of c.args.env.now) c.loop-expr.turns c.args.turns.now _ c.loop-expr-test.true c.expr-item.is c.loop-expr.invariant c.in_err-eval.ensures)

pub eval_all-loop-expr-preserved : goal.eval_all-loop-expr-preserved
eval_all-loop-expr-preserved t c =
    all_goes (mean_in c.args.context.now) c.args.exprs.now c.loop-expr.expr-index c.expr-item.result c.loop-expr.all c.push.new.self (env_of c.args.env.now) c.loop-expr.turns c.args.turns.now c.eval.new.turns c.in_ok-eval.field-0
    c.loop-expr-test.true c.expr-item.is c.loop-expr.invariant c.in_ok-eval.ensures c.in_ok-push.ensures.ok

pub eval_clauses_for_each-returns-in_err-more : goal.eval_clauses_for_each-returns-in_err-more
eval_clauses_for_each-returns-in_err-more t c =
    let p = err_from_is_err_and c.from_residual-in_err-more.result c.from_residual-in_err-more.ensures.1 in
    rw (p.1, p.2) (each_stops (visit (parts_in c.args.context.now c.args.rest.now) (mean_in c.args.context.now c.args.body.now)) c.args.name.now (env_of c.args.env.now) c.args.items.now c.loop-item.item-index c.item-item.result c.loop-item.built c.args.built c.loop-item.turns c.args.turns.now c.take_turn.new.turns _ c.loop-item-test.true c.item-item.is c.in_ok-take_turn.ensures c.loop-item.invariant c.in_err-more.ensures)

pub eval_clauses_for_each-loop-item-preserved : goal.eval_clauses_for_each-loop-item-preserved
eval_clauses_for_each-loop-item-preserved t c =
    each_goes (visit (parts_in c.args.context.now c.args.rest.now) (mean_in c.args.context.now c.args.body.now)) c.args.name.now (env_of c.args.env.now) c.args.items.now c.loop-item.item-index c.item-item.result c.loop-item.built c.args.built c.in_ok-more.more c.loop-item.turns c.args.turns.now c.take_turn.new.turns c.eval_clauses.new.turns c.loop-item-test.true c.item-item.is c.in_ok-take_turn.ensures c.loop-item.invariant c.in_ok-more.ensures

pub eval_clauses-returns-in-In : goal.eval_clauses-returns-in-In
eval_clauses-returns-in-In t c =
    let e = visit_in c.args.context.now.items.now (functions_in c.args.context.now) c.args.clauses.now c.in-Some.rest.now c.in-Some.first.now c.in-In.name c.in-In.list (mean_in c.args.context.now c.args.body.now) (env_of c.args.env.now) c.args.built c.in_ok-items-in-In.items c.in_ok-value-in-In.value c.args.turns.now c.eval-in-In.new.turns c.in-Some.ensures c.in-In.is c.in_ok-value-in-In.ensures c.in_ok-items-in-In.ensures in
    rw e (rw (c.as_bytes.ensures, c.as_slice.ensures) at c.eval_clauses_for_each.ensures)

pub eval_comprehension-returns-in_err-built : goal.eval_comprehension-returns-in_err-built
eval_comprehension-returns-in_err-built t c =
    let p = err_from_is_err_and c.from_residual.result c.from_residual.ensures.1 in
    rw (p.1, p.2) (stops_on _ _ _ (rw c.new.ensures at c.in_err-built.ensures))

pub eval_fold-returns : goal.eval_fold-returns
eval_fold-returns t c =
    let e = fold_in c.args.context.now.items.now (functions_in c.args.context.now) c.args.name.now c.args.list.now c.args.acc.now c.args.first.now c.args.body.now _ (env_of c.args.env.now) c.in_ok-items.items c.in_ok-value.value c.in_ok-first.first c.args.turns.now c.eval.new.turns c.eval-2.new.turns refl (rw c.get.ensures at c.in_ok-value.ensures) c.in_ok-items.ensures (rw c.get-2.ensures at c.in_ok-first.ensures) in
    rw e (rw (c.get-3.ensures, c.as_bytes.ensures, c.as_bytes-2.ensures, c.as_slice.ensures) at c.fold_over.ensures)

pub eval_clauses-returns-then-branch : goal.eval_clauses-returns-then-branch
eval_clauses-returns-then-branch t c =
    let holds = rw c.if-branch.true at c.in_ok-truth_of-in-When.ensures in
    let e = visit_when c.args.context.now.items.now (functions_in c.args.context.now) c.args.clauses.now c.in-Some.rest.now c.in-Some.first.now c.in-When.test (mean_in c.args.context.now c.args.body.now) (env_of c.args.env.now) c.args.built c.in_ok-value-in-When.value c.args.turns.now c.eval-in-When.new.turns c.in-Some.ensures c.in-When.is c.in_ok-value-in-When.ensures holds in
    rw e c.eval_clauses.ensures
