use Rattle.std.proofs.Common.{sym}
use Rattle.pst_eval.proofs.Steps.{all_goes}
use Rattle.pst_eval.proofs.Weights.{item_weight}
use Rattle.pst_eval.specs.Env.{env_of, mean_in}
use Rattle.pst_scene.proofs.Failing.{all_faults, all_stuck, referred_item, referred_place}
use Rattle.pst_scene.specs.Parts.{referred}
use Rattle.pst_scene.proofs.attempt.evaluate_references_in_turn.Goals as goal

pub returns-in-Faults : goal.returns-in-Faults
returns-in-Faults c =
    let g = rw c.in-Faults.is at c.in_ok-value.ensures in
    let place = referred_place c.args.exprs.now c.loop-expr.expr-index c.loop-expr-test.true in
    let is = referred_item c.args.exprs.now c.loop-expr.expr-index c.expr-item.result c.loop-expr-test.true c.expr-item.is in
    record {
      whole = all_faults (mean_in c.args.context.now) (referred c.args.exprs.now) c.loop-expr.expr-index c.expr-item.result.now c.loop-expr.values (env_of c.args.env.now) c.loop-expr.left c.args.turns c.in-Faults.fault place is c.loop-expr.invariant g;
      part = g;
      lighter = rw (sym is) at (item_weight (referred c.args.exprs.now) c.loop-expr.expr-index c.expr-item.result.now place);
    }

pub returns-in-Stuck : goal.returns-in-Stuck
returns-in-Stuck c =
    let place = referred_place c.args.exprs.now c.loop-expr.expr-index c.loop-expr-test.true in
    let is = referred_item c.args.exprs.now c.loop-expr.expr-index c.expr-item.result c.loop-expr-test.true c.expr-item.is in
    all_stuck (mean_in c.args.context.now) (referred c.args.exprs.now) c.loop-expr.expr-index c.expr-item.result.now c.loop-expr.values (env_of c.args.env.now) c.loop-expr.left c.args.turns place is c.loop-expr.invariant (rw c.in-Stuck.is at c.in_ok-value.ensures)

pub loop-expr-preserved : goal.loop-expr-preserved
loop-expr-preserved c =
    let place = referred_place c.args.exprs.now c.loop-expr.expr-index c.loop-expr-test.true in
    let is = referred_item c.args.exprs.now c.loop-expr.expr-index c.expr-item.result c.loop-expr-test.true c.expr-item.is in
    all_goes (mean_in c.args.context.now) (referred c.args.exprs.now) c.loop-expr.expr-index c.expr-item.result.now c.loop-expr.values c.push.new.self (env_of c.args.env.now) c.loop-expr.left c.args.turns c.in-Gives.more c.in-Gives.value
    place is c.loop-expr.invariant (rw c.in-Gives.is at c.in_ok-value.ensures) c.in_ok-push-in-Gives.ensures.ok
