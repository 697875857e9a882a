use Rattle.std.proofs.Common.{◌≡◌, true, sym, ◌∙◌, rules}
use Rattle.pst_eval.proofs.Steps.{visit_in, visit_when, each_goes}
use Rattle.pst_eval.specs.Env.{env_of, mean_in, parts_in, functions_in}
use Rattle.pst_eval.specs.Meaning.{visit}
use Rattle.pst_operators.specs.Operators.{truth_of}
use Rattle.pst_operators.specs.Outcome.{Gives}
use Rattle.pst_scene.proofs.Descending.{for_faults}
use Rattle.pst_scene.proofs.Failing.{each_faults}
use Rattle.pst_scene.proofs.descent.+descent.Goals as goal

pub try_comprehension-returns-in-Ok : goal.try_comprehension-returns-in-Ok
try_comprehension-returns-in-Ok t c =
    let e = visit_in c.args.site.now.context.items.now (functions_in c.args.site.now.context) c.args.clauses.now c.in-Some.rest.now c.in-Some.first.now c.in-In.name c.in-In.list (mean_in c.args.site.now.context c.args.body.now) (env_of c.args.env.now) c.args.built c.in-Ok.items c.in-Gives-2.value c.args.turns c.in-Gives-2.left c.in-Some.ensures c.in-In.is (rw c.in-Gives-2.is at c.in_ok-fault-in-In.ensures) c.in-Ok.ensures in
    rw e (rw (c.as_bytes.ensures, c.as_slice.ensures) at c.try_clause_items.ensures)

pub try_comprehension-returns-in-Gives-Bool-true-default : goal.try_comprehension-returns-in-Gives-Bool-true-default
try_comprehension-returns-in-Gives-Bool-true-default t c =
    let holds : c.in-Gives-Bool-true-default.field-0-0 ≡ true = cc (c.in-Gives-Bool-true-default.field-0-0-is, c.in-Gives-Bool-true-default.field-0-0-test) in
    let is_true : truth_of c.in-Gives-Bool-true-default.field-0 ≡ Gives true = rw (c.in-Gives-Bool-true-default.field-0-is, holds) (search rules) in
    let e = visit_when c.args.site.now.context.items.now (functions_in c.args.site.now.context) c.args.clauses.now c.in-Some.rest.now c.in-Some.first.now c.in-When.test (mean_in c.args.site.now.context c.args.body.now) (env_of c.args.env.now) c.args.built c.in-Gives-Bool-true-default.field-0 c.args.turns c.in-Gives-Bool-true-default.left c.in-Some.ensures c.in-When.is (rw c.in-Gives-Bool-true-default.is at c.in_ok-fault-in-When.ensures) is_true in
    rw e c.try_comprehension.ensures

pub try_clause_items-returns-in-Part : goal.try_clause_items-returns-in-Part
try_clause_items-returns-in-Part t c =
    let h = rw c.in-Part.is at c.in_ok-more.ensures in (
      each_faults (visit (parts_in c.args.site.now.context c.args.rest.now) (mean_in c.args.site.now.context c.args.body.now)) c.args.name.now (env_of c.args.env.now) c.args.items.now c.loop-item.item-index c.item-item.result c.loop-item.built c.args.built c.loop-item.left c.args.turns c.take_turn.new.turns c.in-Part.fault c.loop-item-test.true c.item-item.is c.in-Ok.ensures c.loop-item.invariant h.0,
      h.1,
    )

pub try_clause_items-loop-item-preserved : goal.try_clause_items-loop-item-preserved
try_clause_items-loop-item-preserved t c =
    each_goes (visit (parts_in c.args.site.now.context c.args.rest.now) (mean_in c.args.site.now.context c.args.body.now)) c.args.name.now (env_of c.args.env.now) c.args.items.now c.loop-item.item-index c.item-item.result c.loop-item.built c.args.built c.in-Built.more c.loop-item.left c.args.turns c.take_turn.new.turns c.in-Built.fewer c.loop-item-test.true c.item-item.is c.in-Ok.ensures c.loop-item.invariant (rw c.in-Built.is at c.in_ok-more.ensures)

pub descend_to_faulty_part-returns-in-Part : goal.descend_to_faulty_part-returns-in-Part
descend_to_faulty_part-returns-in-Part t c =
    let h = rw c.in-Part.is at c.in_ok-part-in-For.ensures in
    for_faults c.args.site.now.context.items.now (functions_in c.args.site.now.context) c.in-For.clauses c.in-For.body c.args.expr.now (env_of c.args.env.now) c.args.turns c.in-Part.field-1 c.in-For.is (rw (c.as_slice-in-For.ensures, c.get-in-For.ensures, c.new-built.ensures) at h.0) ∙ sym h.1
