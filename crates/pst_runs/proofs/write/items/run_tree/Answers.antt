use Rattle.std.proofs.Common.{ap, sym, ◌∙◌, subst}
use Rattle.pst_runs.proofs.ItemAgain.{form_is}
use Rattle.pst_runs.proofs.write.items.run_tree.Goals as goal
use Rattle.pst_runs.specs.Items.{item_of}
use Rattle.pst_sexpr.specs.Lawful.{IsTree}

pub new-requires : goal.new-requires
new-requires c =
    let form = form_is c.args.typed.now c.source.result.now c.case.result.now c.args.run.now c.in_ok-form.ensures c.source.ensures.same c.case.ensures.same in
    subst IsTree (sym form) c.prove_run_is_read_back.ensures.lawful

pub returns-clause-lawful : goal.returns-clause-lawful
returns-clause-lawful c =
    let form = form_is c.args.typed.now c.source.result.now c.case.result.now c.args.run.now (c.new.ensures ∙ c.in_ok-form.ensures) c.source.ensures.same c.case.ensures.same in
    subst IsTree (sym form) c.prove_run_is_read_back.ensures.lawful

pub returns-clause-read : goal.returns-clause-read
returns-clause-read c =
    let form = form_is c.args.typed.now c.source.result.now c.case.result.now c.args.run.now (c.new.ensures ∙ c.in_ok-form.ensures) c.source.ensures.same c.case.ensures.same in
    ap (item_of c.args.typed.now) form ∙ c.prove_run_is_read_back.ensures.read
