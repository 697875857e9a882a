use Rattle.std.proofs.Common.{◌∙◌, sym, subst}
use Rattle.pst_json_runs.proofs.LineTrees.{line_is_tree}
use Rattle.pst_json_runs.proofs.lines.json_line_tree_or_empty.Goals as goal
use Rattle.pst_sexpr.specs.Lawful.{IsTree}

pub new-requires : goal.new-requires
new-requires c = subst IsTree (sym c.in_ok-form.ensures) (line_is_tree c.args.model.now c.args.line.now)

pub returns-clause-lawful : goal.returns-clause-lawful
returns-clause-lawful c = subst IsTree (sym (c.new.ensures ∙ c.in_ok-form.ensures)) (line_is_tree c.args.model.now c.args.line.now)
