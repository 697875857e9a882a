use Rattle.pst_runs.proofs.Lines.{next_line}
use Rattle.pst_runs.proofs.write.writer.write_tree_lines.Goals as goal
use Rattle.pst_sexpr.proofs.Sequence.{then_all, then_fails}

pub returns-in_err-write_tree_line : goal.returns-in_err-write_tree_line
returns-in_err-write_tree_line g c =
    let next = next_line c.args.trees.now c.loop-tree.tree-index c.tree-item.result c.loop-tree-test.true c.tree-item.is in
    then_fails _ c.from_residual.ensures.0 c.loop-tree.invariant c.in_err-write_tree_line.ensures next

pub loop-tree-preserved : goal.loop-tree-preserved
loop-tree-preserved g c =
    let next = next_line c.args.trees.now c.loop-tree.tree-index c.tree-item.result c.loop-tree-test.true c.tree-item.is in
    then_all _ c.loop-tree.invariant c.in_ok-write_tree_line.ensures next
