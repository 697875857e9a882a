use Rattle.std.proofs.Common.{◌∙◌}
use Rattle.pst_runs.proofs.Lines.{run_lawful, trees_next}
use Rattle.pst_runs.proofs.write.writer.run_trees.Goals as goal

pub run_tree-requires : goal.run_tree-requires
run_tree-requires c =
    run_lawful c.args.typed.now c.args.runs.now c.loop-run.run-index c.run-item.result c.requires c.loop-run-test.true c.run-item.is

pub loop-run-preserved : goal.loop-run-preserved
loop-run-preserved c =
    c.in_ok-push.ensures.items
    ∙ trees_next c.args.typed.now c.args.runs.now c.loop-run.run-index c.run-item.result c.loop-run-test.true c.run-item.is c.loop-run.invariant c.in_ok-run_tree.ensures.written
