use Rattle.std.proofs.Common.{drop}
use Rattle.pst_sexpr.proofs.Sequence.{WritesUpTo}
use Rattle.pst_runs.specs.Lines.{lines_of}
use Rattle.pst_runs.proofs.write.writer.write_tree_lines.Given as goal

abbrev pub invariant-loop-tree : goal.invariant-loop-tree
invariant-loop-tree g l =
    WritesUpTo (g.W.Sink.taken l.initial.writer) (g.W.Sink.taken l.writer) (g.W.Sink.broken l.writer)
    (lines_of l.trees) (lines_of (drop l.tree-index l.trees))
