use Rattle.std.proofs.Common.{◌≡◌, ◌+◌, drop, length}
use Rattle.pst_runs.specs.Items.{runs_from}
use Rattle.pst_runs.specs.Replies.{behind}
use Rattle.pst_runs.proofs.reader.read_runs.Given as goal

abbrev pub invariant-loop-tree : goal.invariant-loop-tree
invariant-loop-tree l =
    runs_from l.typed 1 l.trees
    ≡ behind l.runs.items (runs_from l.typed (length l.runs.items + 1) (drop l.tree-index l.trees))
