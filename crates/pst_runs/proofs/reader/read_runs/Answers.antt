use Rattle.std.proofs.Common.{◌≡◌, ◌+◌, [], ap, ◌∙◌, drop, length}
use Rattle.std.proofs.Math.ListN.{drop_of_length-le}
use Rattle.pst_runs.proofs.Behind.{behind_end}
use Rattle.pst_runs.proofs.Lawful.{runs_lawful}
use Rattle.pst_runs.specs.Items.{runs_from}
use Rattle.pst_runs.specs.Replies.{behind}
use Rattle.pst_runs.proofs.reader.read_runs.Goals as goal

pub returns-clause-lawful : goal.returns-clause-lawful
returns-clause-lawful c =
    let m = c.args.typed.now in
    let forms = c.args.trees.now in
    let runs = c.loop-tree.runs.items in
    let none : drop c.loop-tree.tree-index forms ≡ [] = drop_of_length-le forms c.loop-tree-test.false in
    let next = length runs + 1 in
    runs_lawful m forms runs (c.loop-tree.invariant ∙ ap (λ fs. behind runs (runs_from m next fs)) none ∙ behind_end runs)
