use Rattle.std.proofs.Common.{◌≡◌, ◌∙◌, sym, rules}
use Rattle.std.proofs.lemmas.Result.{IfOk-weaker}
use Rattle.pst_rejudge.proofs.Answering.{of_tree}
use Rattle.pst_rejudge.proofs.stream_judging.judge_tree_on_line.Goals as goal

pub returns : goal.returns
returns g c =
    let found = c.in-Ok.ensures.found in
    IfOk-weaker c.read_and_judge_tree.result _ _
    (λ answer is. of_tree c.args.judge.now.order (g.C.Callbacks.model c.args.judge.now.callbacks.now) c.args.line.now c.in-Ok.trees.items c.index.result.now answer found.0 found.1 (search rules) c.index.ensures is) c.read_and_judge_tree.ensures
