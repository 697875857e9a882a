use Rattle.std.proofs.Common.{◌≡◌, ◌∙◌, sym, rules}
use Rattle.std.proofs.lemmas.Result.{IfOk-weaker}
use Rattle.pst_rejudge.proofs.Answering.{of_line}
use Rattle.pst_rejudge.proofs.stream_judging.judge_item_on_line.Goals as goal

pub returns-else-begins_like_json_item : goal.returns-else-begins_like_json_item
returns-else-begins_like_json_item g c =
    IfOk-weaker c.judge_tree_on_line.result _ _
    (λ answer is. of_line c.args.judge.now.order (g.C.Callbacks.model c.args.judge.now.callbacks.now) c.args.line.now answer (search rules) is) c.judge_tree_on_line.ensures
