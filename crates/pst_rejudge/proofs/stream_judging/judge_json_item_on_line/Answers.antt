use Rattle.std.proofs.Common.{◌≡◌, ◌∙◌, sym, ap, rules, arith, refl}
use Rattle.std.proofs.lemmas.Result.{IfOk-weaker}
use Rattle.pst_json_runs.specs.Lines.{line_form}
use Rattle.pst_rejudge.proofs.Answering.{of_json, of_long}
use Rattle.pst_rejudge.proofs.stream_judging.judge_json_item_on_line.Goals as goal

pub returns : goal.returns
returns g c =
    let m = g.C.Callbacks.model c.args.judge.now.callbacks.now in
    IfOk-weaker c.read_and_judge_tree.result _ _
    (λ answer is. of_json c.args.judge.now.order m c.args.line.now c.in_ok-tree.tree answer c.requires.json (omega arith) (search rules) is) c.read_and_judge_tree.ensures
