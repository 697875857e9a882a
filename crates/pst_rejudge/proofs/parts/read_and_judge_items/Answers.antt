use Rattle.pst_rejudge.proofs.Together.{one_more}
use Rattle.pst_rejudge.proofs.parts.read_and_judge_items.Goals as goal

pub loop-tree-preserved-in_ok-push : goal.loop-tree-preserved-in_ok-push
loop-tree-preserved-in_ok-push g c =
    let item = c.in_ok-run in
    one_more c.args.judge.now.order (g.C.Callbacks.model c.args.judge.now.callbacks.now) c.args.keeps c.loop-tree.yielded c.in-Some.tree
    c.loop-tree.runs.items _ item.run' c.loop-tree.answers.items _ item.answer c.loop-tree.invariant item.ensures.run item.ensures.answer
    c.in_ok-keep_run.ensures c.in_ok-push.ensures.items

pub loop-tree-preserved-in_ok-push-2 : goal.loop-tree-preserved-in_ok-push-2
loop-tree-preserved-in_ok-push-2 g c =
    let item = c.in_ok-run in
    one_more c.args.judge.now.order (g.C.Callbacks.model c.args.judge.now.callbacks.now) c.args.keeps c.loop-tree.yielded c.in-Some.tree
    c.loop-tree.runs.items _ item.run' c.loop-tree.answers.items _ item.answer c.loop-tree.invariant item.ensures.run item.ensures.answer
    c.in_ok-keep_run.ensures c.in_ok-push.ensures.items

pub loop-tree-preserved : goal.loop-tree-preserved
loop-tree-preserved g c =
    let item = c.in_ok-run in
    one_more c.args.judge.now.order (g.C.Callbacks.model c.args.judge.now.callbacks.now) c.args.keeps c.loop-tree.yielded c.in-Some.tree
    c.loop-tree.runs.items _ item.run' c.loop-tree.answers.items _ item.answer c.loop-tree.invariant item.ensures.run item.ensures.answer
    c.in_ok-keep_run.ensures c.in_ok-push.ensures.items
