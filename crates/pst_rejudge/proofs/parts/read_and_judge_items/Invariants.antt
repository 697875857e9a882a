use Rattle.pst_rejudge.specs.Parts.{AreAnswered}
use Rattle.pst_rejudge.proofs.parts.read_and_judge_items.Given as goal

-- the trees that were taken are answered
abbrev pub invariant-loop-tree : goal.invariant-loop-tree
invariant-loop-tree g l =
    AreAnswered l.judge.order (g.C.Callbacks.model l.judge.callbacks.now) l.keeps l.yielded l.runs.items l.answers.items
