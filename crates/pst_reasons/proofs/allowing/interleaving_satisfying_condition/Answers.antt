use Rattle.pst_reasons.proofs.allowing.interleaving_satisfying_condition.Goals as goal

pub returns-in-Explained : goal.returns-in-Explained
returns-in-Explained g c =
    let v = rw (c.in-Explained.is, c.requires.answered) at c.in_ok-word.ensures in
    v.0

pub returns-in-Faulted : goal.returns-in-Faulted
returns-in-Faulted g c =
    let v = rw (c.in-Faulted.is, c.requires.answered) at c.in_ok-word.ensures in
    v.0

pub returns-in-Unexplained : goal.returns-in-Unexplained
returns-in-Unexplained g c =
    let v = rw (c.in-Unexplained.is, c.requires.answered) at c.in_ok-word.ensures in
    v.0
