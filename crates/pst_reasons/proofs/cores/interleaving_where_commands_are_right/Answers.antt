use Rattle.pst_reasons.proofs.cores.interleaving_where_commands_are_right.Goals as goal

pub returns-in-Faulted : goal.returns-in-Faulted
returns-in-Faulted g c =
    let v = rw (c.in-Faulted.is, c.requires.answered.answered) at c.in_ok-word.ensures in
    λ p. v.0 p.0 p.1

pub returns-in-Unexplained : goal.returns-in-Unexplained
returns-in-Unexplained g c =
    let v = rw (c.in-Unexplained.is, c.requires.answered.answered) at c.in_ok-word.ensures in
    λ p. v.0 p.0 p.1
