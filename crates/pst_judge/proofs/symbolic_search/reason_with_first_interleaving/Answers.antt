use Rattle.std.proofs.Common.{Some, ap}
use Rattle.pst_judge.proofs.symbolic_search.reason_with_first_interleaving.Goals as goal

pub returns : goal.returns
returns c =
    let word = rw (c.new.ensures.items, c.as_slice-branches.ensures, c.case.ensures.same) at c.in_ok-word.ensures in
    (c.in_ok-word.word, word, ap (λ w. Some w) c.reason_of.ensures)
