use Rattle.std.proofs.Common.{◌≡◌, ◌+◌, ap, ◌∙◌, get_or, set, sum, arith}
use Rattle.std.proofs.lemmas.Grind.{common_steps}
use Rattle.pst_grid.proofs.Placing.{sum-left, sum-more}
use Rattle.pst_grid.proofs.search.SearchProgress.advance_in_branch.Goals as goal

pub returns-clause-fewer_left : goal.returns-clause-fewer_left
returns-clause-fewer_left g c =
    let lengths = c.args.lengths.now in
    let done = c.args.self.now.done.items in
    let b = c.args.branch in
    let index_is : c.index-index.result.now ≡ get_or done b 0 = grind (arith, common_steps) in
    let more : sum (set done b (c.index-index.result.now + 1)) ≡ sum done + 1 = ap (λ i. sum (set done b (i + 1))) index_is ∙ sum-more lengths done b c.requires.place c.requires.left in
    omega (arith, sum-left lengths done b c.requires.place c.requires.left)
