use Rattle.std.proofs.Common.{◌≡◌, ◌∷◌, length, sym, ap, ◌∙◌, arith, rules}
use Rattle.pst_judge.proofs.Effective.{effective_more, one_more_at}
use Rattle.pst_judge.specs.Unknown.{effective}
use Rattle.pst_judge.proofs.unknown_search.+count_effective_letters.Goals as goal

pub returns-clause-letters : goal.returns-clause-letters
returns-clause-letters t c =
    let column = c.in-Some.column.now in
    let rest = c.in-Some.rest.now in
    let knowns = c.args.knowns.now in
    let w : c.args.word.now ≡ column ∷ rest = search rules in
    effective_more knowns c.args.done.now c.args.word.now column rest w c.count_effective_letters.result (sym c.are_reached.ensures ∙ c.if-are_reached.false)
    (c.count_effective_letters.ensures.letters ∙ ap (λ d. effective knowns d rest) c.count_one_more.ensures)
