use Rattle.std.proofs.Common.{◌≡◌, length, ap, ◌∙◌, arith}
use Rattle.pst_judge.proofs.Fitted.{branches_are, suffix_fits, suffix_few, prefix_within, lengths_within}
use Rattle.pst_judge.proofs.judging.verdict_after_prefix.Goals as goal

pub search-requires-clause-state : goal.search-requires-clause-state
search-requires-clause-state g c = rw (c.in_ok-branches.ensures.callbacks, c.in_ok-branches.ensures.shaped) c.requires.state

pub search-requires-clause-commands : goal.search-requires-clause-commands
search-requires-clause-commands g c =
    rw (c.in_ok-branches.ensures.events, c.in_ok-branches.ensures.callbacks, c.in_ok-branches.ensures.shaped) (branches_are (g.C.Callbacks.model c.args.callbacks.now) c.args.shaped.now.case c.args.history.now c.requires.shape c.requires.matches c.requires.answered)

pub search-requires-clause-events : goal.search-requires-clause-events
search-requires-clause-events g c =
    rw (c.in_ok-branches.ensures.suffix, c.in_ok-branches.ensures.callbacks, c.in_ok-branches.ensures.shaped) (suffix_fits (g.C.Callbacks.model c.args.callbacks.now) c.args.shaped.now.case c.args.history.now c.requires.shape c.requires.matches c.requires.answered)

pub search-requires-clause-prefix : goal.search-requires-clause-prefix
search-requires-clause-prefix g c =
    let h = prefix_within (g.C.Callbacks.model c.args.callbacks.now) c.args.shaped.now.case c.requires.shape in
    let n : c.len.result ≡ length c.args.shaped.now.case.prefix = c.len.ensures ∙ ap (λ x. length x.prefix) c.case.ensures.same in
    omega (arith, h, n)

pub search-requires-clause-lengths : goal.search-requires-clause-lengths
search-requires-clause-lengths g c = rw c.in_ok-branches.ensures.shaped (lengths_within (g.C.Callbacks.model c.args.callbacks.now) c.args.shaped.now.case c.requires.shape)

pub search-requires-clause-suffix : goal.search-requires-clause-suffix
search-requires-clause-suffix g c =
    rw c.in_ok-branches.ensures.suffix (suffix_few (g.C.Callbacks.model c.args.callbacks.now) c.args.shaped.now.case c.args.history.now c.requires.shape c.requires.matches c.requires.answered)

pub returns : goal.returns
returns g c =
    let n : c.len.result ≡ length c.args.shaped.now.case.prefix = c.len.ensures ∙ ap (λ x. length x.prefix) c.case.ensures.same in
    rw (c.in_ok-branches.ensures.events, c.in_ok-branches.ensures.suffix, c.in_ok-branches.ensures.callbacks, c.in_ok-branches.ensures.condition, c.in_ok-branches.ensures.shaped, n) at c.search.ensures

pub search-requires-clause-progress : goal.search-requires-clause-progress
search-requires-clause-progress g c = rw c.in_ok-branches.ensures.shaped c.requires.progress
