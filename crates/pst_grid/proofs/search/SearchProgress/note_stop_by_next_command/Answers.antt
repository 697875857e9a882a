use Rattle.std.proofs.Common.{◌≡◌, ◌∙◌, sym, subst, length, false, arith}
use Rattle.pst_grid.specs.Kept.{is_kept}
use Rattle.pst_grid.specs.Merges.{one_more}
use Rattle.pst_grid.proofs.Covering.{keeps-none}
use Rattle.pst_grid.proofs.Placing.{IsAt-branch, IsAt-more}
use Rattle.pst_grid.proofs.Searching.{back_again, take_again}
use Rattle.pst_grid.proofs.Opening.{fill}
use Rattle.pst_grid.proofs.search.SearchProgress.note_stop_by_next_command.Goals as goal

pub returns-then-not-kept-clause-best : goal.returns-then-not-kept-clause-best
returns-then-not-kept-clause-best g c =
    let here = c.args.self.now in
    let at : c.len-at.result ≡ length here.word.items = omega (arith, c.len-at.ensures, here.word.ok.0) in
    let f = fill (g.O.Order.order c.args.order.now) c.args.lengths.now c.requires.progress (one_more here.done.items c.args.branch) (IsAt-more c.args.lengths.now here.done.items c.args.branch c.requires.place c.requires.left) in
    (f.0, f.1, keeps-none _ _ c.args.why here.best (subst (λ n. is_kept n c.args.why here.best ≡ false) at (sym c.keeps-kept.ensures ∙ c.if-not-kept.true)))

pub returns-clause-done : goal.returns-clause-done
returns-clause-done g c =
    c.go_back_in_branch.ensures.done ∙ back_again c.args.self.now.done.items c.note_stop_if_first_or_furthest.new.self.done.items c.args.branch
    (IsAt-branch c.args.lengths.now c.args.self.now.done.items c.args.branch c.requires.place c.requires.left) (c.in_ok-note_stop_if_first_or_furthest.ensures.done ∙ c.in_ok-advance_in_branch.ensures.done)

pub returns-clause-word : goal.returns-clause-word
returns-clause-word g c =
    c.go_back_in_branch.ensures.word ∙ take_again c.args.self.now.word.items c.note_stop_if_first_or_furthest.new.self.word.items c.args.branch (c.in_ok-note_stop_if_first_or_furthest.ensures.word ∙ c.in_ok-advance_in_branch.ensures.word)

pub returns-clause-best : goal.returns-clause-best
returns-clause-best g c =
    let here = c.args.self.now in
    let e = c.in_ok-advance_in_branch.ensures in
    let at : c.len-at.result ≡ length here.word.items = omega (arith, c.len-at.ensures, here.word.ok.0) in
    rw (at, e.word, e.done, e.best, sym c.go_back_in_branch.ensures.best) at c.in_ok-note_stop_if_first_or_furthest.ensures.best
