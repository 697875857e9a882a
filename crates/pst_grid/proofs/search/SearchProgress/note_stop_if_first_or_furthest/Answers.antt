use Rattle.std.proofs.Common.{◌≡◌, ◌∙◌, ap, sym, false, arith}
use Rattle.std.proofs.lemmas.Grind.{common_steps}
use Rattle.std.specs.Option.{is_none}
use Rattle.pst_grid.specs.Kept.{is_kept}
use Rattle.pst_grid.proofs.Covering.{keeps-none}
use Rattle.pst_grid.proofs.Opening.{fill}
use Rattle.pst_grid.proofs.search.SearchProgress.note_stop_if_first_or_furthest.Goals as goal

pub returns-else-is_further-clause-best : goal.returns-else-is_further-clause-best
returns-else-is_further-clause-best g c =
    let here = c.args.self.now in
    let f = fill (g.O.Order.order c.args.order.now) c.args.lengths.now c.requires.progress here.done.items c.requires.place in
    (f.0, f.1, keeps-none c.args.at _ c.args.why here.best (ap (λ y. is_kept c.args.at y here.best) c.in-False.is ∙ sym c.is_further.ensures ∙ c.if-is_further.false))

pub returns-else-is_none-clause-best : goal.returns-else-is_none-clause-best
returns-else-is_none-clause-best g c =
    let here = c.args.self.now in
    let f = fill (g.O.Order.order c.args.order.now) c.args.lengths.now c.requires.progress here.done.items c.requires.place in
    let kept : is_none here.best.fault ≡ false = grind (arith, common_steps) in
    (f.0, f.1, keeps-none c.args.at _ c.args.why here.best (ap (λ y. is_kept c.args.at y here.best) c.in-Fault.is ∙ kept))
