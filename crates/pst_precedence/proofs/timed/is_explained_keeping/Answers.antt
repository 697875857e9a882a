use Rattle.std.proofs.Common.{◌++◌, sym, subst}
use Rattle.pst_precedence.proofs.Kept.{never_blocks}
use Rattle.pst_precedence.proofs.Verdicts.{fitting_times, whether}
use Rattle.pst_precedence.specs.Deleting.{IsWhetherExplained}
use Rattle.pst_precedence.specs.Precedences.{keeping}
use Rattle.pst_precedence.proofs.timed.is_explained_keeping.Goals as goal

pub verdict_in_order-requires-clause-progress : goal.verdict_in_order-requires-clause-progress
verdict_in_order-requires-clause-progress g c =
    let r = c.args.run.now in
    never_blocks r.times.now _ (fitting_times (g.C.Callbacks.model r.callbacks.now) r.shaped.now.case r.history.now r.times.now c.requires.run.fitting)
    (c.args.first.now ++ c.args.rest.now) c.requires.recorded

pub returns : goal.returns
returns g c =
    let r = c.args.run.now in
    let m = g.C.Callbacks.model r.callbacks.now in
    let order = keeping (c.args.first.now ++ c.args.rest.now) in
    subst (IsWhetherExplained m order r.shaped.now.case r.history.now) (sym c.is_explained.ensures)
    (whether m r.shaped.now.case r.history.now order c.in_ok-verdict.verdict c.in_ok-verdict.ensures.verdict c.requires.run.answered)
