use Rattle.std.proofs.Common.{sym, subst}
use Rattle.pst_judge.specs.InOrder.{IsVerdictInOrder}
use Rattle.pst_judge.specs.RealTime.{real_time}
use Rattle.pst_precedence.proofs.Verdicts.{in_time, whether}
use Rattle.pst_precedence.specs.Deleting.{IsWhetherExplained}
use Rattle.pst_precedence.proofs.timed.is_explained_in_time.Goals as goal

pub returns : goal.returns
returns g c =
    let r = c.args.run.now in
    let m = g.C.Callbacks.model r.callbacks.now in
    let h = r.history.now in
    let order = real_time r.times.now in
    subst (IsWhetherExplained m order r.shaped.now.case h) (sym c.is_explained.ensures)
    (whether m r.shaped.now.case h order c.in_ok-verdict.verdict
    (in_time m r.shaped.now.case h r.times.now c.requires.fitting c.in_ok-verdict.verdict
    (subst (λ o. IsVerdictInOrder m o r.shaped.now.case h c.in_ok-verdict.verdict) c.in_ok-recorded.ensures.order c.in_ok-verdict.ensures.verdict)) c.requires.answered)
