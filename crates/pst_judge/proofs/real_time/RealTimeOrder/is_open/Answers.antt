use Rattle.std.proofs.Common.{◌≡◌, ◌<◌, length, not, true, ap, sym, ◌∙◌, arith}
use Rattle.std.proofs.lemmas.Grind.{common_steps}
use Rattle.pst_judge.specs.RealTime.{next_of, one_precedes, may_come}
use Rattle.pst_judge.proofs.Timely.{precedes-some}
use Rattle.pst_judge.proofs.real_time.RealTimeOrder.is_open.Goals as goal

pub returns-then-precedes : goal.returns-then-precedes
returns-then-precedes c =
    let branches = c.args.self.now.branches.now in
    let next = next_of branches c.args.done.now in
    let other = c.loop-other.other in
    let within : other < length branches = grind (arith, common_steps) in
    let earlier : one_precedes (next other) c.in-Some.next ≡ true =
    ap (λ o. one_precedes o c.in-Some.next) (sym c.next_call-in-loop-other.ensures ∙ c.in-Some-next_call.is) ∙ sym c.precedes.ensures ∙ c.if-precedes.true in
    sym (ap (may_come next (length branches)) (sym c.next_call.ensures ∙ c.in-Some.is) ∙ ap not (precedes-some next (length branches) other c.in-Some.next within earlier))
