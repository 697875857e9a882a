use Rattle.std.proofs.Common.{◌≡◌, ◌<◌, false, rules}
use Rattle.std.proofs.lemmas.List.Elements.{All-push}
use Rattle.pst_reasons.proofs.OneAnswer.{distinct_more}
use Rattle.pst_reasons.specs.Allowed.{AreAllowedOnce, IsAllowed, is_one_of}
use Rattle.pst_value.specs.declared.value.Value.{Value}
use Rattle.pst_reasons.proofs.allowing.+add_allowed_answers.Goals as goal

pub add_allowed_answers-requires : goal.add_allowed_answers-requires
add_allowed_answers-requires g t c κs within =
    let q = c.args.question.now in
    let r = q.run.now in
    let m = g.C.Callbacks.model r.callbacks.now in
    let order = g.O.Order.order r.order.now in
    let P : Value → Type 0 = IsAllowed m order r.shaped.now.case r.history.now q.others.now q.number in
    let value = c.in-Some-found.value in
    let few : 0 < c.args.left = rw c.in-Some-found.is at c.in_ok-found.ensures.few in
    let new : is_one_of value c.args.values ≡ false = rw (c.in-Some-found.is, c.as_slice-known.ensures) at c.in_ok-found.ensures.new in
    let is : P value = rw c.in-Some-found.is at c.in_ok-found.ensures.allowed in
    let all : AreAllowedOnce m order r.shaped.now.case r.history.now q.others.now q.number c.push.new.self =
    rw c.in_ok-push.ensures.ok (All-push P c.args.values value c.requires.allowed.0 is, distinct_more c.args.values value c.requires.allowed.1 new) in
    (search rules, (within.0, (within.1.0, (within.1.1, (c.requires.answered, (c.requires.same, all))))))
