use Rattle.std.proofs.Common.{◌≡◌, ◌==◌, true, false, List, ℕ, subst, arith}
use Rattle.std.specs.Prelude.{IfOk}
use Rattle.std.proofs.lemmas.Bool.Decides.{nat_tests}
use Rattle.std.proofs.lemmas.List.{append-nil}
use Rattle.pst_reasons.proofs.Asking.{says_there, says_elsewhere}
use Rattle.pst_reasons.specs.Allowed.{is_right}
use Rattle.pst_judge.specs.Replay.{SaysTruth}
use Rattle.pst_reasons.specs.Reasons.{asks}
use Rattle.pst_reasons.proofs.conditions.AnswerReplacedCondition.evaluate_on_event.Goals as goal

pub returns-then-event-self : goal.returns-then-event-self
returns-then-event-self g c =
    let m = g.C.Callbacks.model c.args.callbacks.now in
    let is : (c.args.event.now.number == c.args.self.now.number) ≡ true = grind (arith, nat_tests, c.if-event-self.true) in
    says_there c.args.self.now.number (λ t d. is_right c.args.self.now.model.now t d c.args.self.now.answer.now) c.args.self.now.others.now m c.args.state.now c.args.event.now c.is_answer_right.result is c.is_answer_right.ensures

pub returns : goal.returns
returns g c =
    let m = g.C.Callbacks.model c.args.callbacks.now in
    let is : (c.args.event.now.number == c.args.self.now.number) ≡ false = grind (arith, nat_tests, c.if-event-self.false) in
    let P : List ℕ → Type 0 = λ xs. IfOk c.evaluate_on_event.result (SaysTruth (asks xs m c.args.state.now c.args.event.now)) in
    says_elsewhere c.args.self.now.number (λ t d. is_right c.args.self.now.model.now t d c.args.self.now.answer.now) c.args.self.now.others.now m c.args.state.now c.args.event.now c.evaluate_on_event.result is (subst P (append-nil c.args.self.now.others.now) c.evaluate_on_event.ensures)
