use Rattle.std.proofs.Common.{◌≡◌, ◌==◌, true, false, List, ℕ, subst, arith, not, Ok}
use Rattle.std.specs.Prelude.{IfOk}
use Rattle.std.proofs.lemmas.Bool.Decides.{nat_tests}
use Rattle.std.proofs.lemmas.List.{append-nil}
use Rattle.pst_reasons.proofs.Asking.{says_there, says_elsewhere, none_reported}
use Rattle.pst_reasons.specs.Allowed.{none_is_right}
use Rattle.pst_judge.specs.Replay.{SaysTruth}
use Rattle.pst_reasons.specs.Reasons.{asks}
use Rattle.pst_reasons.proofs.conditions.AnswersExcludedCondition.evaluate_on_event.Goals as goal

pub returns-in-Ok : goal.returns-in-Ok
returns-in-Ok g c =
    let m = g.C.Callbacks.model c.args.callbacks.now in
    let is : (c.args.event.now.number == c.args.self.now.number) ≡ true = grind (arith, nat_tests, c.if-event-self.true) in
    let right = rw c.in-Ok.is at c.in_ok-right.ensures in
    says_there c.args.self.now.number (λ t d. none_is_right c.args.self.now.model.now t d c.args.self.now.answers.now) c.args.self.now.others.now m c.args.state.now c.args.event.now (Ok (Ok (not c.in-Ok.right))) is
    (none_reported c.args.self.now.model.now c.args.state.now c.args.event.now c.args.self.now.answers.now c.in-Ok.right right)

pub returns : goal.returns
returns g c =
    let m = g.C.Callbacks.model c.args.callbacks.now in
    let is : (c.args.event.now.number == c.args.self.now.number) ≡ false = grind (arith, nat_tests, c.if-event-self.false) in
    let P : List ℕ → Type 0 = λ xs. IfOk c.evaluate_on_event.result (SaysTruth (asks xs m c.args.state.now c.args.event.now)) in
    says_elsewhere c.args.self.now.number (λ t d. none_is_right c.args.self.now.model.now t d c.args.self.now.answers.now) c.args.self.now.others.now m c.args.state.now c.args.event.now c.evaluate_on_event.result is (subst P (append-nil c.args.self.now.others.now) c.evaluate_on_event.ensures)
