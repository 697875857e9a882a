use Rattle.std.proofs.Common.{Bool, true, refl, subst, Ok}
use Rattle.std.specs.Prelude.{IfOk, if◌then◌else◌}
use Rattle.pst_judge.specs.Replay.{SaysTruth, post_asked}
use Rattle.pst_reasons.proofs.FewerAsked.{truth_is}
use Rattle.pst_reasons.specs.Reasons.{always_true}
use Rattle.pst_value.specs.declared.value.Value.{Bool as Truth}
use Rattle.pst_reasons.proofs.conditions.SomePostconditionsCondition.evaluate_on_event.Goals as goal

pub returns-then-is_postcondition_checked : goal.returns-then-is_postcondition_checked
returns-then-is_postcondition_checked g c =
    let m = g.C.Callbacks.model c.args.callbacks.now in
    let P : Bool → Type 0 = λ b. IfOk c.evaluate_on_event.result (SaysTruth (if b then post_asked m c.args.state.now c.args.event.now else always_true)) in
    subst P c.if-is_postcondition_checked.ensures c.evaluate_on_event.ensures

pub returns : goal.returns
returns g c =
    let m = g.C.Callbacks.model c.args.callbacks.now in
    let P : Bool → Type 0 = λ b. SaysTruth (if b then post_asked m c.args.state.now c.args.event.now else always_true) (Ok true) in
    subst P c.if-is_postcondition_checked.ensures ((Truth true, 0), refl, truth_is)
