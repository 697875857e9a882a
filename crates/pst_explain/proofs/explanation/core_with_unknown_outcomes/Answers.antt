use Rattle.std.proofs.Common.{sym, subst}
use Rattle.pst_case.specs.Shape.{IsShaped}
use Rattle.pst_judge.proofs.CallsInOrder.{calls_never_block}
use Rattle.pst_judge.specs.ByOrder.{calls_order_by}
use Rattle.pst_reasons.specs.Answered.{IsRunOfCalls}
use Rattle.pst_explain.proofs.explanation.core_with_unknown_outcomes.Goals as goal

pub find_core_with_unknown_outcomes-requires : goal.find_core_with_unknown_outcomes-requires
find_core_with_unknown_outcomes-requires g c =
    let m = g.C.Callbacks.model c.args.callbacks.now in
    let of_model = c.args.scene.now.run.now.shaped in
    let h = c.args.history.now in
    let shaped = subst (λ n. IsShaped n of_model.case) c.requires.shaped c.case-case.ensures.shape in
    let calls : IsRunOfCalls m (calls_order_by c.args.order h) of_model h = record {
      of_model = c.requires.shaped;
      of_case = c.requires.matches;
      progress = λ whole. calls_never_block m of_model.case h shaped c.requires.matches whole c.args.order;
    } in
    let ordered = subst (λ order. IsRunOfCalls m order of_model h) (sym c.in_ok-recorded.ensures.order) calls in
    rw c.new-bounded.ensures (record { calls = ordered })
