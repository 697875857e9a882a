use Rattle.std.proofs.Common.{◌≡◌, true, false, sym, ◌∙◌, subst}
use Rattle.pst_case.specs.Shape.{IsShaped}
use Rattle.pst_case.specs.Unknown.{has_unknown}
use Rattle.pst_grid.specs.Orders.{NeverBlocks}
use Rattle.pst_judge.proofs.ByOrder.{verdict_of_known, verdict_with_some}
use Rattle.pst_judge.proofs.CallsInOrder.{calls_never_block}
use Rattle.pst_judge.proofs.Furthest.{if_ok_map}
use Rattle.pst_judge.specs.InOrder.{IsVerdictInOrder}
use Rattle.pst_judge.specs.Unknown.{IsVerdictWithUnknown, calls_order}
use Rattle.pst_judge.specs.UnknownCalls.{column_lengths}
use Rattle.pst_judge.proofs.by_order.verdict_by.Goals as goal

pub verdict_with_unknown-requires-clause-progress : goal.verdict_with_unknown-requires-clause-progress
verdict_with_unknown-requires-clause-progress g c =
    let m = g.C.Callbacks.model c.args.callbacks.now in
    let case = c.args.shaped.now.case in
    let history = c.args.history.now in
    let shaped = subst (λ n. IsShaped n case) c.requires.model c.case-case.ensures.shape in
    λ whole. subst (λ order. NeverBlocks (calls_order order case history) (column_lengths case history)) (sym c.in_ok-recorded.ensures.order) (calls_never_block m case history shaped c.requires.matches whole c.args.order)

pub returns-then-has_unknown-clause-verdict : goal.returns-then-has_unknown-clause-verdict
returns-then-has_unknown-clause-verdict g c =
    let m = g.C.Callbacks.model c.args.callbacks.now in
    let case = c.args.shaped.now.case in
    let history = c.args.history.now in
    if_ok_map _ _ c.verdict_with_unknown.result
    (λ v is. verdict_with_some m case history v c.args.order (sym c.has_unknown.ensures ∙ c.if-has_unknown.true) (subst (λ order. IsVerdictWithUnknown m order case history v) c.in_ok-recorded.ensures.order is))
    c.verdict_with_unknown.ensures

pub returns-clause-verdict : goal.returns-clause-verdict
returns-clause-verdict g c =
    let m = g.C.Callbacks.model c.args.callbacks.now in
    let case = c.args.shaped.now.case in
    let history = c.args.history.now in
    if_ok_map _ _ c.verdict_in_order.result
    (λ v is. verdict_of_known m case history v c.args.order (sym c.has_unknown.ensures ∙ c.if-has_unknown.false) (subst (λ order. IsVerdictInOrder m order case history v) c.in_ok-recorded-2.ensures.order is))
    c.verdict_in_order.ensures.verdict
