use Rattle.std.proofs.Common.{ℕ, Bool, List, All, Bor, Vec, Global, IfOk, subst, sym}
use Rattle.std.specs.List.{AllZip}
use Rattle.rayon.proofs.ToStd.{slice-AllZip}
use Rattle.pst_judge.specs.declared.by_order.CallOrder.{CallOrder}
use Rattle.pst_rejudge.proofs.Collected.{collected}
use Rattle.pst_rejudge.proofs.Placed.{all_of_zip, if_in_all}
use Rattle.pst_rejudge.specs.Places.{StandsIn, AreFilled}
use Rattle.pst_rejudge.specs.declared.parts.AnsweredPart.{AnsweredPart}
use Rattle.pst_model.specs.declared.model.Source.{Source}
use Rattle.pst_rejudge.proofs.parts.read_and_judge_in_parts.Goals as goal

pub returns-in-Ok : goal.returns-in-Ok
returns-in-Ok g c =
    let Stand : CallOrder → Source → Bool → List (Bor (List ℕ)) → Vec AnsweredPart Global → Type 0 = λ order m keeps parts taken. All (StandsIn order m keeps parts) taken.items in
    let keeps = c.args.keeps in
    let order = c.args.judge.now.order in
    let m = c.args.typed.now in
    let parts = c.in_ok-parts.parts.items in
    let taken = c.in_ok-taken.taken in
    let f = c.map.result.f in
    let offers = c.map.result.base.base.slice.now in
    let all = c.in_ok-taken.ensures in
    let chain = all.1 in
    let Stands = Stand f.0.now.order (g.C.Callbacks.model f.0.now.callbacks.now) f.4.now f.3.now.items in
    let each = collected (λ x list. Stands list) (λ v. v.items) offers all.0 taken _
    (slice-AllZip chain.0 offers chain.1 (λ x r. IfOk r Stands) all.0 chain.2) all.2 in
    let here = subst (λ f. IfOk taken (λ lists. AllZip (λ x list. Stand f.0.now.order (g.C.Callbacks.model f.0.now.callbacks.now) f.4.now f.3.now.items list) offers lists.items))
    c.map.ensures.f each in
    let of_model = subst (λ model. IfOk taken (λ lists. AllZip (λ x list. Stand order model keeps parts list) offers lists.items)) (sym c.requires) here in
    let lists = c.in-Ok.lists.items in
    let stand = all_of_zip (Stand order m keeps parts) offers lists (rw c.in-Ok.is at of_model) in
    let places = c.in_ok-places-in-Ok.places.items in
    let filled = subst (λ l. All (Stand order m keeps l) lists → AreFilled order m keeps l places) c.as_slice.ensures.value (c.in_ok-places-in-Ok.ensures order m keeps) stand in
    if_in_all order m keeps c.args.input.now parts places c.join_places_unless_one_is_empty.result c.in_ok-parts.ensures filled
    c.join_places_unless_one_is_empty.ensures.all c.join_places_unless_one_is_empty.ensures.runs c.join_places_unless_one_is_empty.ensures.answers
