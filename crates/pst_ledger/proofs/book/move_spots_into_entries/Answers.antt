use Rattle.std.proofs.Common.{arith, ◌≡◌, ◌∷◌, [], ◌++◌, List, length, map, refl, sym, ap, ◌∙◌, append_assoc, append-nil, length-append}
use Rattle.std.proofs.lemmas.List.{map-append, length-map}
use Rattle.std.specs.Vec.Iter.{into_iter_items}
use Rattle.pst_ledger.specs.Core.{shown}
use Rattle.pst_ledger.proofs.book.move_spots_into_entries.Goals as goal

nothing_left : {X : Type 0} (l : List X) → length l ≡ 0 → l ≡ []
nothing_left [] h = refl
nothing_left (x ∷ xs) h = absurd (omega arith)

pub push_reserved-requires : goal.push_reserved-requires
push_reserved-requires g c =
    let at = c.loop-spot in
    let steps = c.in-Some.ensures.steps.0 in
    let pushed = ap length at.invariant.pushed ∙ length-map at.yielded shown in
    let all = sym (ap length at.invariant.all) ∙ length-append at.yielded (into_iter_items at.spot-iterator) in
    let some_left = ap length steps in
    let room = at.invariant.room in
    omega (arith, pushed, all, some_left, room, at.room.ok.0)

pub loop-spot-preserved : goal.loop-spot-preserved
loop-spot-preserved g c =
    let at = c.loop-spot in
    let x = c.in-Some.spot in
    let steps : into_iter_items at.spot-iterator ≡ x ∷ into_iter_items c.next.new.self = c.in-Some.ensures.steps.0 in record {
      all = append_assoc at.yielded (x ∷ []) _ ∙ rw (← steps) at.invariant.all;
      pushed = c.push_reserved.ensures.items ∙ (ap (λ e. at.room.items ++ e ∷ []) c.into_entry.ensures ∙ (ap (λ l. l ++ shown x ∷ []) at.invariant.pushed ∙ sym (map-append shown at.yielded (x ∷ []))));
      long = (let was = at.invariant.long in let gone = c.in-Some.ensures.steps.1 in let short = ap length steps in omega arith);
      room = (let room = at.invariant.room in omega (arith, room, c.push_reserved.ensures.capacity));
    }

pub returns : goal.returns
returns g c =
    let at = c.loop-spot in
    let none = c.in-None.ensures.steps in
    let empty : into_iter_items at.spot-iterator ≡ [] = nothing_left _ (sym at.invariant.long ∙ none.0) in
    let all = sym (append-nil at.yielded) ∙ rw empty at at.invariant.all ∙ c.into_iter-spot-iterator.ensures.into_iter_gives.0 in
    at.invariant.pushed ∙ ap (map shown) all
