use Rattle.std.proofs.Common.{arith, ◌≡◌, ◌<◌, ap, sym, ◌∙◌, refl}
use Rattle.pst_ledger.specs.Count.{one_if}
use Rattle.pst_ledger.proofs.Steps.{draws}
use Rattle.pst_ledger.proofs.Seats.{has_room, draw_sound}
use Rattle.pst_ledger.proofs.ledger.Ledger.claim.Goals as goal

pub fetch_add-found-requires : goal.fetch_add-found-requires
fetch_add-found-requires g c =
    let part = c.seat.invariant.part in
    let mark = c.seat.invariant.mark ∙ ap one_if c.if-seat.false in
    let words = c.self.invariant.1 in (
      ap (λ t. t.table) c.seat.view_is ∙ (c.requires.own ∙ sym (ap (λ o. o.table) c.self.view_is)),
      omega (arith, words),
      draws _ _ _ _ (omega (arith, part, mark)),
    )

pub push_reserved-requires : goal.push_reserved-requires
push_reserved-requires g c =
    let same : c.seat.inside.token.table_id.slots ≡ c.self.inside.table.shared.table_id.slots = ap (λ t. t.table.slots) c.seat.view_is ∙ (ap (λ i. i.slots) c.requires.own ∙ sym (ap (λ o. o.table.slots) c.self.view_is)) in
    let lt : c.fetch_add-found.result < c.self.inside.table.shared.table_id.slots = omega (arith, c.slot_count.ensures, c.if-found-slot_count.true) in
    has_room c.seat.inside c.fetch_add-found.result c.seat.invariant (omega (arith, same)) (c.fetch_add-found.ensures.2.0 lt).2

pub invariant_of-seat : goal.invariant_of-seat
invariant_of-seat g c =
    let same : c.seat.inside.token.table_id.slots ≡ c.self.inside.table.shared.table_id.slots = ap (λ t. t.table.slots) c.seat.view_is ∙ (ap (λ i. i.slots) c.requires.own ∙ sym (ap (λ o. o.table.slots) c.self.view_is)) in
    let lt : c.fetch_add-found.result < c.self.inside.table.shared.table_id.slots = omega (arith, c.slot_count.ensures, c.if-found-slot_count.true) in
    let drawn = c.fetch_add-found.ensures.2.0 lt in
    draw_sound c.seat.inside _ c.fetch_add-found.result c.seat.invariant (ap (λ t. t.held) c.seat.view_is ∙ c.requires.idle) (omega (arith, same)) drawn.2
    c.fetch_add-found.ensures.0 drawn.0 drawn.1 c.push_reserved.ensures.items c.push_reserved.ensures.capacity refl c.if-seat.false refl
