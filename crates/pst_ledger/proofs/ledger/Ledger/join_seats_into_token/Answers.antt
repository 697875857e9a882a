use Rattle.std.proofs.Common.{arith, ◌∷◌, ◌++◌, [], ap, sym, ◌∙◌, subst, append_assoc}
use Rattle.pst_ledger.specs.Seats.{OfTable}
use Rattle.pst_ledger.specs.Rule.{together}
use Rattle.pst_ledger.proofs.Steps.{sits, joins}
use Rattle.pst_ledger.proofs.Closing.{of_front, of_last}
use Rattle.pst_ledger.proofs.ledger.Ledger.join_seats_into_token.Goals as goal

pub load_new_seat-all-requires : goal.load_new_seat-all-requires
load_new_seat-all-requires g c = let words = c.self.invariant.1 in (omega (arith, words), sits _ _)

pub settle_seat_into_token-token-requires-clause-own : goal.settle_seat_into_token-token-requires-clause-own
settle_seat_into_token-token-requires-clause-own g c κs within =
    let id = c.args.self.now.table in
    of_last id c.pop.new.self.items c.in-Some.seat (subst (OfTable id) c.in-Some.ensures.items c.loop-seat.invariant.5)

pub join_seat-requires : goal.join_seat-requires
join_seat-requires g c =
    let words = c.self.invariant.1 in
    let own = sym (ap (λ o. o.table) c.self.view_is) in
    (c.loop-seat.invariant.4 ∙ own, c.settle_seat_into_token-token.ensures.place ∙ own, c.settle_seat_into_token-token.ensures.view.1, omega (arith, words), joins _ _ _ _ _)

pub loop-seat-preserved : goal.loop-seat-preserved
loop-seat-preserved g c =
    let id = c.args.self.now.table in
    let h = c.loop-seat.invariant in
    let cut = c.in-Some.ensures.items in
    let done = h.0 in
    let seat = c.in-Some.seat in (
      seat ∷ done,
      h.1 ∙ (ap (λ l. l ++ done) cut ∙ append_assoc c.pop.new.self.items (seat ∷ []) done),
      ap (λ m. m.0) c.join_seat.ensures.2 ∙ ((λ i. together (h.2 i) (c.settle_seat_into_token-token.ensures.view.0 i))),
      (c.settle_seat_into_token-token.ensures.order, h.3),
      c.join_seat.ensures.0 ∙ h.4,
      of_front id c.pop.new.self.items seat (subst (OfTable id) cut h.5),
    )
