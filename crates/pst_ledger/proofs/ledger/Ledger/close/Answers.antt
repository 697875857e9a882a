use Rattle.std.proofs.Common.{arith, ◌≡◌, ℕ, ap, sym, ◌∙◌, subst}
use Rattle.std.specs.Slots.{slots_items, slots_counts}
use Rattle.pst_ledger.specs.Seats.{Settles}
use Rattle.std.proofs.Common.{length}
use Rattle.pst_ledger.proofs.Parts.{is_line}
use Rattle.pst_ledger.proofs.Owning.{keeps_order}
use Rattle.pst_ledger.proofs.Closing.{closes}
use Rattle.pst_ledger.proofs.ledger.Ledger.close.Goals as goal

pub returns : goal.returns
returns g c =
    let ts = c.args.seats.items in
    let closed = c.close_with-closed.result in
    let values = c.close_with-closed.ensures.values in
    let key = c.self.invariant.0 in
    let count : length ts ≡ c.self.inside.seats = omega (arith, c.len.ensures, c.if-len-self.false, c.args.seats.ok.0) in
    let seats = ap (λ o. o.seats) c.self.view_is in
    let counts = slots_counts closed.slots in
    let long : length (slots_items closed.slots) ≡ c.args.self.table.slots = sym counts.0 ∙ (c.close_with-closed.ensures.counts.1 ∙ ap (λ o. o.table.slots) c.self.view_is) in
    let all = closes c.self.inside.table.shared.key _ _ ts _ (slots_items closed.slots) values.2 c.join_seats_into_token-all.ensures.view c.join_seats_into_token-all.ensures.order (count ∙ sym key) in
    let slots : Settles all.0 c.args.self.table.slots ts c.take_entries_and_free_table.result.items = subst (λ (n : ℕ). Settles all.0 n ts c.take_entries_and_free_table.result.items) long (subst (λ xs. Settles all.0 (length (slots_items closed.slots)) ts xs) (sym c.take_entries_and_free_table.ensures) all.1) in
    (count ∙ seats, (all.0, slots, is_line all.0 c.args.self.table.slots ts c.take_entries_and_free_table.result.items slots, keeps_order all.0 c.args.self.table.slots ts c.take_entries_and_free_table.result.items slots))
