use Rattle.std.proofs.Common.{arith, ◌∷◌, ℕ, ap, sym, ◌∙◌}
use Rattle.atomic_table.specs.Table.{rest}
use Rattle.pst_ledger.specs.declared.entry.Entry.TheVariants.{Held}
use Rattle.pst_ledger.specs.Count.{times, keys}
use Rattle.pst_ledger.specs.Inside.{slots_of, settled}
use Rattle.pst_ledger.specs.Rule.{with_end}
use Rattle.pst_ledger.proofs.Steps.{ends}
use Rattle.pst_ledger.proofs.Seats.{open_number}
use Rattle.pst_ledger.proofs.Closing.{settled_held, settled_idle, none_of}
use Rattle.pst_ledger.proofs.ledger.Ledger.settle_seat_into_token.Goals as goal
use Rattle.pst_ledger.proofs.ledger.Ledger.settle_seat_into_token.Goals.{in-Some, in_default}

pub fetch_add-requires : goal.fetch_add-requires
fetch_add-requires g c =
    let words = c.self.invariant.1 in
    let k : ℕ = c.in-Some.number in
    let held = c.in-Some.is in
    let moved = c.exchange-vacant.ensures.3 in (
      c.exchange-vacant.ensures.0 ∙ (ap (λ t. t.table) c.seat.view_is ∙ (c.requires.own ∙ sym (ap (λ o. o.table) c.self.view_is))),
      omega (arith, words),
      ends _ _ _ _ k Held (ap (λ m. m.1) moved ∙ ap (λ l. (k, Held) ∷ rest l) (c.seat.invariant.slots ∙ ap slots_of held))
          (let a = open_number c.seat.inside k c.seat.invariant held in let d = ap (λ m. times k m.0.draws) moved in let e = ap (λ m. times k (keys m.0.ends)) moved in omega (arith, a, d, e)),
    )

pub returns-clause-view : goal.returns-clause-view
returns-clause-view g c = elim c.match-held.branch [
  | in-Some w ↦
      let k : ℕ = w.in-Some.number in
      let held = w.in-Some.is in
      let moved = w.exchange-vacant.ensures.3 in
      let did = w.fetch_add.ensures.2 k Held (ap (λ m. m.1) moved ∙ ap (λ l. (k, Held) ∷ rest l) (c.seat.invariant.slots ∙ ap slots_of held)) in (
        ap (λ t. t.me.0) w.token-is ∙ (did.0 ∙ (ap (λ m. with_end m.0 k Held) moved ∙ (settled_held c.seat.inside k c.seat.invariant held ∙ ap settled c.seat.view_is))),
        ap (λ t. t.me.1) w.token-is ∙ did.1,
      )
  | in_default w ↦ (ap (λ t. t.me.0) w.token-is ∙ (settled_idle c.seat.inside c.seat.invariant (none_of c.seat.inside.held w.in_default.not-Some) ∙ ap settled c.seat.view_is), ap (λ t. t.me.1) w.token-is ∙ (c.seat.invariant.slots ∙ ap slots_of (none_of c.seat.inside.held w.in_default.not-Some)))
]
