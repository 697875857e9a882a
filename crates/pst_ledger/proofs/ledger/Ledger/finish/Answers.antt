use Rattle.std.proofs.Common.{arith, ◌∷◌, ℕ, ap, sym, ◌∙◌, refl}
use Rattle.atomic_table.specs.Table.{rest}
use Rattle.pst_ledger.specs.Count.{times, keys}
use Rattle.pst_ledger.specs.Inside.{slots_of}
use Rattle.pst_ledger.specs.Rule.{with_end}
use Rattle.pst_ledger.proofs.Steps.{ends}
use Rattle.pst_ledger.proofs.Seats.{open_number, end_sound}
use Rattle.pst_ledger.proofs.ledger.Ledger.finish.Goals as goal

pub fetch_add-requires : goal.fetch_add-requires
fetch_add-requires g c =
    let words = c.self.invariant.1 in
    let k : ℕ = c.args.number in
    let held = ap (λ t. t.held) c.seat.view_is ∙ c.requires.held in
    let moved = c.exchange-vacant.ensures.3 in (
      c.exchange-vacant.ensures.0 ∙ (ap (λ t. t.table) c.seat.view_is ∙ (c.requires.own ∙ sym (ap (λ o. o.table) c.self.view_is))),
      omega (arith, words),
      ends _ _ _ _ k c.args.entry (ap (λ m. m.1) moved ∙ ap (λ l. (k, c.args.entry) ∷ rest l) (c.seat.invariant.slots ∙ ap slots_of held))
          (let a = open_number c.seat.inside k c.seat.invariant held in let d = ap (λ m. times k m.0.draws) moved in let e = ap (λ m. times k (keys m.0.ends)) moved in omega (arith, a, d, e)),
    )

pub invariant_of-seat : goal.invariant_of-seat
invariant_of-seat g c =
    let k : ℕ = c.args.number in
    let held = ap (λ t. t.held) c.seat.view_is ∙ c.requires.held in
    let moved = c.exchange-vacant.ensures.3 in
    let did = c.fetch_add.ensures.2 k c.args.entry (ap (λ m. m.1) moved ∙ ap (λ l. (k, c.args.entry) ∷ rest l) (c.seat.invariant.slots ∙ ap slots_of held)) in
    end_sound c.seat.inside _ k c.args.entry c.seat.invariant held (c.fetch_add.ensures.0 ∙ c.exchange-vacant.ensures.0) (did.0 ∙ ap (λ m. with_end m.0 k c.args.entry) moved) did.1 refl refl refl
