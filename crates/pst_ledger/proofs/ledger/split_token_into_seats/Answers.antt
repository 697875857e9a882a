use Rattle.std.proofs.Common.{arith, ◌≡◌, ◌+◌, ◌-◌, ℕ, ap, ◌∙◌}
use Rattle.pst_ledger.specs.Rule.{fresh}
use Rattle.pst_ledger.proofs.Steps.{splits}
use Rattle.pst_ledger.proofs.ledger.split_token_into_seats.Goals as goal

pub split_seat-token-requires : goal.split_seat-token-requires
split_seat-token-requires g c =
    let h = c.loop.invariant in
    let words = c.requires.table.1 in
    let n : ℕ = c.args.seats - (c.loop.counter + 1) in
    let next : c.args.seats - c.loop.counter ≡ n + 1 = omega (arith, c.loop-test.true) in
    (h.place, omega (arith, words), splits _ _ n _ (h.view ∙ ap fresh next))
