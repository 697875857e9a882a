use Rattle.std.proofs.Common.{arith, ap, sym, ◌∙◌, ◌<◌, ◌≤◌, Option, ℕ, length}
use Rattle.pst_ledger.specs.Core.{Core, after_claim, least_free}
use Rattle.pst_ledger.proofs.Booking.{ff-claim, ff-least, ff-none}
use Rattle.pst_ledger.proofs.book.Book.claim.Goals as goal

pub invariant_of-self : goal.invariant_of-self
invariant_of-self g c =
    let b = c.self.inside in
    let lt : b.next < length b.spots.items = omega (arith, c.if-number-len.true, c.len.ensures, b.spots.ok.0) in
    (ff-claim b.next b.spots.items c.args.seat c.self.invariant.0 lt, c.self.invariant.1, c.self.invariant.2)

pub returns-then-number-len : goal.returns-then-number-len
returns-then-number-len g c =
    let b = c.self.inside in
    let lt : b.next < length b.spots.items = omega (arith, c.if-number-len.true, c.len.ensures, b.spots.ok.0) in
    ap (λ (k : Core _). after_claim k c.args.seat (least_free k.spots)) (sym c.self.view_is)
    ∙ ap (λ (o : Option ℕ). after_claim (record { spots = b.spots.items; marks = b.marks.items }) c.args.seat o) (ff-least b.next b.spots.items c.self.invariant.0 lt)

pub returns-else-number-len : goal.returns-else-number-len
returns-else-number-len g c =
    let b = c.self.inside in
    let le : length b.spots.items ≤ b.next = omega (arith, c.if-number-len.false, c.len.ensures, b.spots.ok.0) in
    ap (λ (k : Core _). after_claim k c.args.seat (least_free k.spots)) (sym c.self.view_is)
    ∙ ap (λ (o : Option ℕ). after_claim (record { spots = b.spots.items; marks = b.marks.items }) c.args.seat o) (ff-none b.next b.spots.items c.self.invariant.0 le)
