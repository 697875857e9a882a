use Rattle.std.proofs.Common.{ap, ◌∙◌}
use Rattle.std.specs.Prelude.{slice_get}
use Rattle.pst_ledger.proofs.Booking.{ff-end}
use Rattle.pst_ledger.proofs.book.Book.finish.Goals as goal

pub invariant_of-self : goal.invariant_of-self
invariant_of-self g c = (
  ff-end c.self.inside.next c.args.number c.args.seat c.args.seat c.args.entry c.self.inside.spots.items c.self.invariant.0 (ap (λ b. slice_get b.spots c.args.number) c.self.view_is ∙ c.requires),
  c.self.invariant.1,
  c.self.invariant.2,
)
