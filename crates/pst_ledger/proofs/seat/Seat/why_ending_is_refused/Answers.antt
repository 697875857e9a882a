use Rattle.std.proofs.Common.{rules, arith, ◌≢◌, ◌<◌, ℕ, Some, ap, ◌∙◌}
use Rattle.pst_ledger.specs.Count.{times, keys}
use Rattle.pst_ledger.specs.Seats.{held_list}
use Rattle.pst_ledger.proofs.Seats.{held_list-none}
use Rattle.pst_ledger.proofs.Totals.{times-append}
use Rattle.pst_ledger.proofs.seat.Seat.why_ending_is_refused.Goals as goal

pub returns-then-has_number : goal.returns-then-has_number
returns-then-has_number g c =
    let k : ℕ = c.args.number in
    let free : c.args.self.now.held ≢ Some k = search rules in
    let order = c.self.invariant.order in
    let view = c.self.view_is in
    let here : 0 < times k c.as_slice.result.now = c.if-has_number.ensures in
    let all = ap (times k) (c.as_slice.ensures.value ∙ order) in
    let cut = times-append k (keys c.self.inside.token.me.0.ends) (held_list c.self.inside.held) in
    let none = ap (λ t. times k (held_list t.held)) view ∙ held_list-none k c.args.self.now.held free in
    let same = ap (λ t. times k (keys t.ends)) view in
    (free, omega (arith, here, all, cut, none, same))
