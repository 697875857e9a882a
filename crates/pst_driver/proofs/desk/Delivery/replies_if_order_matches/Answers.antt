use Rattle.std.proofs.Common.{◌≡◌, sym}
use Rattle.pst_driver.proofs.Same.{commands_exact, known_exact}
use Rattle.pst_driver.proofs.desk.Delivery.replies_if_order_matches.Goals as goal

pub returns-then-eq-2 : goal.returns-then-eq-2
returns-then-eq-2 g c =
    let knew : c.self.inside.order.known ≡ c.args.known.now = known_exact _ _ (sym c.if-eq-2.ensures) in
    let asked : c.self.inside.order.commands ≡ c.args.commands.now = commands_exact _ _ (sym c.if-eq.ensures) in
    rw (knew, asked) at c.self.invariant
