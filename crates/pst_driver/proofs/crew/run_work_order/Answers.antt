use Rattle.std.proofs.Common.{◌≡◌}
use Rattle.pst_driver.proofs.Naming.{runs_kept}
use Rattle.pst_driver.proofs.crew.run_work_order.Goals as goal

pub new-requires : goal.new-requires
new-requires g c =
    let knew : c.in_ok-known.field-0.items ≡ c.args.order.known = rw c.in_ok-known.was at c.requires.known in
    runs_kept c.system.ensures _ _ _ _
    (rw (c.requires.model, c.as_slice-commands.ensures, knew) at c.in_ok-replies.ensures)
