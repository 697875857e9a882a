use Rattle.pst_grid.proofs.Remembering.{inserted}
use Rattle.pst_grid.proofs.position.remember_position_if_new.Goals as goal

pub returns : goal.returns
returns g c =
    let e = c.in_ok-insert.ensures in
    inserted g.S.State.PartialEq.eq g.met.S.Steps.exact c.args.done.now c.args.state.now c.args.seen.now.keys c.insert.new.self.keys
    c.in_ok-new.field-0 c.in_ok-new-2.field-0 c.in_ok-insert.field-0 c.in_ok-new.ensures c.in_ok-new-2.ensures e.added e.keys
