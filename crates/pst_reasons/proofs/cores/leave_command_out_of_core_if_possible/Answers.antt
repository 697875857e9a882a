use Rattle.pst_reasons.proofs.FewerAsked.{kept_impossible, kept_needed, left_needed}
use Rattle.pst_reasons.proofs.Rising.{kept_rising, left_rising}
use Rattle.pst_reasons.specs.Reasons.{number_of_commands}
use Rattle.pst_reasons.proofs.cores.leave_command_out_of_core_if_possible.Goals as goal

pub returns-in_default : goal.returns-in_default
returns-in_default g c =
    let r = c.args.run.now in
    let m = g.C.Callbacks.model r.callbacks.now in
    let order = g.O.Order.order r.order.now in
    let impossible = rw (c.in_default.is, c.as_slice.ensures.value) at c.in_ok-merge.ensures in
    record {
      impossible = impossible;
      needed = left_needed m order r.shaped.now.case r.history.now c.args.first.now c.args.core.items c.args.number c.requires.core.needed;
      rising = left_rising (number_of_commands r.shaped.now.case) c.args.first.now c.args.core.items c.args.number c.requires.core.rising;
    }

pub returns : goal.returns
returns g c =
    let r = c.args.run.now in
    let m = g.C.Callbacks.model r.callbacks.now in
    let order = g.O.Order.order r.order.now in
    let merge = rw (c.in-Some.is, c.as_slice.ensures.value) at c.in_ok-merge.ensures in
    rw c.in_ok-insert.ensures.items (record {
      impossible = kept_impossible m order r.shaped.now.case r.history.now c.args.first.now c.args.core.items c.args.number c.requires.core.impossible;
      needed = kept_needed m order r.shaped.now.case r.history.now c.args.first.now c.args.core.items c.args.number c.requires.core.needed (_, merge.0);
      rising = kept_rising (number_of_commands r.shaped.now.case) c.args.first.now c.args.core.items c.args.number c.requires.core.rising;
    })
