use Rattle.std.proofs.Common.{◌≡◌, Some, None, ap, sym, ◌∙◌}
use Rattle.std.specs.Option.{option_copied}
use Rattle.pst_judge.specs.ByOrder.{times_of}
use Rattle.pst_precedence.proofs.Deleted.{started}
use Rattle.pst_precedence.proofs.Verdicts.{fitting_times, untimed}
use Rattle.pst_precedence.proofs.obstacles.find_obstacles.Goals as goal

pub returns-in_default-2 : goal.returns-in_default-2
returns-in_default-2 g c =
    let k = c.args.shaped.now.case in
    let h = c.args.history.now in
    let none : times_of k h ≡ None = sym c.in_ok-times.ensures ∙ ap option_copied c.in_default-2.is in
    untimed (g.C.Callbacks.model c.args.callbacks.now) k h none

pub leave_out_each_if_possible-requires-clause-so_far : goal.leave_out_each_if_possible-requires-clause-so_far
leave_out_each_if_possible-requires-clause-so_far g c =
    let m = g.C.Callbacks.model c.args.callbacks.now in
    let k = c.args.shaped.now.case in
    let h = c.args.history.now in
    let times = c.in-Some-2.times.now in
    let fitting : times_of k h ≡ Some times = sym c.in_ok-times.ensures ∙ ap option_copied c.in-Some-2.is in
    let are = fitting_times m k h times fitting in
    let unexplained = rw c.if-explained.false at c.in_ok-explained.ensures in
    rw (c.as_slice.ensures.value, c.new.ensures.items) (started m k h times are.timely c.in_ok-list.list.items c.in_ok-list.ensures unexplained)
