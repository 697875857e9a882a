use Rattle.pst_precedence.proofs.Deleted.{fewer_all, kept, left_out}
use Rattle.pst_precedence.specs.Precedences.{IsRecorded}
use Rattle.pst_precedence.proofs.obstacles.leave_out_if_possible.Goals as goal

pub is_explained_keeping-requires-clause-recorded : goal.is_explained_keeping-requires-clause-recorded
is_explained_keeping-requires-clause-recorded g c =
    rw c.as_slice.ensures.value (fewer_all (IsRecorded c.args.run.now.times.now) c.args.first.now c.args.rest.items c.args.precedence c.requires.so_far.recorded)

pub returns-then-not-explained : goal.returns-then-not-explained
returns-then-not-explained g c =
    let r = c.args.run.now in
    let whether = rw (c.if-not-explained.true, c.as_slice.ensures.value) at c.in_ok-explained.ensures in
    left_out (g.C.Callbacks.model r.callbacks.now) r.shaped.now.case r.history.now r.times.now c.args.first.now c.args.rest.items c.args.precedence c.requires.so_far whether

pub returns : goal.returns
returns g c =
    let r = c.args.run.now in
    let whether = rw (c.if-not-explained.false, c.as_slice.ensures.value) at c.in_ok-explained.ensures in
    rw c.in_ok-insert.ensures.items
    (kept (g.C.Callbacks.model r.callbacks.now) r.shaped.now.case r.history.now r.times.now c.args.first.now c.args.rest.items c.args.precedence c.requires.so_far whether)
