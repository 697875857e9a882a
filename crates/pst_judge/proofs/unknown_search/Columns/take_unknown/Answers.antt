use Rattle.pst_case.specs.Shape.{result_types}
use Rattle.pst_judge.proofs.Opened.{next_fits, next_state}
use Rattle.pst_judge.proofs.unknown_search.Columns.take_unknown.Goals as goal

pub next-requires : goal.next-requires
next-requires g c =
    let b = c.args.self.now in
    let m = g.C.Callbacks.model b.callbacks.now in
    let vars = result_types m b.shaped.now.case in
    (vars, vars, rw c.as_slice-args.ensures (next_fits m vars c.args.event.now c.args.moment.now.state c.requires.state c.requires.fits))

pub returns-in-Ok-clause-state : goal.returns-in-Ok-clause-state
returns-in-Ok-clause-state g c =
    let b = c.args.self.now in
    let m = g.C.Callbacks.model b.callbacks.now in
    let vars = result_types m b.shaped.now.case in
    let says = rw (c.in-Ok.is, c.as_slice-args.ensures) at c.in_ok-state-2.ensures.says in
    next_state m vars c.args.event.now c.args.moment.now.state c.requires.state c.requires.fits (c.in-Ok.state, c.in-Ok.field-0-1) says
