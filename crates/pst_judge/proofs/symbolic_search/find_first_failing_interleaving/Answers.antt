use Rattle.pst_judge.proofs.SymbolicRuns.{fails_by_reason}
use Rattle.pst_judge.specs.Replay.{branch_lengths}
use Rattle.pst_judge.proofs.symbolic_search.find_first_failing_interleaving.Goals as goal

pub every-requires-clause-state : goal.every-requires-clause-state
every-requires-clause-state g c = (c.requires.state, c.requires.last)

pub every-requires-clause-commands : goal.every-requires-clause-commands
every-requires-clause-commands g c = rw (c.as_slice-3.ensures.value, c.in_ok-lengths.ensures, c.as_slice.ensures, c.case.ensures.same) c.requires.commands

pub reason_of_answer-requires : goal.reason_of_answer-requires
reason_of_answer-requires g c =
    let a = rw (c.as_slice-3.ensures.value, c.in_ok-lengths.ensures, c.as_slice.ensures, c.case.ensures.same) at c.in_ok-answer.ensures.answer in
    fails_by_reason (g.C.Callbacks.model c.args.branches.now.callbacks.now) c.args.branches.now.commands c.args.branches.now.suffix (branch_lengths c.args.branches.now.shaped.now.case) c.args.state.now c.in_ok-answer.answer a

pub returns : goal.returns
returns g c =
    let a = rw (c.as_slice-3.ensures.value, c.in_ok-lengths.ensures, c.as_slice.ensures, c.case.ensures.same) at c.in_ok-answer.ensures.answer in
    (c.in_ok-answer.answer, a, c.reason_of_answer.ensures)
