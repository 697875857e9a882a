use Rattle.pst_judge.proofs.Furthest.{far_counts}
use Rattle.pst_judge.specs.Replay.{branch_outcome_asking, branch_lengths}
use Rattle.pst_judge.proofs.search.search.Goals as goal

pub some_in_order-requires-clause-state : goal.some_in_order-requires-clause-state
some_in_order-requires-clause-state g c = (c.requires.state, c.requires.events)

pub some_in_order-requires-clause-commands : goal.some_in_order-requires-clause-commands
some_in_order-requires-clause-commands g c = rw (c.as_slice-2.ensures.value, c.in_ok-lengths.ensures, c.as_slice.ensures, c.case.ensures.same) c.requires.commands

pub verdict_of_search_answer-requires : goal.verdict_of_search_answer-requires
verdict_of_search_answer-requires g c =
    let a = rw (c.as_slice-2.ensures.value, c.in_ok-lengths.ensures, c.as_slice.ensures, c.case.ensures.same) at c.in_ok-answer.ensures.answer in
    let m = g.C.Callbacks.model c.args.branches.now.callbacks.now in
    let asked = g.A.Condition.asked c.args.branches.now.condition.now m in
    far_counts m asked c.args.branches.now.suffix (branch_outcome_asking m asked c.args.branches.now.events) (g.O.Order.order c.args.order.now) (branch_lengths c.args.branches.now.shaped.now.case) c.args.state.now c.args.prefix c.in_ok-answer.answer a c.requires.prefix c.requires.lengths c.requires.suffix

pub returns : goal.returns
returns g c =
    let a = rw (c.as_slice-2.ensures.value, c.in_ok-lengths.ensures, c.as_slice.ensures, c.case.ensures.same) at c.in_ok-answer.ensures.answer in
    (c.in_ok-answer.answer, a, c.verdict_of_search_answer.ensures.verdict, c.verdict_of_search_answer.ensures.letters)

pub some_in_order-requires-clause-progress : goal.some_in_order-requires-clause-progress
some_in_order-requires-clause-progress g c = rw (c.as_slice-2.ensures.value, c.in_ok-lengths.ensures, c.as_slice.ensures, c.case.ensures.same) c.requires.progress
