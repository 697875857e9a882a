use Rattle.std.proofs.Common.{map, length, arith}
use Rattle.pst_judge.proofs.CallsCount.{calls_count}
use Rattle.pst_judge.proofs.Furthest.{if_ok_map}
use Rattle.pst_judge.proofs.KnownCounts.{sum_within}
use Rattle.pst_judge.specs.Unknown.{column_outcome, suffix_last}
use Rattle.pst_judge.specs.UnknownCalls.{known_count}
use Rattle.pst_judge.specs.UnknownFitting.{start_of}
use Rattle.pst_judge.proofs.unknown.search_calls.Goals as goal

pub sum_of_branch_lengths-requires : goal.sum_of_branch_lengths-requires
sum_of_branch_lengths-requires g c =
    let w = sum_within c.args.columns.now.calls in
    rw (c.as_slice-4.ensures.value, c.in_ok-knowns.ensures, c.as_slice.ensures) (omega (arith, w, c.requires.lengths))

pub some_in_order-requires-clause-commands : goal.some_in_order-requires-clause-commands
some_in_order-requires-clause-commands g c = rw (c.as_slice-5.ensures.value, c.in_ok-lengths.ensures, c.as_slice-2.ensures) c.requires.calls

pub some_in_order-requires-clause-progress : goal.some_in_order-requires-clause-progress
some_in_order-requires-clause-progress g c =
    rw (c.as_slice-5.ensures.value, c.in_ok-lengths.ensures, c.as_slice-2.ensures, c.as_slice-3.ensures.value, c.in_ok-knowns.ensures, c.as_slice.ensures) c.requires.progress

pub verdict_of_answer-requires : goal.verdict_of_answer-requires
verdict_of_answer-requires g c =
    let a = rw (c.as_slice-5.ensures.value, c.in_ok-lengths.ensures, c.as_slice-2.ensures, c.sum_of_branch_lengths.ensures, c.as_slice-4.ensures.value, c.as_slice-3.ensures.value, c.in_ok-knowns.ensures, c.as_slice.ensures) at c.in_ok-answer.ensures.answer in
    let m = g.C.Callbacks.model c.args.columns.now.callbacks.now in
    let asked = g.A.Condition.asked c.args.columns.now.condition.now m in
    let calls = c.args.columns.now.calls in
    calls_count (column_outcome m asked calls) (suffix_last (map known_count calls) (g.O.Order.order c.args.order.now)) (map length calls) (start_of c.args.state calls) c.args.prefix c.in_ok-answer.answer a c.requires.prefix c.requires.lengths

pub returns : goal.returns
returns g c =
    let a = rw (c.as_slice-5.ensures.value, c.in_ok-lengths.ensures, c.as_slice-2.ensures, c.sum_of_branch_lengths.ensures, c.as_slice-4.ensures.value, c.as_slice-3.ensures.value, c.in_ok-knowns.ensures, c.as_slice.ensures) at c.in_ok-answer.ensures.answer in
    let found = rw (c.as_slice-6.ensures.value, c.in_ok-knowns.ensures, c.as_slice.ensures) at c.verdict_of_answer.ensures in
    if_ok_map _ _ c.verdict_of_answer.result (λ v is. (c.in_ok-answer.answer, a, is)) found
