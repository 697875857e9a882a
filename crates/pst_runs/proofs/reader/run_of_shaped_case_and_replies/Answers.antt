use Rattle.std.proofs.Common.{rules, ◌≡◌, ◌≤◌, ◌+◌, true, length, Ok, arith}
use Rattle.pst_case.specs.Shape.{IsShaped, joined}
use Rattle.pst_runs.proofs.Lawful.{history_within}
use Rattle.pst_runs.proofs.reader.run_of_shaped_case_and_replies.Goals as goal
use Rattle.pst_runs.specs.Replies.{are_counted, history_of}

pub run_of_shaped_case_and_history-requires : goal.run_of_shaped_case_and_history-requires
run_of_shaped_case_and_history-requires c =
    let m = c.args.typed.now in
    let case = c.args.shaped.case in
    let lists = c.in-Some.lists.now in
    let history = c.in-Ok.history in
    let shape : IsShaped m case = search rules in
    let counted : are_counted case lists ≡ true = search rules in
    let read : history_of m case lists ≡ Ok history = search rules in
    let within : length history.prefix + length (joined history.branches) ≤ 88 = history_within m case lists history shape counted read in
    omega (arith, within)
