use Rattle.std.proofs.Common.{◌≡◌, ◌≤◌, ◌-◌, length, get_or, sym, subst, arith}
use Rattle.pst_case.specs.declared.history.Run.{Run}
use Rattle.pst_cli.proofs.Graphs.{same_length, judged_at}
use Rattle.pst_cli.proofs.JudgedRuns.{lawful_here, history_matches}
use Rattle.pst_judge.specs.Judgement.{IsJudgementBy}
use Rattle.pst_judge.specs.declared.judgement.Judged.{Judged}
use Rattle.pst_cli.proofs.graph.graph_of_item_if_it_exists.Goals as goal

pub returns-in_default-get : goal.returns-in_default-get
returns-in_default-get c =
    let as_many : length c.args.runs.now ≡ length c.args.all.now =
    same_length c.args.judge.now.order c.args.judge.now.callbacks.now c.args.runs.now c.args.all.now c.requires.judged in
    let past : length c.args.runs.now ≤ c.in-Some.index = c.in_default-get.ensures.lookup.3 in
    let one : 1 ≤ c.args.number = c.in-Some.ensures.0 in
    let here : c.in-Some.index ≡ c.args.number - 1 = c.in-Some.ensures.1 in
    λ h. let within : c.args.number ≤ length c.args.all.now = h.1 in absurd (omega arith)

pub graphviz_text_of_item_search-requires-clause-shaped : goal.graphviz_text_of_item_search-requires-clause-shaped
graphviz_text_of_item_search-requires-clause-shaped c =
    let found = c.in-Some-get.ensures.lookup in
    (lawful_here c.args.judge.now.callbacks.now c.args.runs.now c.in-Some.index c.in-Some-get.run'.now found.3.0 found.1
    c.requires.lawful).model

pub graphviz_text_of_item_search-requires-clause-matches : goal.graphviz_text_of_item_search-requires-clause-matches
graphviz_text_of_item_search-requires-clause-matches c =
    let found = c.in-Some-get.ensures.lookup in
    history_matches c.args.judge.now.callbacks.now c.in-Some-get.run'.now
    (lawful_here c.args.judge.now.callbacks.now c.args.runs.now c.in-Some.index c.in-Some-get.run'.now found.3.0 found.1
    c.requires.lawful)

pub graphviz_text_of_item_search-requires-clause-judged : goal.graphviz_text_of_item_search-requires-clause-judged
graphviz_text_of_item_search-requires-clause-judged c =
    let order = c.args.judge.now.order in
    let m = c.args.judge.now.callbacks.now in
    let runs = c.args.runs.now in
    let all = c.args.all.now in
    let i = c.in-Some.index in
    let run = c.in-Some-get.run'.now in
    let judged = c.in-Some-get-2.judged.now in
    let found = c.in-Some-get.ensures.lookup in
    let found_too = c.in-Some-get-2.ensures.lookup in
    let OfRun : Run → Type 0 = λ r. IsJudgementBy order m r judged in
    let OfJudged : Judged → Type 0 = λ j. IsJudgementBy order m (get_or runs i run) j in
    subst OfRun (sym found.1) (subst OfJudged (sym found_too.1)
    (judged_at order m runs all i run judged found.3.0 found_too.3.0 c.requires.judged))
