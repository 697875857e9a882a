use Rattle.std.proofs.Common.{◌≡◌, ◌%◌, [], length, map, refl, sym, ap, ◌∙◌, Ok}
use Rattle.std.proofs.lemmas.Result.{IfOk-weaker}
use Rattle.pst_case.specs.Shape.{result_type}
use Rattle.pst_gen.proofs.Doing.{chosen_known}
use Rattle.pst_gen.proofs.Stepping.{stepped}
use Rattle.pst_gen.specs.Script.{candidates_fault, no_candidate}
use Rattle.pst_gen.proofs.script.extend_script_by_random_command.Goals as goal

pub returns-in-Err-clause-step : goal.returns-in-Err-clause-step
returns-in-Err-clause-step g c =
    let is = rw c.len.ensures at c.in_ok-candidates.ensures.candidates in
    ([], refl, λ more. candidates_fault more c.args.state.now c.args.done c.in-Err.fault (sym is ∙ c.in-Err.is))

pub returns-then-is_empty-clause-step : goal.returns-then-is_empty-clause-step
returns-then-is_empty-clause-step g c =
    let is = rw c.len.ensures at c.in_ok-candidates.ensures.candidates in
    let none : c.in-Ok.candidates ≡ [] = c.is_empty.ensures.0 c.if-is_empty.true in
    (refl, refl, λ more. no_candidate more c.args.state.now c.args.done (sym is ∙ c.in-Ok.is ∙ ap (λ cs. Ok cs) none))

pub extend_script_by_command-requires-clause-may_come : goal.extend_script_by_command-requires-clause-may_come
extend_script_by_command-requires-clause-may_come g c =
    let m = g.C.Callbacks.model c.args.callbacks.now in
    let s = c.args.state.now in
    let ts = map (result_type m) c.args.done in
    let all = rw c.in-Ok.is at (c.in_ok-candidates.ensures.may_come ts c.requires.done.state) in
    let found = rw c.as_slice.ensures at c.in_ok-command.ensures in
    chosen_known m ts s c.in-Ok.candidates (c.next_u64.result % length c.in-Ok.candidates) c.in_ok-command.command all found

pub returns-clause-step : goal.returns-clause-step
returns-clause-step g c =
    let m = g.C.Callbacks.model c.args.callbacks.now in
    let s = c.args.state.now in
    let is = rw c.len.ensures at c.in_ok-candidates.ensures.candidates in
    let found = rw c.as_slice.ensures at c.in_ok-command.ensures in
    IfOk-weaker c.extend_script_by_command.result _ _
    (λ r k. stepped m s c.args.done (g.R.Rng.stream c.args.rng.now) (g.R.Rng.stream c.next_u64.new.self) c.next_u64.result c.in-Ok.candidates c.in_ok-command.command r (sym is ∙ c.in-Ok.is) found c.next_u64.ensures k)
    c.extend_script_by_command.ensures
