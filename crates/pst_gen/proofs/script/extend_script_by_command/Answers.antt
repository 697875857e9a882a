use Rattle.std.proofs.Common.{ℕ, List, [], ◌∷◌, ◌++◌, map, refl, sym, subst}
use Rattle.pst_case.specs.Shape.{result_type}
use Rattle.pst_case.specs.declared.case.Command.{Command}
use Rattle.pst_eval.specs.Callbacks.{NextFits}
use Rattle.pst_gen.proofs.Doing.{next_fits, one_done}
use Rattle.pst_gen.specs.Done.{IsDone}
use Rattle.pst_value.specs.declared.ty.Ty.{Ty}
use Rattle.pst_value.specs.declared.value.Value.{Value, Var}
use Rattle.pst_gen.proofs.script.extend_script_by_command.Goals as goal

pub next-requires : goal.next-requires
next-requires g c =
    let m = g.C.Callbacks.model c.args.callbacks.now in
    let ts : List Ty = map (result_type m) (c.args.done ++ c.args.command ∷ []) in
    let f = next_fits m c.args.done c.args.state.now c.args.command c.requires.done c.requires.may_come in
    (ts, [], rw (c.as_slice-args.ensures, c.requires.number) f)

pub returns-in_ok-push-in-Ok : goal.returns-in_ok-push-in-Ok
returns-in_ok-push-in-Ok g c =
    let m = g.C.Callbacks.model c.args.callbacks.now in
    let s = c.args.state.now in
    let longer : List Command = c.args.done ++ c.args.command ∷ [] in
    let ts : List Ty = map (result_type m) longer in
    let p : Value × ℕ = (c.in-Ok.next, c.in-Ok.field-0-1) in
    let f = next_fits m c.args.done s c.args.command c.requires.done c.requires.may_come in
    let asked : NextFits m c.args.command.op s c.as_slice-args.result.now (Var c.args.number) ts [] = rw (c.as_slice-args.ensures, c.requires.number) f in
    let fits = rw c.in-Ok.is at (c.in_ok-next.ensures.fits ts [] asked) in
    let says = rw (c.in-Ok.is, c.as_slice-args.ensures, c.requires.number) at c.in_ok-next.ensures.says in
    let known = one_done m c.args.done s c.args.command p c.requires.done c.requires.may_come says fits in
    let pushed = c.in_ok-push-in-Ok.ensures.ok in
    let P : List Command → Type 0 = λ cs. IsDone m cs c.in-Ok.next in
    (pushed, subst P (sym pushed) known, (p, says, refl))
