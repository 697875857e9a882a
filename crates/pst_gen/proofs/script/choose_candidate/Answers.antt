use Rattle.std.proofs.Common.{◌≡◌, ◌<◌, ◌%◌, List, [], ◌∷◌, length, refl, sym, ap, ◌∙◌, arith, Some}
use Rattle.std.proofs.lemmas.Option.{slice_get_read}
use Rattle.std.proofs.lemmas.Result.{IfOk-weaker}
use Rattle.pst_case.specs.declared.case.Command.{Command}
use Rattle.pst_gen.proofs.script.choose_candidate.Goals as goal

some : (cs : List Command) → (cs ≡ [] → ⊥) → 0 < length cs
some [] h = absurd (h refl)
some (c ∷ cs) h = omega arith

pub returns : goal.returns
returns c =
    let cs = c.args.candidates.now in
    let least = some cs c.requires in
    let at : c.args.word % length cs < length cs = omega arith in
    let found = slice_get_read cs (length cs) (c.args.word % length cs) c.index-candidates-at.result refl at c.index-candidates-at.is in
    IfOk-weaker c.copy.result _ _ (λ copy is. found ∙ ap (λ x. Some x) (sym is)) c.copy.ensures
