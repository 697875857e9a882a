use Rattle.std.proofs.Common.{◌∙◌, ◌∷◌, ◌++◌, [], ℕ, List, ap, subst, sym}
use Rattle.pst_rejudge.proofs.Pushed.{bytes_of, pushed, pushed_last}
use Rattle.pst_rejudge.specs.Parts.{EndsLine, AreParts, last, before}
use Rattle.pst_rejudge.proofs.parts.split_input_into_parts.Goals as goal

pub loop-at-preserved : goal.loop-at-preserved
loop-at-preserved c behind h =
    let part = c.split_at.result.0 in
    let Parted : List ℕ → Type 0 = λ bytes. AreParts bytes (part.now ∷ behind) in
    let InParts : List (List ℕ) → Type 0 = λ parts. AreParts c.args.input.now parts in
    let ends = subst EndsLine (sym c.split_at.ensures.front) c.in-Some.ensures.2 in
    let here = subst Parted (sym c.split_at.ensures.by_index.0) (before ends h) in
    subst InParts (sym (pushed c.loop-at.parts.items part behind) ∙ ap (λ parts. bytes_of parts ++ behind) (sym c.in_ok-push.ensures.items))
    (c.loop-at.invariant (part.now ∷ behind) here)

pub returns : goal.returns
returns c =
    let InParts : List (List ℕ) → Type 0 = λ parts. AreParts c.args.input.now parts in
    subst InParts (sym (pushed_last c.loop-at.parts.items c.loop-at.rest) ∙ ap bytes_of (sym c.in_ok-push-2.ensures.items))
    (c.loop-at.invariant (c.loop-at.rest.now ∷ []) last)
