use Rattle.std.proofs.Common.{ap, ◌∙◌, subst, IfOk}
use Rattle.std.specs.List.{AllZip}
use Rattle.rayon.proofs.ToStd.{slice-AllZip}
use Rattle.pst_judge.specs.Judgement.{IsJudgement}
use Rattle.pst_rejudge.proofs.Collected.{collected}
use Rattle.pst_rejudge.proofs.plain.rejudge.Goals as goal

pub returns : goal.returns
returns g c =
    let slice = ap (λ it. it.base.slice.now) c.map.ensures.base ∙ ap (λ it. it.slice.now) c.with_min_len.ensures.base ∙ c.par_iter.ensures in
    let judged = IsJudgement (g.C.Callbacks.model c.map.result.f.0.now) in
    let all = c.in_ok-collect.ensures in
    let chain = all.1 in
    subst (λ callbacks. IfOk c.in_ok-collect.field-0 (λ answers. AllZip (IsJudgement (g.C.Callbacks.model callbacks.now)) c.args.runs.now answers.items))
    (ap (λ f. f.0) c.map.ensures.f)
    (collected judged (λ v. v.items) c.args.runs.now all.0 c.in_ok-collect.field-0 _
    (slice-AllZip chain.0 c.args.runs.now (chain.1 ∙ slice) (λ run r. IfOk r (judged run)) all.0 chain.2) all.2)
