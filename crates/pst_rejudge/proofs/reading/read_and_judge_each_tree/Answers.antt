use Rattle.std.proofs.Common.{ap, ◌∙◌, subst, IfOk}
use Rattle.std.specs.List.{AllZip}
use Rattle.rayon.proofs.ToStd.{slice-AllZip}
use Rattle.pst_rejudge.specs.Answers.{IsAnswer}
use Rattle.pst_rejudge.proofs.Collected.{collected}
use Rattle.pst_rejudge.proofs.reading.read_and_judge_each_tree.Goals as goal

pub returns : goal.returns
returns g c =
    let slice = ap (λ it. it.base.slice.now) c.map.ensures.base ∙ ap (λ it. it.slice.now) c.with_min_len.ensures.base ∙ c.par_iter.ensures in
    let answered = IsAnswer c.map.result.f.0.now.order (g.C.Callbacks.model c.map.result.f.0.now.callbacks.now) in
    let all = c.in_ok-collect.ensures in
    let chain = all.1 in
    subst (λ judge. IfOk c.in_ok-collect.field-0 (λ answers. AllZip (IsAnswer judge.now.order (g.C.Callbacks.model judge.now.callbacks.now)) c.args.trees.now answers.items))
    (ap (λ f. f.0) c.map.ensures.f)
    (collected answered (λ v. v.items) c.args.trees.now all.0 c.in_ok-collect.field-0 _
    (slice-AllZip chain.0 c.args.trees.now (chain.1 ∙ slice) (λ tree r. IfOk r (answered tree)) all.0 chain.2) all.2)
