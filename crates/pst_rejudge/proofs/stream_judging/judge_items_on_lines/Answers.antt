use Rattle.std.proofs.Common.{ap, ◌∙◌, ℕ, Vec, Global, subst, IfOk}
use Rattle.std.specs.List.{AllZip}
use Rattle.rayon.proofs.ToStd.{slice-AllZip}
use Rattle.pst_rejudge.specs.declared.reading.ItemResult.{ItemResult}
use Rattle.pst_rejudge.proofs.Collected.{collected}
use Rattle.pst_rejudge.specs.StreamAnswers.{IsLineAnswer}
use Rattle.pst_rejudge.proofs.stream_judging.judge_items_on_lines.Goals as goal

pub returns : goal.returns
returns g c =
    let slice = ap (λ it. it.base.slice.now) c.map.ensures.base ∙ ap (λ it. it.slice.now) c.with_min_len.ensures.base ∙ c.par_iter.ensures in
    let answered : Vec ℕ Global → ItemResult → Type 0 = λ line. IsLineAnswer c.map.result.f.0.now.order (g.C.Callbacks.model c.map.result.f.0.now.callbacks.now) line.items in
    let all = c.in_ok-collect.ensures in
    let chain = all.1 in
    subst (λ judge. IfOk c.in_ok-collect.field-0 (λ answers. AllZip (λ line. IsLineAnswer judge.now.order (g.C.Callbacks.model judge.now.callbacks.now) line.items) c.args.lines.now answers.items))
    (ap (λ f. f.0) c.map.ensures.f)
    (collected answered (λ v. v.items) c.args.lines.now all.0 c.in_ok-collect.field-0 _
    (slice-AllZip chain.0 c.args.lines.now (chain.1 ∙ slice) (λ line r. IfOk r (answered line)) all.0 chain.2) all.2)
