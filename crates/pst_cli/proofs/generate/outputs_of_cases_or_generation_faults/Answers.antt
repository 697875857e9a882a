use Rattle.std.proofs.Common.{◌-◌, ◌∙◌, ap, subst, IfOk}
use Rattle.std.specs.List.{AllZip, range_with_len}
use Rattle.rayon.specs.Numbers.{nat_range}
use Rattle.pst_rejudge.proofs.Collected.{collected}
use Rattle.pst_cli.specs.Generating.{IsLineOf}
use Rattle.pst_cli.proofs.generate.outputs_of_cases_or_generation_faults.Goals as goal

pub returns : goal.returns
returns g c =
    let numbers = range_with_len c.args.first (c.args.behind - c.args.first) in
    let ends = c.into_par_iter.ensures in
    let start = ap (λ it. it.base.start) c.map.ensures.base ∙ ap (λ it. it.start) c.with_min_len.ensures.base ∙ ends.0 in
    let end = ap (λ it. it.base.end) c.map.ensures.base ∙ ap (λ it. it.end) c.with_min_len.ensures.base ∙ ends.1 in
    let written = c.in_ok-collect.ensures in
    let chain = written.1 in
    let places = chain.1 ∙ (λ i. nat_range (start i) (end i)) in
    let Line = IsLineOf c.map.result.f.2.now c.map.result.f.1.now in
    let each = collected Line (λ v. v.items) numbers written.0 c.in_ok-collect.field-0 _
    (subst (λ xs. AllZip (λ number r. IfOk r (Line number)) xs written.0) places chain.2) written.2 in
    subst (λ f. IfOk c.in_ok-collect.field-0 (λ outputs. AllZip (IsLineOf f.2.now f.1.now) numbers outputs.items)) c.map.ensures.f each
