use Rattle.std.proofs.Common.{◌≡◌, ◌≤◌, ◌-◌, ◌+◌, ◌*◌, ◌/◌, ◌∙◌, length, ap, subst, IfOk, string_bytes, arith}
use Rattle.std.specs.List.{AllZip, flat_map, range_with_len}
use Rattle.rayon.proofs.ListFacts.{IfOk-then}
use Rattle.rayon.specs.Numbers.{nat_range}
use Rattle.pst_rejudge.proofs.Collected.{collected}
use Rattle.pst_cli.proofs.Rows.{all_lines}
use Rattle.pst_cli.specs.Rows.{IsRow}
use Rattle.pst_cli.proofs.lines.item_verdict_lines.Goals as goal

pub returns : goal.returns
returns g c =
    let all = c.args.all.now in
    let rows = length all / 512 + 1 in
    let numbers = range_with_len 0 rows in
    let ends = c.into_par_iter.ensures in
    let start = ap (λ it. it.base.start) c.map.ensures.base ∙ ap (λ it. it.start) c.with_min_len.ensures.base ∙ ends.0 in
    let end = ap (λ it. it.base.end) c.map.ensures.base ∙ ap (λ it. it.end) c.with_min_len.ensures.base ∙ ends.1 in
    let whole : rows - 0 ≡ rows = omega arith in
    let enough : length all ≤ rows * 512 = omega arith in
    let written = c.in_ok-collect.ensures in
    let chain = written.1 in
    let places = chain.1 ∙ (λ i. nat_range (start i) (end i)) ∙ ap (range_with_len 0) whole in
    let Row = IsRow c.map.result.f.1.now in
    let each = collected Row (λ v. v.items) numbers written.0 c.in_ok-collect.field-0 _
    (subst (λ xs. AllZip (λ row r. IfOk r (Row row)) xs written.0) places chain.2) written.2 in
    let lines = c.in_ok-lines.lines.items in
    let here = subst (λ f. AllZip (IsRow f.1.now) numbers lines) c.map.ensures.f (rw c.in_ok-lines.was at each) in
    IfOk-then c.concat.result _ _ c.concat.ensures.ok
    (λ text h. h ∙ ap (flat_map string_bytes) c.as_slice.ensures.value ∙ all_lines all rows lines enough here)
