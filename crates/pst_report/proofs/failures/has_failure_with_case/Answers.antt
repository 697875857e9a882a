use Rattle.std.proofs.Common.{◌≡◌, List, ℕ, true, sym, ◌∙◌}
use Rattle.std.specs.Cmp.Lexicographic.{pointwise, bytes_decides}
use Rattle.pst_report.proofs.failures.has_failure_with_case.Goals as goal

pub returns-then-eq : goal.returns-then-eq
returns-then-eq c =
    let same = (bytes_decides c.as_slice.result.now c.args.case.now).0 (sym c.if-eq.ensures) in
    (c.loop-other.other-index, c.other-item.result, c.loop-other-test.true, sym c.other-item.is, sym c.as_slice.ensures.value ∙ same)
