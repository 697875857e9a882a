use Rattle.std.proofs.Common.{◌≡◌, length, ap, ◌∙◌, arith}
use Rattle.pst_case.specs.Recorded.{recorded}
use Rattle.pst_judge.proofs.Fitted.{recorded_within}
use Rattle.pst_judge.proofs.unknown.verdict_with_unknown.Goals as goal

pub first_broken_command-requires : goal.first_broken_command-requires
first_broken_command-requires g c =
    let m = g.C.Callbacks.model c.args.callbacks.now in
    let h = recorded_within m c.args.shaped.now.case c.args.history.now (rw c.requires.model at c.case-case.ensures.shape) c.requires.matches in
    let l : length c.as_slice-results.result.now ≡ length (recorded c.args.history.now) = ap length c.as_slice-results.ensures.value ∙ ap length c.in_ok-results.ensures in
    omega (arith, h, l)
