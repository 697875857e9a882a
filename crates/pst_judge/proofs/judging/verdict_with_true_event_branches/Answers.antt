use Rattle.std.proofs.Common.{◌≡◌, length, ap, ◌∙◌, arith}
use Rattle.pst_judge.proofs.Fitted.{recorded_within}
use Rattle.pst_case.specs.Recorded.{recorded}
use Rattle.pst_judge.proofs.judging.verdict_with_true_event_branches.Goals as goal

pub number_of_first_missing_result-requires : goal.number_of_first_missing_result-requires
number_of_first_missing_result-requires g c =
    let h = recorded_within (g.C.Callbacks.model c.args.callbacks.now) c.args.shaped.now.case c.args.history.now (rw c.requires.model at c.case-case.ensures.shape) c.requires.matches in
    let l : length c.as_slice.result.now ≡ length (recorded c.args.history.now) = ap length c.as_slice.ensures.value ∙ ap length c.in_ok-results.ensures in
    omega (arith, h, l)
