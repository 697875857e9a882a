use Rattle.std.proofs.Common.{ap, length, None, Some, ◌∙◌, ◌+◌, [], ◌∷◌, length-append, arith}
use Rattle.pst_shrink.proofs.Keeping.{passed_next, next_at, taken}
use Rattle.pst_shrink.proofs.shrinking.try_candidates_until_one_breaks.Goals as goal
use Rattle.pst_shrink.proofs.shrinking.try_candidates_until_one_breaks.Goals.{in-NotValid+in_ok-push-in-NotValid, in-Held+in_ok-push-in-Held}

pub loop-candidate-preserved : goal.loop-candidate-preserved
loop-candidate-preserved g c =
    let next =
    next_at _ c.in_ok-cases.cases c.as_slice-all.result.now c.loop-candidate.tried c.candidate-item.result
    c.loop-candidate.candidate-index (length c.as_slice-all.result.now)
    c.as_slice-all.ensures c.in_ok-cases.ensures c.loop-candidate.invariant.count
    (ap length (c.as_slice-all.ensures ∙ c.in_ok-cases.ensures)) c.loop-candidate-test.true c.candidate-item.is in
    elim c.match-outcome.branch [
      | in-NotValid+in_ok-push-in-NotValid w ↦
          let grown = w.tried-is ∙ w.in_ok-push-in-NotValid.ensures.ok in
          record {
            passed = passed_next (g.met.A.Attempt.kept _ _ c.loop-candidate.invariant.keeps) _ c.loop-candidate.tried
                c.match-outcome.tried c.candidate-item.result c.in-Ok.outcome None
                c.loop-candidate.invariant.passed next c.in-Ok.ensures.answer w.in-NotValid.is grown;
            count = ap length grown ∙ (length-append c.loop-candidate.tried (None ∷ [])
                ∙ ap (λ n. n + 1) c.loop-candidate.invariant.count);
            drives = omega (
              arith,
              rw w.in-NotValid.is at c.in-Ok.ensures.count,
              c.loop-candidate.invariant.drives,
              w.left-is,
            );
            keeps = g.met.A.Attempt.keeps_trans _ _ _ c.loop-candidate.invariant.keeps c.in-Ok.ensures.keeps;
          }
      | in-Held+in_ok-push-in-Held w ↦
          let grown = w.tried-is ∙ w.in_ok-push-in-Held.ensures.ok in
          record {
            passed = passed_next (g.met.A.Attempt.kept _ _ c.loop-candidate.invariant.keeps) _ c.loop-candidate.tried
                c.match-outcome.tried c.candidate-item.result c.in-Ok.outcome (Some w.in-Held.histories)
                c.loop-candidate.invariant.passed next c.in-Ok.ensures.answer w.in-Held.is grown;
            count = ap length grown ∙ (length-append c.loop-candidate.tried (Some w.in-Held.histories ∷ [])
                ∙ ap (λ n. n + 1) c.loop-candidate.invariant.count);
            drives = omega (
              arith,
              rw w.in-Held.is at c.in-Ok.ensures.count,
              c.loop-candidate.invariant.drives,
              w.left-is,
              c.if-left-eq0.false,
            );
            keeps = g.met.A.Attempt.keeps_trans _ _ _ c.loop-candidate.invariant.keeps c.in-Ok.ensures.keeps;
          }
    ]

pub returns-in-Broke-clause-round : goal.returns-in-Broke-clause-round
returns-in-Broke-clause-round g c =
    let next =
    next_at _ c.in_ok-cases.cases c.as_slice-all.result.now c.loop-candidate.tried c.candidate-item.result
    c.loop-candidate.candidate-index (length c.as_slice-all.result.now)
    c.as_slice-all.ensures c.in_ok-cases.ensures c.loop-candidate.invariant.count
    (ap length (c.as_slice-all.ensures ∙ c.in_ok-cases.ensures)) c.loop-candidate-test.true c.candidate-item.is in (
      taken (g.met.A.Attempt.kept _ _ c.loop-candidate.invariant.keeps) c.args.case.now
          c.loop-candidate.tried c.in-Ok.outcome
          c.candidate-item.result c.in_ok-case-in-Broke.case c.in-Broke.field-0 c.in-Broke.history
          c.loop-candidate.invariant.passed next c.in_ok-case-in-Broke.ensures c.in-Ok.ensures.answer c.in-Broke.is,
      omega (arith, rw c.in-Broke.is at c.in-Ok.ensures.count, c.loop-candidate.invariant.drives, c.if-left-eq0.false),
    )
