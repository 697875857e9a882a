use Rattle.std.proofs.Common.{ap, sym, ◌∙◌, ◌+◌, [], ◌∷◌, length, length-append}
use Rattle.pst_trial.specs.Moving.{run_moves}
use Rattle.pst_trial.proofs.Sounding.{explained_more}
use Rattle.pst_trial.proofs.attempts.drive_and_judge_case_while_explained.Goals as goal

pub loop-turn-preserved : goal.loop-turn-preserved
loop-turn-preserved g c =
    let before = c.loop-turn.invariant in
    let steady = g.met.D.Driver.steady c.args.driver.now c.loop-turn.driver before.keeps in
    let run =
    run_moves _ _ (λ v h. (steady.driving v h).0) _ _ _ c.in-Ok.run' c.in-Ok.ensures.run in
    let is_explained = sym c.is_explained.ensures ∙ c.if-not-is_explained.false in
    let grown = c.in_ok-push.ensures.ok in
    record {
      explained = rw grown
          (explained_more (g.D.Driver.may_drive c.args.driver.now) _ _ _ c.loop-turn.runs c.in-Ok.run'
          before.explained run is_explained);
      count = ap length grown
          ∙ (length-append c.loop-turn.runs (c.in-Ok.run' ∷ []) ∙ ap (λ n. n + 1) before.count);
      keeps = g.met.D.Driver.keeps_trans _ _ _ before.keeps c.in-Ok.ensures.keeps;
    }
