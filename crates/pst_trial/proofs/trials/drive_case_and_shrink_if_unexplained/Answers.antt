use Rattle.std.proofs.lemmas.Result.{IfOk-weaker, IfErr-weaker}
use Rattle.pst_judge.proofs.Fitted.{prefix_within, branches_within, suffix_within}
use Rattle.pst_shrink.specs.declared.shrinking.AttemptOutcome.TheVariants.{Broke}
use Rattle.pst_trial.specs.Moving.{answer_after, fault_moves}
use Rattle.pst_trial.proofs.Sounding.{room, tried_moves}
use Rattle.pst_trial.proofs.trials.drive_case_and_shrink_if_unexplained.Goals as goal

pub shrink_failing_case-requires-clause-room : goal.shrink_failing_case-requires-clause-room
shrink_failing_case-requires-clause-room g c =
    let shaped = rw c.shaped.ensures.same at c.case-case.ensures.shape in
    rw (c.into_case-case.ensures, c.into_shaped.ensures.same)
    (room c.args.valid.case
    (prefix_within _ _ shaped) (branches_within _ _ shaped) (suffix_within _ _ shaped))

pub shrink_failing_case-requires-clause-broke : goal.shrink_failing_case-requires-clause-broke
shrink_failing_case-requires-clause-broke g c =
    let steady = g.met.D.Driver.steady _ _ c.in-Ok.ensures.keeps in
    rw (c.into_case-case.ensures, c.into_shaped.ensures.same)
    (answer_after steady c.args.plan.now.model c.args.plan.now.settings.order c.args.plan.now.settings.repeats c.args.valid.case
    (Broke c.in-Broke.earlier c.in-Broke.run') (rw c.in-Broke.is at c.in-Ok.ensures.answer))

pub returns-in-Broke-clause-tried : goal.returns-in-Broke-clause-tried
returns-in-Broke-clause-tried g c =
    let steady = g.met.D.Driver.steady _ _ c.in-Ok.ensures.keeps in
    IfOk-weaker c.shrink_failing_case.result _ _
    (λ o tried. tried_moves _ _ (λ v h. (steady.driving v h).0) c.args.plan.now c.args.valid.case o tried)
    (rw (c.into_case-case.ensures, c.into_shaped.ensures.same) at c.shrink_failing_case.ensures.tried)

pub returns-in-Broke-clause-fault : goal.returns-in-Broke-clause-fault
returns-in-Broke-clause-fault g c =
    let steady = g.met.D.Driver.steady _ _ c.in-Ok.ensures.keeps in
    IfErr-weaker c.shrink_failing_case.result _ _
    (fault_moves _ _ (λ v f. (steady.failing v f).0)) c.shrink_failing_case.ensures.fault

pub returns-in-Broke-clause-keeps : goal.returns-in-Broke-clause-keeps
returns-in-Broke-clause-keeps g c =
    g.met.D.Driver.keeps_trans _ _ _ c.in-Ok.ensures.keeps c.shrink_failing_case.ensures.keeps
