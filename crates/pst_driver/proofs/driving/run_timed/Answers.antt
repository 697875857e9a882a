use Rattle.pst_driver.proofs.Matching.{driven_matches}
use Rattle.pst_driver.proofs.Timing.{driven_timed}
use Rattle.pst_driver.proofs.driving.run_timed.Goals as goal

pub returns-clause-matches : goal.returns-clause-matches
returns-clause-matches g c =
    driven_matches _ _ _ _ _
    (driven_timed _ _ _ _ _ _ c.in_ok-history_with_times.ensures.same
    (rw (c.case-case.ensures.same, c.shaped.ensures.same) at c.in-Ok.ensures.driven))

pub returns-clause-driven : goal.returns-clause-driven
returns-clause-driven g c =
    driven_timed _ _ _ _ _ _ c.in_ok-history_with_times.ensures.same
    (rw (c.case-case.ensures.same, c.shaped.ensures.same) at c.in-Ok.ensures.driven)
