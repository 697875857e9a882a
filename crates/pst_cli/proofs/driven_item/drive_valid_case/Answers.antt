use Rattle.std.proofs.Common.{arith}
use Rattle.std.proofs.lemmas.Bool.Decides.{nat_tests}
use Rattle.pst_cli.proofs.Repeating.{often, once}
use Rattle.pst_cli.proofs.driven_item.drive_valid_case.Goals as goal

pub returns-in-None-clause-driven : goal.returns-in-None-clause-driven
returns-in-None-clause-driven g c = rw c.in-None.is c.drive_uncounted.ensures.driven

pub returns-in-Some-eq0-clause-driven : goal.returns-in-Some-eq0-clause-driven
returns-in-Some-eq0-clause-driven g c =
    rw c.in-Some-eq0.is
    (once c.args.judge.now.order c.args.judge.now.callbacks.now _ _ _ c.args.valid.case c.drive_uncounted-in-Some-eq0.result c.in-Some-eq0.field-0
    (grind (arith, nat_tests, c.in-Some-eq0.field-0-test)) c.drive_uncounted-in-Some-eq0.ensures.driven)

pub returns-in-Some-clause-driven : goal.returns-in-Some-clause-driven
returns-in-Some-clause-driven g c =
    rw c.in-Some.is
    (often c.args.judge.now.order c.args.judge.now.callbacks.now _ _ _ c.args.valid.case c.drive_repeatedly.result c.in-Some.repeats
    (grind (arith, nat_tests, c.in-Some.repeats-test)) c.drive_repeatedly.ensures.driven)
