use Rattle.pst_shrink.proofs.Dropping.{used, dropped}
use Rattle.pst_shrink.proofs.candidate.cases_without_one_unused_command.Goals as goal
use Rattle.pst_shrink.proofs.candidate.cases_without_one_unused_command.Goals.{then-not-is_result_used+in_ok-case_without_command+in_ok-push, else-not-is_result_used}

pub loop-before-preserved : goal.loop-before-preserved
loop-before-preserved c = elim c.if-not-is_result_used.branch [
  | then-not-is_result_used+in_ok-case_without_command+in_ok-push w ↦
      dropped c.args.case.now c.loop-before.before c.is_result_used.result c.loop-before.all c.if-not-is_result_used.all
      w.in_ok-case_without_command.field-0
      c.is_result_used.ensures w.if-not-is_result_used.true c.loop-before.invariant w.in_ok-case_without_command.ensures
      (rw w.all-is w.in_ok-push.ensures.ok)
  | else-not-is_result_used w ↦
      used c.args.case.now c.loop-before.before c.is_result_used.result c.if-not-is_result_used.all
      c.is_result_used.ensures w.if-not-is_result_used.false (rw w.all-is c.loop-before.invariant)
]
