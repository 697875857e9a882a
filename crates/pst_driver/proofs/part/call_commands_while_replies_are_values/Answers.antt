use Rattle.pst_driver.proofs.Known.{known_first, known_later}
use Rattle.pst_driver.proofs.Parts.{completes_more, completes_all}
use Rattle.pst_driver.proofs.part.call_commands_while_replies_are_values.Goals as goal

pub call_command_and_classify_answer-requires : goal.call_command_and_classify_answer-requires
call_command_and_classify_answer-requires g c = record { known = known_first _ _ (rw c.in-Some.ensures.cases.0 at c.loop-command.invariant.known) }

pub loop-command-preserved : goal.loop-command-preserved
loop-command-preserved g c = record {
  completes =
      completes_more c.loop-command.invariant.completes (rw c.as_slice.ensures.value at c.in_ok-reply.ensures) c.in-Some.ensures.cases.0 c.in-Value.is
      c.in_ok-copy.ensures c.in_ok-push-2.ensures.items c.in_ok-push-3.ensures.ok;
  known = known_later _ _ (rw c.in-Some.ensures.cases.0 at c.loop-command.invariant.known);
}

pub returns : goal.returns
returns g c = completes_all c.loop-command.invariant.completes c.in_default.ensures.cases
