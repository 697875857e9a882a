use Rattle.std.proofs.Common.{◌≡◌, length, true}
use Rattle.pst_driver.proofs.Parts.{Completes}
use Rattle.pst_driver.proofs.part.call_commands_while_replies_are_values.Given as goal
use Rattle.pst_driver.specs.Progress.{all_known}

abbrev pub invariant-loop-command : goal.invariant-loop-command
invariant-loop-command g l = record {
  completes : Completes l.typed (g.S.Subject.may_answer l.system) (g.S.Subject.may_fail l.system) l.fn.known.items l.commands l.known.items l.rest l.replies;
  known : all_known l.typed l.rest ≡ true;
}

abbrev pub decreases-loop-command : goal.decreases-loop-command
decreases-loop-command g l = length l.rest
