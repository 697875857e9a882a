use Rattle.std.proofs.Common.{◌≡◌, length, true}
use Rattle.pst_driver.proofs.Parts.{LateCompletes}
use Rattle.pst_driver.proofs.suffix.call_commands_that_have_their_results.Given as goal
use Rattle.pst_driver.specs.Progress.{all_known}

abbrev pub invariant-loop-command : goal.invariant-loop-command
invariant-loop-command g l = record {
  completes : LateCompletes l.typed (g.S.Subject.may_answer l.system) (g.S.Subject.may_fail l.system) l.fn.known.items l.commands l.known.items l.rest l.replies;
  known : all_known l.typed l.rest ≡ true;
}

abbrev pub decreases-loop-command : goal.decreases-loop-command
decreases-loop-command g l = length l.rest
