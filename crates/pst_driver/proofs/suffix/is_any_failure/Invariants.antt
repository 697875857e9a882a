use Rattle.std.proofs.Common.{◌≡◌, false, take}
use Rattle.std.specs.List.{list_any}
use Rattle.pst_driver.specs.Driven.{is_failure}
use Rattle.pst_driver.proofs.suffix.is_any_failure.Given as goal

abbrev pub invariant-loop-reply : goal.invariant-loop-reply
invariant-loop-reply l = list_any is_failure (take l.reply-index l.replies) ≡ false
