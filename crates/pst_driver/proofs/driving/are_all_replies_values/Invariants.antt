use Rattle.std.proofs.Common.{◌≡◌, drop}
use Rattle.pst_driver.specs.Driven.{all_answers}
use Rattle.pst_driver.proofs.driving.are_all_replies_values.Given as goal

abbrev pub invariant-loop-reply : goal.invariant-loop-reply
invariant-loop-reply l = all_answers l.replies ≡ all_answers (drop l.reply-index l.replies)
