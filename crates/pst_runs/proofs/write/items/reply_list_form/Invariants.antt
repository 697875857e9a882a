use Rattle.std.proofs.Common.{◌≡◌, map, take}
use Rattle.pst_runs.specs.Written.{reply_form}
use Rattle.pst_runs.proofs.write.items.reply_list_form.Given as goal

abbrev pub invariant-loop-reply : goal.invariant-loop-reply
invariant-loop-reply l = l.forms ≡ map reply_form (take l.reply-index l.replies)
