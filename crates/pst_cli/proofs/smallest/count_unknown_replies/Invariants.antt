use Rattle.std.proofs.Common.{◌≡◌, take, count_by}
use Rattle.pst_case.specs.Unknown.{is_unknown}
use Rattle.pst_cli.proofs.smallest.count_unknown_replies.Given as goal

abbrev pub invariant-loop-reply : goal.invariant-loop-reply
invariant-loop-reply l = l.count ≡ count_by is_unknown (take l.reply-index l.replies)
