use Rattle.std.proofs.Common.{◌≡◌, false, take}
use Rattle.std.specs.List.{list_any}
use Rattle.pst_case.specs.Unknown.{is_unknown}
use Rattle.pst_case.proofs.unknown.is_any_unknown.Given as goal

abbrev pub invariant-loop-reply : goal.invariant-loop-reply
invariant-loop-reply l = list_any is_unknown (take l.reply-index l.replies) ≡ false
