use Rattle.std.proofs.Common.{◌≡◌, ◌++◌, take, map}
use Rattle.pst_case.specs.Recorded.{result_of}
use Rattle.pst_case.proofs.history.append_results.Given as goal

abbrev pub invariant-loop-reply : goal.invariant-loop-reply
invariant-loop-reply l = l.results.items ≡ l.initial.results.items ++ map result_of (take l.reply-index l.replies)
