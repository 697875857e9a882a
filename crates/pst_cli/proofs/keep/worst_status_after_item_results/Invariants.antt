use Rattle.std.proofs.Common.{◌≡◌, drop}
use Rattle.pst_cli.specs.KeepingOn.{worst_status}
use Rattle.pst_cli.proofs.keep.worst_status_after_item_results.Given as goal

abbrev pub invariant-loop-answer : goal.invariant-loop-answer
invariant-loop-answer l = worst_status l.initial.status l.answers ≡ worst_status l.status (drop l.answer-index l.answers)
