use Rattle.std.proofs.Common.{◌≡◌}
use Rattle.pst_rejudge.specs.Answers.{judgements_in}
use Rattle.pst_rejudge.proofs.item_results.judgements_of_items.Given as goal

abbrev pub invariant-loop-answer : goal.invariant-loop-answer
invariant-loop-answer l = l.all.items ≡ judgements_in l.yielded
