use Rattle.std.proofs.Common.{◌≡◌, ◌+◌, drop}
use Rattle.pst_rejudge.specs.Answers.{first_refusal}
use Rattle.pst_rejudge.proofs.item_results.first_refused_item.Given as goal

abbrev pub invariant-loop-index : goal.invariant-loop-index
invariant-loop-index l = first_refusal 1 l.answers ≡ first_refusal (l.index + 1) (drop l.index l.answers)
