use Rattle.pst_judge.proofs.InOrder.{merge_in_any_order}
use Rattle.pst_judge.specs.Replay.{branch_lengths}
use Rattle.pst_reasons.proofs.laws.any_order_has_each_merge.Goals as goal

pub returns : goal.returns
returns args c word = (λ k. k.0, merge_in_any_order (branch_lengths c) word)
