use Rattle.std.proofs.Common.{sym, ◌∙◌}
use Rattle.pst_typing.proofs.Steps.{all_are_not}
use Rattle.pst_typing.proofs.by_parts.are_all_of_kind.Goals as goal

pub returns-then-not-branch : goal.returns-then-not-branch
returns-then-not-branch c =
    sym (all_are_not c.args.kinds.now c.loop-kind.kind-index c.kind-item.result c.args.item.now c.loop-kind-test.true c.kind-item.is c.loop-kind.invariant (sym c.in_ok-same.ensures ∙ c.if-not-branch.true))
