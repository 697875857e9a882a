use Rattle.std.proofs.Common.{◌≡◌, drop}
use Rattle.pst_typing.specs.ByParts.{all_are}
use Rattle.pst_typing.proofs.by_parts.are_all_of_kind.Given as goal

abbrev pub invariant-loop-kind : goal.invariant-loop-kind
invariant-loop-kind l = all_are (drop l.kind-index l.kinds) l.item ≡ all_are l.kinds l.item
