use Rattle.std.proofs.Common.{◌≡◌, false, take}
use Rattle.std.specs.List.{list_any}
use Rattle.pst_case.specs.Shape.{holds_reference}
use Rattle.pst_case.proofs.argument_checks.+has_reference.Given as goal

abbrev pub invariant-any_has_reference-loop-value : goal.invariant-any_has_reference-loop-value
invariant-any_has_reference-loop-value l = list_any holds_reference (take l.value-index l.values) ≡ false
