use Rattle.std.proofs.Common.{◌≡◌, false, take}
use Rattle.std.specs.List.{list_any}
use Rattle.pst_case.specs.Banned.{is_banned}
use Rattle.pst_case.specs.Shape.{holds_var}
use Rattle.pst_case.proofs.argument_checks.+holds_banned_variable.Given as goal

abbrev pub invariant-any_holds_banned_variable-loop-value : goal.invariant-any_holds_banned_variable-loop-value
invariant-any_holds_banned_variable-loop-value l = list_any (holds_var (is_banned l.banned)) (take l.value-index l.values) ≡ false
