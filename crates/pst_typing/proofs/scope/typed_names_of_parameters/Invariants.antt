use Rattle.std.proofs.Common.{◌≡◌, map, take}
use Rattle.pst_model.specs.Rules.{context_of}
use Rattle.pst_typing.specs.Scope.{name_seen}
use Rattle.pst_typing.proofs.scope.typed_names_of_parameters.Given as goal

abbrev pub invariant-loop-param : goal.invariant-loop-param
invariant-loop-param l = map name_seen l.seen ≡ context_of (take l.param-index l.params)
