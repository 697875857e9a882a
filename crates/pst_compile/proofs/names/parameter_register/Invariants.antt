use Rattle.std.proofs.Common.{◌≡◌, drop}
use Rattle.pst_compile.specs.Code.{find, parameter_scope}
use Rattle.pst_compile.proofs.names.parameter_register.Given as goal

abbrev pub invariant-loop-param : goal.invariant-loop-param
invariant-loop-param l = find (parameter_scope (drop l.param-index l.params) l.register) l.name ≡ find (parameter_scope l.params l.first) l.name
