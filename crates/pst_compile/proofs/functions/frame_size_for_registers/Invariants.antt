use Rattle.std.proofs.Common.{◌≡◌, drop}
use Rattle.std.specs.Prelude.{max}
use Rattle.pst_compile.specs.Functions.{past_all}
use Rattle.pst_compile.proofs.functions.frame_size_for_registers.Given as goal

abbrev pub invariant-loop-register : goal.invariant-loop-register
invariant-loop-register l = max l.count (past_all (drop l.register-index l.registers)) ≡ past_all l.registers
