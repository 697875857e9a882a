use Rattle.std.proofs.Common.{◌≡◌, drop}
use Rattle.std.specs.Prelude.{max}
use Rattle.pst_compile.specs.Functions.{frame_size}
use Rattle.pst_compile.proofs.functions.frame_size.Given as goal

abbrev pub invariant-loop-instr : goal.invariant-loop-instr
invariant-loop-instr l = max l.count (frame_size (drop l.instr-index l.body)) ≡ frame_size l.body
