use Rattle.std.proofs.Common.{◌≡◌, take, reverse}
use Rattle.pst_compile.specs.Functions.{functions_code}
use Rattle.pst_compile.proofs.functions.functions_code.Given as goal

abbrev pub invariant-loop-place : goal.invariant-loop-place
invariant-loop-place l = l.all ≡ functions_code l.items (reverse (take l.place l.items))
