use Rattle.std.proofs.Common.{◌≡◌, ◌++◌, drop}
use Rattle.pst_compile.specs.Functions.{operations_code}
use Rattle.pst_compile.specs.Scopes.{numbers_in}
use Rattle.pst_compile.proofs.functions.callbacks_code_of_operations.Given as goal

abbrev pub invariant-loop-item : goal.invariant-loop-item
invariant-loop-item l =
    l.all ++ operations_code l.context.items.now (numbers_in l.context) (drop l.item-index l.some) ≡ operations_code l.context.items.now (numbers_in l.context) l.some
