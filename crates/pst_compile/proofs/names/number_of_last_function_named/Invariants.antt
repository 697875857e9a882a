use Rattle.std.proofs.Common.{◌≡◌, ◌≤◌, take, reverse}
use Rattle.pst_compile.specs.Code.{functions, number}
use Rattle.pst_compile.proofs.names.number_of_last_function_named.Given as goal

abbrev pub invariant-loop-item : goal.invariant-loop-item
invariant-loop-item l = record {
  within : l.count ≤ l.item-index;
  counted : l.count ≡ functions (reverse (take l.item-index l.items));
  found : l.found ≡ number (reverse (take l.item-index l.items)) l.name;
}
