use Rattle.std.proofs.Common.{◌≡◌, true}
use Rattle.pst_run_problems.specs.ValuePlaces.{is_led_in, parts_in}
use Rattle.pst_run_problems.proofs.value_fault.+first_value_fault.Given as goal

abbrev pub invariant-first_value_fault_after_head-loop-number : goal.invariant-first_value_fault_after_head-loop-number
invariant-first_value_fault_after_head-loop-number l = is_led_in l.search.source.now l.search.results.now (parts_in l.types) l.trees l.unnamed ≡ true
