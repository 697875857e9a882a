use Rattle.std.proofs.Common.{◌<◌, sym, subst, arith}
use Rattle.pst_model.specs.Operations.{HasOperations}
use Rattle.pst_runs.proofs.Named.{number_below}
use Rattle.pst_runs.proofs.commands.find_operation_number.Goals as goal

pub overflow_cast-result : goal.overflow_cast-result
overflow_cast-result c =
    let has = subst HasOperations (sym c.as_slice.ensures) c.source.ensures.operations in
    let h : c.in_ok-number.number < 64 =
    number_below c.as_slice.result.now c.as_bytes.result.now c.in_ok-number.number has (sym c.in_ok-number.ensures.value) in
    omega arith
