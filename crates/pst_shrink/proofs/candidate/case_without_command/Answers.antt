use Rattle.std.proofs.Common.{◌+◌, ◌-◌, ◌∙◌, arith}
use Rattle.pst_shrink.proofs.Counting.{without_is, before_suffix-length}
use Rattle.pst_shrink.proofs.candidate.case_without_command.Goals as goal

pub returns : goal.returns
returns c =
    without_is c.args.case.now c.args.number c.as_slice-numbers.result.now c.in_ok-renumbered_commands_without.field-0
    c.in_ok-renumbered_commands_without-2.field-0 c.in_ok-renumbered_branches_without.field-0
    (c.count_case_commands-count.result + 1 - c.len-2.result)
    (rw c.count_case_commands-count.ensures at (c.as_slice-numbers.ensures.value ∙ c.in_ok-numbers.ensures))
    (omega (arith, c.count_case_commands-count.ensures, c.len-2.ensures, before_suffix-length c.args.case.now))
    (rw c.as_slice.ensures at c.in_ok-renumbered_commands_without.ensures)
    (rw (c.as_slice-2.ensures, c.len.ensures) at c.in_ok-renumbered_branches_without.ensures)
    (rw c.as_slice-3.ensures at c.in_ok-renumbered_commands_without-2.ensures)
