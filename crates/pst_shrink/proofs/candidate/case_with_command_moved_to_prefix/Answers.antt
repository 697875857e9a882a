use Rattle.std.proofs.Common.{◌∙◌}
use Rattle.pst_shrink.proofs.Counting.{moved_is}
use Rattle.pst_shrink.proofs.candidate.case_with_command_moved_to_prefix.Goals as goal

pub returns : goal.returns
returns c =
    moved_is c.args.case.now c.args.number c.as_slice-numbers.result.now c.in_ok-prefix.prefix
    c.in_ok-renumber_commands.field-0
    c.in_ok-renumbered_branches_without.field-0 c.args.command.now c.in_ok-renumber_command.field-0
    c.prefix-2.inside.items.items
    (c.as_slice-numbers.ensures.value ∙ (rw (c.count_case_commands.ensures, c.len.ensures) at c.in_ok-numbers.ensures))
    (rw c.as_slice.ensures at c.in_ok-prefix.ensures)
    c.in_ok-renumber_command.ensures
    (c.prefix-2.view_is ∙ c.in_ok-push.ensures.ok)
    (rw (c.as_slice-2.ensures, c.len.ensures) at c.in_ok-renumbered_branches_without.ensures)
    (rw c.as_slice-3.ensures at c.in_ok-renumber_commands.ensures)
