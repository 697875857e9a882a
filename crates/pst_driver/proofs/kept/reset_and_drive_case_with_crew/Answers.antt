use Rattle.std.proofs.Common.{sym}
use Rattle.pst_driver.proofs.Naming.{kept_driven}
use Rattle.pst_driver.proofs.Known.{prefix_known, suffix_known}
use Rattle.pst_driver.proofs.kept.reset_and_drive_case_with_crew.Goals as goal

pub call_commands_while_replies_are_values-requires : goal.call_commands_while_replies_are_values-requires
call_commands_while_replies_are_values-requires g c = rw c.as_slice.ensures (prefix_known _ _ c.requires.shaped)

pub run_suffix_unless_a_call_failed-requires : goal.run_suffix_unless_a_call_failed-requires
run_suffix_unless_a_call_failed-requires g c = rw c.as_slice-4.ensures (suffix_known _ _ c.requires.shaped)

pub returns-clause-driven : goal.returns-clause-driven
returns-clause-driven g c = λ same.
    kept_driven c.system-system.ensures c.args.typed.now c.args.case.now c.in_ok-prefix.prefix
    c.in_ok-branches.branches c.in_ok-suffix.suffix c.requires.shaped
    (rw (c.as_slice.ensures, c.new.ensures.items) at c.in_ok-prefix.ensures)
    (rw (c.as_slice-2.ensures, c.as_slice-3.ensures, sym same) at c.in_ok-branches.ensures.replies)
    (rw (c.as_slice-4.ensures, c.new-2.ensures) at c.in_ok-suffix.ensures)
