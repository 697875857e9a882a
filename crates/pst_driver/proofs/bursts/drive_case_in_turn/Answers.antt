use Rattle.pst_driver.proofs.Known.{prefix_known, each_branch_known, suffix_known}
use Rattle.pst_driver.proofs.Real.{all_driven}
use Rattle.pst_driver.proofs.bursts.drive_case_in_turn.Goals as goal

pub returns-clause-driven : goal.returns-clause-driven
returns-clause-driven g c =
    let A = g.S.Subject.may_answer c.args.system.now in let F = g.S.Subject.may_fail c.args.system.now in
    all_driven _ A A F F _ _ _ _
    (record { answers = λ k v h. h; fails = λ k f h. h })
    c.requires.shaped
    (rw (c.as_slice-commands.ensures, c.new.ensures.items) at c.in_ok-prefix.ensures)
    (rw (c.as_slice.ensures, c.as_slice-2.ensures) at c.in_ok-branches.ensures)
    (rw (c.as_slice-3.ensures, c.new-2.ensures) at c.in_ok-suffix.ensures)

pub call_commands_while_replies_are_values-requires : goal.call_commands_while_replies_are_values-requires
call_commands_while_replies_are_values-requires g c = rw c.as_slice-commands.ensures (prefix_known _ _ c.requires.shaped)

pub call_branches_if_prefix_has_values-requires : goal.call_branches_if_prefix_has_values-requires
call_branches_if_prefix_has_values-requires g c = rw c.as_slice.ensures (each_branch_known _ _ c.requires.shaped)

pub run_suffix_unless_a_call_failed-requires : goal.run_suffix_unless_a_call_failed-requires
run_suffix_unless_a_call_failed-requires g c = rw c.as_slice-3.ensures (suffix_known _ _ c.requires.shaped)
