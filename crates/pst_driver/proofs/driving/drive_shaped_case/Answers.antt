use Rattle.std.proofs.Common.{rules}
use Rattle.pst_driver.proofs.Known.{prefix_known, each_branch_known, suffix_known}
use Rattle.pst_driver.proofs.Real.{all_driven}
use Rattle.pst_driver.proofs.driving.drive_shaped_case.Goals as goal

pub returns-clause-driven : goal.returns-clause-driven
returns-clause-driven g c =
    let A = g.S.Subject.may_answer in let F = g.S.Subject.may_fail in
    let s = c.reset_system.new.self in let s' = c.args.system.now in
    all_driven _ (A s) (A s') (F s) (F s') _ _ _ _
    (record { answers = λ k v. (c.reset_system.ensures.kept.answering k v).0; fails = λ k f. (c.reset_system.ensures.kept.failing k f).0 })
    c.requires.shaped
    (rw (c.as_slice.ensures, c.new.ensures.items) at c.in_ok-prefix.ensures)
    (rw (c.as_slice-2.ensures, c.as_slice-branches.ensures) at c.in_ok-branches.ensures.replies)
    (rw (c.as_slice-3.ensures, c.new-2.ensures) at c.in_ok-suffix.ensures)

pub call_commands_while_replies_are_values-requires : goal.call_commands_while_replies_are_values-requires
call_commands_while_replies_are_values-requires g c = rw c.as_slice.ensures (prefix_known _ _ c.requires.shaped)

pub run_branches_if_prefix_has_values-requires : goal.run_branches_if_prefix_has_values-requires
run_branches_if_prefix_has_values-requires g c = (search rules, rw c.as_slice-branches.ensures (each_branch_known _ _ c.requires.shaped))

pub run_suffix_unless_a_call_failed-requires : goal.run_suffix_unless_a_call_failed-requires
run_suffix_unless_a_call_failed-requires g c = rw c.as_slice-3.ensures (suffix_known _ _ c.requires.shaped)
