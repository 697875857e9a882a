use Rattle.std.proofs.Common.{map, ◌++◌, ap, ◌∙◌}
use Rattle.pst_gen.proofs.Ranges.{map_more}
use Rattle.pst_gen.specs.Split.{sent_to}
use Rattle.pst_case.specs.Renumber.{new_number, renumbered_command}
use Rattle.pst_gen.proofs.split.split_into_branches.Goals as goal

pub loop-branch-preserved : goal.loop-branch-preserved
loop-branch-preserved c =
    let f = renumbered_command (new_number c.args.numbers.now) in
    map_more (λ b. map f (sent_to b c.args.branches.now c.args.parallel.now)) c.loop-branch.branch c.loop-branch.all c.push.new.self c.in_ok-push_renumbered_commands_of_branch.field-0
    c.loop-branch.invariant (c.in_ok-push_renumbered_commands_of_branch.ensures ∙ ap (λ cs. cs ++ map f (sent_to c.loop-branch.branch c.args.branches.now c.args.parallel.now)) c.new.ensures) c.in_ok-push.ensures.ok
