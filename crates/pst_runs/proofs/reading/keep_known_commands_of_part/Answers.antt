use Rattle.std.proofs.Common.{◌++◌, ◌∷◌, [], sym, ap, ◌∙◌}
use Rattle.pst_runs.proofs.Present.{one_readable, none_readable}
use Rattle.pst_runs.specs.Reading.{readable}
use Rattle.pst_runs.proofs.reading.keep_known_commands_of_part.Goals as goal

pub loop-command-preserved-in-Continue-branch-2 : goal.loop-command-preserved-in-Continue-branch-2
loop-command-preserved-in-Continue-branch-2 c =
    let read = c.in-Whole.command in
    c.in_ok-push-in-Whole.ensures.ok ∙ ap (λ l. l ++ read ∷ []) c.loop-command.invariant
    ∙ sym (one_readable c.loop-command.yielded c.in-Some.command read (ap readable c.in-Whole.is))

pub loop-command-preserved-in-Continue-branch-3 : goal.loop-command-preserved-in-Continue-branch-3
loop-command-preserved-in-Continue-branch-3 c =
    let read = c.in-Partial.command in
    c.in_ok-push-in-Partial.ensures.ok ∙ ap (λ l. l ++ read ∷ []) c.loop-command.invariant
    ∙ sym (one_readable c.loop-command.yielded c.in-Some.command read (ap readable c.in-Partial.is))

pub loop-command-preserved : goal.loop-command-preserved
loop-command-preserved c =
    c.loop-command.invariant
    ∙ sym (none_readable c.loop-command.yielded c.in-Some.command (ap readable c.in-Unknown.is))
