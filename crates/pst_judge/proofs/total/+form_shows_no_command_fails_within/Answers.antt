use Rattle.std.proofs.Common.{◌≡◌, ◌-◌, suc, arith}
use Rattle.pst_judge.proofs.Passing.{one_step}
use Rattle.pst_judge.proofs.total.+form_shows_no_command_fails_within.Goals as goal

pub returns : goal.returns
returns t c = λ yes.
    let more : c.args.steps ≡ suc (c.args.steps - 1) = omega arith in
    one_step c.args.model.now c.args.reach c.args.branches.now c.args.suffix.now c.args.steps (c.args.steps - 1) _ _ _ more c.greater-after.ensures c.in-Some.ensures c.in-Some-greatest_reach_after_commands.ensures (c.form_shows_no_command_fails_within.ensures yes)
