use Rattle.pst_judge.proofs.Passing.{each_more}
use Rattle.pst_judge.proofs.total.+greatest_reach_after_commands.Goals as goal

pub returns-in_ok-greatest_reach_after_commands-in-Some : goal.returns-in_ok-greatest_reach_after_commands-in-Some
returns-in_ok-greatest_reach_after_commands-in-Some t c =
    each_more c.args.model.now c.args.reach _ _ _ _ _ _ c.in-Some.ensures.cases.0 c.greater.ensures c.in_ok-after-in-Some.ensures c.in_ok-greatest_reach_after_commands-in-Some.ensures
