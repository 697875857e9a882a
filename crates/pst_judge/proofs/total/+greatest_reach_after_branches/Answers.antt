use Rattle.pst_judge.proofs.Passing.{branches_more}
use Rattle.pst_judge.proofs.total.+greatest_reach_after_branches.Goals as goal

pub returns-in_ok-greatest_reach_after_branches-in-Some : goal.returns-in_ok-greatest_reach_after_branches-in-Some
returns-in_ok-greatest_reach_after_branches-in-Some t c =
    branches_more c.args.model.now c.args.reach _ _ _ _ _ _ c.in-Some.ensures.cases.0 c.greater.ensures (rw c.as_slice.ensures at c.in_ok-after-in-Some.ensures) c.in_ok-greatest_reach_after_branches-in-Some.ensures
