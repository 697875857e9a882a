use Rattle.pst_judge.proofs.ByOrder.{never_blocks}
use Rattle.pst_judge.proofs.by_order.RecordedOrder.new.Goals as goal

pub returns-in_err-times-in-Time-clause-progress : goal.returns-in_err-times-in-Time-clause-progress
returns-in_err-times-in-Time-clause-progress c =
    never_blocks c.args.order c.args.shaped.now.case c.args.history.now

pub returns-clause-progress : goal.returns-clause-progress
returns-clause-progress c = never_blocks c.args.order c.args.shaped.now.case c.args.history.now
