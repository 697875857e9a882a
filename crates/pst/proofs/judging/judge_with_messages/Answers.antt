use Rattle.pst_cli.specs.Commands.{HoldsJudging, IsJudgedInput, IsMeantOf}
use Rattle.pst_cli.specs.declared.judge.Judging.{Judging}
use Rattle.pst_judge.specs.declared.by_order.CallOrder.{CallOrder}
use Rattle.std.proofs.Common.{ℕ, List}
use Rattle.pst.proofs.judging.judge_with_messages.Goals as goal

judged_by_some : (input : List ℕ) (of : Judging) (order : CallOrder) → IsMeantOf (HoldsJudging order) input of → IsMeantOf IsJudgedInput input of
judged_by_some input of order m = (m.0, m.1, (order, m.2))

pub count_and_print_messages-requires : goal.count_and_print_messages-requires
count_and_print_messages-requires g c = judged_by_some c.args.input.now c.in-Some.judging c.args.options.order (rw c.in-Some.is at c.judge_items-status.ensures.held)
