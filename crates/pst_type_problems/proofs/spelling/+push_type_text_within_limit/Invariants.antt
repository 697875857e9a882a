use Rattle.std.proofs.Common.{◌≤◌, ◌+◌, ◌*◌}
use Rattle.pst_type_problems.proofs.spelling.+push_type_text_within_limit.Given as goal

abbrev pub decreases-push_type_text_within_limit : goal.decreases-push_type_text_within_limit
decreases-push_type_text_within_limit l = 3 * l.left.now

abbrev pub decreases-push_last_type_part_and_bracket : goal.decreases-push_last_type_part_and_bracket
decreases-push_last_type_part_and_bracket l = 3 * l.left.now + 1

abbrev pub decreases-push_tuple_type_text : goal.decreases-push_tuple_type_text
decreases-push_tuple_type_text l = 3 * l.left.now + 1

abbrev pub invariant-push_tuple_type_text-loop-kind : goal.invariant-push_tuple_type_text-loop-kind
invariant-push_tuple_type_text-loop-kind l = l.left ≤ l.fn.left
