use Rattle.std.proofs.Common.{◌≡◌, ◌+◌, ◌++◌, drop, string_bytes}
use Rattle.pst_cli.specs.KeepingOn.{answer_lines}
use Rattle.pst_cli.proofs.keep.numbered_item_result_lines.Given as goal

abbrev pub invariant-loop-answer : goal.invariant-loop-answer
invariant-loop-answer l =
    answer_lines (l.count + 1) l.answers ≡ string_bytes l.text ++ answer_lines (l.number + 1) (drop l.answer-index l.answers)
