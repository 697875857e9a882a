use Rattle.std.proofs.Common.{◌≡◌, drop}
use Rattle.pst_input.specs.Lines.{json_start, json_start_from}
use Rattle.pst_input.proofs.lines.find_first_line_like_json_item.Given as goal

abbrev pub invariant-loop-place : goal.invariant-loop-place
invariant-loop-place l = json_start l.text ≡ json_start_from l.is_begin l.place (drop l.place l.text)
