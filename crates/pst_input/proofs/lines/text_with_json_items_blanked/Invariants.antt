use Rattle.std.proofs.Common.{◌≡◌, ◌++◌, drop}
use Rattle.pst_input.specs.Lines.{blanked, blanked_from}
use Rattle.pst_input.proofs.lines.text_with_json_items_blanked.Given as goal

abbrev pub invariant-loop-byte : goal.invariant-loop-byte
invariant-loop-byte l =
    blanked l.text ≡ l.blanked.items ++ blanked_from l.is_begin l.is_json (drop l.byte-index l.text)
