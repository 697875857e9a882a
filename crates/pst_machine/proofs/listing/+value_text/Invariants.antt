use Rattle.std.proofs.Common.{◌≡◌, ◌++◌, drop, take, map}
use Rattle.pst_machine.specs.Listing.{value_text, parts_text}
use Rattle.pst_machine.proofs.listing.+value_text.Given as goal

abbrev pub invariant-parts_text-loop-part : goal.invariant-parts_text-loop-part
invariant-parts_text-loop-part l = l.text ++ parts_text (map value_text (drop l.part-index l.parts)) ≡ parts_text (map value_text l.parts)

abbrev pub invariant-text_of_each_value-loop-part : goal.invariant-text_of_each_value-loop-part
invariant-text_of_each_value-loop-part l = l.texts ≡ map value_text (take l.part-index l.parts)
