use Rattle.std.proofs.Common.{◌≡◌, ◌++◌, drop, length}
use Rattle.pst_machine.specs.Listing.{entries_text}
use Rattle.pst_machine.proofs.listing.entries_text.Given as goal

abbrev pub invariant-loop-key : goal.invariant-loop-key
invariant-loop-key l = l.text ++ entries_text (drop (length l.yielded) l.keys) (drop (length l.yielded) l.parts) ≡ entries_text l.keys l.parts
