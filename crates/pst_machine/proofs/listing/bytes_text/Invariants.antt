use Rattle.std.proofs.Common.{◌≡◌, ◌++◌, drop}
use Rattle.pst_machine.specs.Listing.{bytes_text}
use Rattle.pst_machine.proofs.listing.bytes_text.Given as goal

abbrev pub invariant-loop-byte : goal.invariant-loop-byte
invariant-loop-byte l = l.text ++ bytes_text (drop l.byte-index l.bytes) ≡ bytes_text l.bytes
