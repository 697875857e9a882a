use Rattle.std.proofs.Common.{◌≡◌, ◌++◌, drop}
use Rattle.pst_machine.specs.Listing.{numbers_text}
use Rattle.pst_machine.proofs.listing.numbers_text.Given as goal

abbrev pub invariant-loop-number : goal.invariant-loop-number
invariant-loop-number l = l.text ++ numbers_text (drop l.number-index l.numbers) ≡ numbers_text l.numbers
