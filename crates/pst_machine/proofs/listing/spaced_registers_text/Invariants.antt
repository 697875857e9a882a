use Rattle.std.proofs.Common.{◌≡◌, ◌++◌, drop}
use Rattle.pst_machine.specs.Listing.{numbers_text}
use Rattle.pst_machine.proofs.listing.spaced_registers_text.Given as goal

abbrev pub invariant-loop-register : goal.invariant-loop-register
invariant-loop-register l = l.text ++ numbers_text (drop l.register-index l.registers) ≡ numbers_text l.registers
