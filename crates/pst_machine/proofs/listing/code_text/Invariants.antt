use Rattle.std.proofs.Common.{◌≡◌, ◌++◌, drop}
use Rattle.pst_machine.specs.Listing.{code_text}
use Rattle.pst_machine.proofs.listing.code_text.Given as goal

abbrev pub invariant-loop-number : goal.invariant-loop-number
invariant-loop-number l = l.text ++ code_text l.number (drop l.number l.functions) ≡ code_text 0 l.functions
