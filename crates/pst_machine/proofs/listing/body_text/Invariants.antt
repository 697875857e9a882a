use Rattle.std.proofs.Common.{◌≡◌, ◌++◌, drop}
use Rattle.pst_machine.specs.Listing.{body_text}
use Rattle.pst_machine.proofs.listing.body_text.Given as goal

abbrev pub invariant-loop-place : goal.invariant-loop-place
invariant-loop-place l = l.text ++ body_text l.number l.place (drop l.place l.body) ≡ body_text l.number 0 l.body
