use Rattle.pst_precedence.proofs.Adding.{IsToFirst}
use Rattle.pst_precedence.specs.Listing.{Adds}
use Rattle.pst_precedence.proofs.listing.append_precedences_of_branch.Given as goal

abbrev pub invariant-loop-index : goal.invariant-loop-index
invariant-loop-index l = Adds l.times (IsToFirst l.branch l.index) l.initial.list.items l.list.items
