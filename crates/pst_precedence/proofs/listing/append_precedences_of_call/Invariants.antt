use Rattle.pst_precedence.proofs.Adding.{IsFromFirst}
use Rattle.pst_precedence.specs.Listing.{Adds}
use Rattle.pst_precedence.proofs.listing.append_precedences_of_call.Given as goal

abbrev pub invariant-loop-branch : goal.invariant-loop-branch
invariant-loop-branch l = Adds l.times (IsFromFirst l.later l.branch) l.initial.list.items l.list.items
