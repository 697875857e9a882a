use Rattle.std.proofs.Common.{[]}
use Rattle.pst_precedence.proofs.Adding.{IsToBranches}
use Rattle.pst_precedence.specs.Listing.{Adds}
use Rattle.pst_precedence.proofs.listing.implying_precedences.Given as goal

abbrev pub invariant-loop-branch : goal.invariant-loop-branch
invariant-loop-branch l = Adds l.times (IsToBranches l.branch) [] l.list.items
