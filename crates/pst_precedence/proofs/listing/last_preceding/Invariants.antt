use Rattle.pst_precedence.proofs.Adding.{IsLastOfFirst}
use Rattle.pst_precedence.proofs.listing.last_preceding.Given as goal

abbrev pub invariant-loop-index : goal.invariant-loop-index
invariant-loop-index l = IsLastOfFirst l.calls l.call l.index l.last
