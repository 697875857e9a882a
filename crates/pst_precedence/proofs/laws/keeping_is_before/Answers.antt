use Rattle.pst_precedence.proofs.Preceding.{keeping_is_before}
use Rattle.pst_precedence.proofs.laws.keeping_is_before.Goals as goal

pub returns : goal.returns
returns c = keeping_is_before
