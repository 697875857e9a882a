use Rattle.pst_syntax.proofs.First.{expr_same}
use Rattle.pst_syntax.proofs.laws.expression_is_refused_by_first_fault.Goals as goal

pub returns : goal.returns
returns c = expr_same
