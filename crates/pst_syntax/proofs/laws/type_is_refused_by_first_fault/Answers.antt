use Rattle.pst_syntax.proofs.First.{ty_same}
use Rattle.pst_syntax.proofs.laws.type_is_refused_by_first_fault.Goals as goal

pub returns : goal.returns
returns c = ty_same
