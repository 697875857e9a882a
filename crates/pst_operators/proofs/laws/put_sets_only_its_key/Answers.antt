use Rattle.pst_operators.proofs.Putting.{get-after-put}
use Rattle.pst_operators.proofs.laws.put_sets_only_its_key.Goals as goal

pub returns : goal.returns
returns c = get-after-put
