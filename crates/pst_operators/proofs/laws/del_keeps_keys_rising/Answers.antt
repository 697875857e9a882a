use Rattle.pst_operators.proofs.Keeping.{without-rising}
use Rattle.pst_operators.proofs.laws.del_keeps_keys_rising.Goals as goal

pub returns : goal.returns
returns c = without-rising
