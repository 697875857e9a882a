use Rattle.pst_operators.proofs.Putting.{put-keeps-keys}
use Rattle.pst_operators.proofs.laws.put_keeps_keys_rising.Goals as goal

pub returns : goal.returns
returns c = put-keeps-keys
