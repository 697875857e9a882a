use Rattle.pst_gen.proofs.Always.{always-accepted}
use Rattle.pst_gen.proofs.laws.unsplit_script_is_accepted.Goals as goal

pub returns : goal.returns
returns c = always-accepted
