use Rattle.pst_value.proofs.Leaves.{plain_of-plain_of}
use Rattle.pst_value.proofs.laws.making_plain_again_changes_nothing.Goals as goal

pub returns : goal.returns
returns c = plain_of-plain_of
