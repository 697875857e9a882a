use Rattle.pst_driver.proofs.Breaking.{by_their_calls}
use Rattle.pst_driver.proofs.laws.drives_break_by_their_calls.Goals as goal

pub returns : goal.returns
returns g c = by_their_calls _ _
