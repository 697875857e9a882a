use Rattle.pst_case.proofs.Staying.{renumbered-stays}
use Rattle.pst_case.proofs.laws.unchanged_numbers_change_nothing.Goals as goal

pub returns : goal.returns
returns c = renumbered-stays
