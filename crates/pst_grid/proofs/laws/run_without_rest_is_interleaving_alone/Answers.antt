use Rattle.pst_grid.proofs.Alone.{runs-alone}
use Rattle.pst_grid.proofs.laws.run_without_rest_is_interleaving_alone.Goals as goal

pub returns : goal.returns
returns g c = runs-alone
