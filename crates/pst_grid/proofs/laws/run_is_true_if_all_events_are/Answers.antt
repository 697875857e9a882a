use Rattle.pst_grid.proofs.Alone.{true-by-events}
use Rattle.pst_grid.proofs.laws.run_is_true_if_all_events_are.Goals as goal

pub returns : goal.returns
returns g c = true-by-events
