use Rattle.pst_cli.proofs.KeepingOn.{keeps}
use Rattle.pst_cli.proofs.laws.keep_going_changes_nothing_without_refusals.Goals as goal

pub returns : goal.returns
returns c = keeps
