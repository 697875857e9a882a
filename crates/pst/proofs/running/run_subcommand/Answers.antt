use Rattle.pst.proofs.running.run_subcommand.Goals as goal
use Rattle.pst.specs.Endings.{runs}

pub returns : goal.returns
returns g c = runs c.in-Some.command c.in-Some.ensures.choice c.run_command.ensures
