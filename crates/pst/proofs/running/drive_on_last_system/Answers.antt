use Rattle.std.proofs.Common.{inl, inr}
use Rattle.pst.proofs.Endings.{are_made, drives_meant, is_absence}
use Rattle.pst.proofs.running.drive_on_last_system.Goals as goal
use Rattle.pst_cli.specs.declared.absent.Absence.TheVariants.{NoSystem}

pub returns-in-Err : goal.returns-in-Err
returns-in-Err g c = inr (c.in-Err.why, c.in-Err.ensures.absent, c.refuse.ensures)

pub returns-in-None : goal.returns-in-None
returns-in-None g c =
    inr (NoSystem c.args.run.system, is_absence c.in-Ok.systems c.args.run.system c.in-Ok.ensures.made c.in-None.ensures.cases.0, c.refuse-in-None.ensures)

pub returns : goal.returns
returns g c =
    inl (
      c.pop.new.self.items,
      c.in-Some.system,
      are_made c.in-Ok.systems _ c.in-Ok.ensures.made c.in-Some.ensures.items,
      drives_meant _ _ _ c.plain-plain.ensures _ _ _ _ c.drive_with_messages.ensures,
    )
