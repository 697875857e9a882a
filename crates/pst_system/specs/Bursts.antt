-- Calls that were made in bursts.
use Rattle.std.specs.Prelude.{List, All}
use Rattle.pst_system.specs.Kept.{Answers, Fails}
use Rattle.pst_system.specs.declared.burst.BurstDrive.{BurstDrive}
use Rattle.pst_system.specs.declared.burst.CallEnd.{CallEnd}
use Rattle.pst_system.specs.declared.burst.CallEnd.TheVariants.{Answered, Fault}
use Rattle.pst_system.specs.declared.burst.MadeCall.{MadeCall}
use Rattle.pst_system.specs.declared.system.RealCall.{RealCall}

module _ (answers : Answers) (fails : Fails) where
  -- a call may end so: by an answer that it may have, or by a fault that it may end with
  abbrev pub MayEnd : RealCall → CallEnd → Type 0
  MayEnd c (Answered v) = answers c v
  MayEnd c (Fault f) = fails c f

  -- a call that was made ended as it may
  pub record IsMade (m : MadeCall) : Type 0 where
    pub ended : MayEnd m.call m.end

  -- each call of a drive did
  pub record IsMadeDrive (d : BurstDrive) : Type 0 where
    pub branches : All (All IsMade) d.branches
