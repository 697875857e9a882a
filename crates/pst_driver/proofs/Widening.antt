-- A history that is driven by some relations is driven by wider ones.
use Rattle.std.proofs.Common.{◌≡◌, Bool, true, false, List, [], ◌∷◌, map, Option, MatchBool}
use Rattle.pst_case.specs.declared.case.Case.{Case}
use Rattle.pst_case.specs.declared.case.Command.{Command}
use Rattle.pst_case.specs.declared.history.History.{History}
use Rattle.pst_case.specs.declared.history.Reply.{Reply}
use Rattle.pst_case.specs.declared.history.Reply.TheVariants.{Value as Answered, Misfit, Failed, NotRun, Unknown}
use Rattle.pst_driver.proofs.Real.{Wider, reply_wider, late_reply_wider, if_wider, unless_wider}
use Rattle.pst_driver.specs.Driven.{PartIsDriven, LateIsDriven, BranchesAreDriven, IsDriven, IsDriveFault, none_run, goes_on}
use Rattle.pst_driver.specs.declared.driving.DriveFault.{DriveFault}
use Rattle.pst_driver.specs.declared.driving.DriveFault.TheVariants.{ResetFailed, NoThread, NoMemory}
use Rattle.pst_model.specs.declared.model.Source.{Source}
use Rattle.pst_system.specs.Kept.{Answers, Fails, ResetFails}
use Rattle.pst_system.specs.declared.system.CallFault.{CallFault}
use Rattle.pst_value.specs.declared.value.Value.{Value}

module _ (m : Source) (A A' : Answers) (F F' : Fails) (wide : Wider A A' F F') where
  part_wider : (results : List (Option Value)) (cs : List Command) (rs : List Reply) → PartIsDriven m A F results cs rs → PartIsDriven m A' F' results cs rs
  part_wider results [] rs h = h
  part_wider results (c ∷ cs) [] h = h
  part_wider results (c ∷ cs) (Answered v ∷ rs) h = (reply_wider m A A' F F' wide results c (Answered v) h.0, part_wider results cs rs h.1)
  part_wider results (c ∷ cs) (Misfit ∷ rs) h = (reply_wider m A A' F F' wide results c Misfit h.0, h.1)
  part_wider results (c ∷ cs) (Failed ∷ rs) h = (reply_wider m A A' F F' wide results c Failed h.0, h.1)
  part_wider results (c ∷ cs) (NotRun ∷ rs) h = absurd h.0.reply
  part_wider results (c ∷ cs) (Unknown ∷ rs) h = (reply_wider m A A' F F' wide results c Unknown h.0, h.1)

  late_wider : (results : List (Option Value)) (cs : List Command) (rs : List Reply) → LateIsDriven m A F results cs rs → LateIsDriven m A' F' results cs rs
  late_wider results [] rs h = h
  late_wider results (c ∷ cs) [] h = h
  late_wider results (c ∷ cs) (r ∷ rs) h =
      (late_reply_wider m A A' F F' wide results c r h.0, if_wider _ (goes_on r) (late_wider results cs rs) h.1)

  branches_wider : (results : List (Option Value)) (bs : List (List Command)) (hs : List (List Reply)) → BranchesAreDriven m A F results bs hs → BranchesAreDriven m A' F' results bs hs
  branches_wider results [] hs h = h
  branches_wider results (b ∷ bs) [] h = h
  branches_wider results (b ∷ bs) (r ∷ rs) h = (part_wider results b r h.0, branches_wider results bs rs h.1)

  branches_either : (all : Bool) (results : List (Option Value)) (bs : List (List Command)) (hs : List (List Reply))
      → MatchBool all (BranchesAreDriven m A F results bs hs) (hs ≡ map none_run bs) → MatchBool all (BranchesAreDriven m A' F' results bs hs) (hs ≡ map none_run bs)
  branches_either true results bs hs h = branches_wider results bs hs h
  branches_either false results bs hs h = h

  suffix_either : (all failed : Bool) (results : List (Option Value)) (cs : List Command) (rs : List Reply)
      → MatchBool all (PartIsDriven m A F results cs rs) (MatchBool failed (rs ≡ none_run cs) (LateIsDriven m A F results cs rs))
      → MatchBool all (PartIsDriven m A' F' results cs rs) (MatchBool failed (rs ≡ none_run cs) (LateIsDriven m A' F' results cs rs))
  suffix_either true failed results cs rs h = part_wider results cs rs h
  suffix_either false failed results cs rs h = unless_wider _ failed (late_wider results cs rs) h

  pub driven_wider : (c : Case) (h : History) → IsDriven m A F c h → IsDriven m A' F' c h
  driven_wider c h d = record {
    prefix = part_wider _ c.prefix h.prefix d.prefix;
    branches = branches_either _ _ c.branches h.branches d.branches;
    suffix = suffix_either _ _ _ c.suffix h.suffix d.suffix;
  }

-- why a case could not be driven, by a reset that may fail in as many ways
pub drive_fault_wider : (R S : ResetFails) → ((f : CallFault) → R f → S f) → (c : Case) (e : DriveFault) → IsDriveFault R c e → IsDriveFault S c e
drive_fault_wider R S wide c ResetFailed h = (h.0, wide h.0 h.1)
drive_fault_wider R S wide c NoThread h = h
drive_fault_wider R S wide c NoMemory h = h
