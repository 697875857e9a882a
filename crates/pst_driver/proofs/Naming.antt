-- What a system does whose relations have names, and what threads do that know the names alone.
use Rattle.std.proofs.Common.{◌≡◌, ◌∷◌, [], ◌++◌, ◌<◌, length, length-append, List, Option, None, MatchBool, Bool, true, false, arith, map, refl}
use Rattle.std.specs.Prelude.{IsTrue, ◌↔◌}
use Rattle.pst_case.specs.Recorded.{result_of}
use Rattle.pst_case.specs.Matches.{replies_of}
use Rattle.pst_case.specs.Shape.{joined, IsShaped}
use Rattle.pst_case.specs.declared.case.Case.{Case}
use Rattle.pst_case.specs.declared.case.Command.{Command}
use Rattle.pst_case.specs.declared.history.History.{History}
use Rattle.pst_case.specs.declared.history.Reply.{Reply}
use Rattle.pst_case.specs.declared.history.Reply.TheVariants.{Value as Answered, Misfit, Failed, NotRun, Unknown}
use Rattle.pst_driver.proofs.Real.{Wider, reply_wider, late_reply_wider, if_wider, unless_wider, all_driven}
use Rattle.pst_driver.specs.Driven.{IsDriven, all_answers, none_run, goes_on}
use Rattle.pst_driver.specs.Progress.{PartRuns, LateRuns, SuffixRuns, BranchesRun, IsPartFault, IsBranchFault}
use Rattle.pst_driver.specs.declared.driving.DriveFault.{DriveFault}
use Rattle.pst_driver.specs.declared.driving.DriveFault.TheVariants.{ResetFailed, NoThread, NoMemory}
use Rattle.pst_model.specs.declared.model.Source.{Source}
use Rattle.pst_system.specs.Kept.{Answers, Fails, ResetFails, AreKept}
use Rattle.pst_value.specs.declared.value.Value.{Value}

wide : {A A' : Answers} {F F' : Fails} {R R' : ResetFails} → AreKept A A' F F' R R' → Wider A A' F F'
wide kept = record { answers = λ k v. (kept.answering k v).0; fails = λ k f. (kept.failing k f).0 }

module _ {A A' : Answers} {F F' : Fails} {R R' : ResetFails} (kept : AreKept A A' F F' R R') (m : Source) where
  pub runs_kept : (known : List (Option Value)) (cs : List Command) (rs : List Reply)
      → PartRuns m A F known cs rs → PartRuns m A' F' known cs rs
  runs_kept known [] rs h = h
  runs_kept known (c ∷ cs) [] h = h
  runs_kept known (c ∷ cs) (Answered v ∷ rs) h =
      (reply_wider m A A' F F' (wide kept) known c (Answered v) h.0, runs_kept _ cs rs h.1)
  runs_kept known (c ∷ cs) (Misfit ∷ rs) h = (reply_wider m A A' F F' (wide kept) known c Misfit h.0, h.1)
  runs_kept known (c ∷ cs) (Failed ∷ rs) h = (reply_wider m A A' F F' (wide kept) known c Failed h.0, h.1)
  runs_kept known (c ∷ cs) (NotRun ∷ rs) h = h
  runs_kept known (c ∷ cs) (Unknown ∷ rs) h = (reply_wider m A A' F F' (wide kept) known c Unknown h.0, h.1)

  late_kept : (known : List (Option Value)) (cs : List Command) (rs : List Reply) → LateRuns m A F known cs rs → LateRuns m A' F' known cs rs
  late_kept known [] rs h = h
  late_kept known (c ∷ cs) [] h = h
  late_kept known (c ∷ cs) (r ∷ rs) h =
      (late_reply_wider m A A' F F' (wide kept) known c r h.0, if_wider _ (goes_on r) (late_kept (known ++ result_of r ∷ []) cs rs) h.1)

  suffix_kept : (all failed : Bool) (known : List (Option Value)) (cs : List Command) (rs : List Reply)
      → MatchBool all (PartRuns m A F known cs rs) (MatchBool failed (rs ≡ none_run cs) (LateRuns m A F known cs rs))
      → MatchBool all (PartRuns m A' F' known cs rs) (MatchBool failed (rs ≡ none_run cs) (LateRuns m A' F' known cs rs))
  suffix_kept true failed known cs rs h = runs_kept known cs rs h
  suffix_kept false failed known cs rs h = unless_wider _ failed (late_kept known cs rs) h

  -- prefix and suffix are run on the system, and the branches by threads that know the names alone
  pub kept_driven : (c : Case) (prefix : List Reply) (branches : List (List Reply)) (suffix : List Reply)
      → IsShaped m c → PartRuns m A F [] c.prefix prefix
      → MatchBool (all_answers prefix) (BranchesRun m A' F' (map result_of prefix) c.branches branches)
      (branches ≡ map none_run c.branches)
      → (let so_far : History = record { prefix = prefix; branches = branches; suffix = []; times = None } in
      SuffixRuns m A F (replies_of so_far) c.suffix suffix)
      → IsDriven m A' F' c (record { prefix = prefix; branches = branches; suffix = suffix; times = None })
  kept_driven c prefix branches suffix shaped before between after =
      all_driven m A' A' F' F' c prefix branches suffix
      (record { answers = λ k v h. h; fails = λ k f h. h }) shaped
      (runs_kept [] c.prefix prefix before) between
      (suffix_kept _ _ _ c.suffix suffix after)

pub some_length : {A : Type 0} (b : Bool) (xs : List A) → b ≡ false → (IsTrue b ↔ (xs ≡ [])) → 0 < length xs
some_length true xs e h = absurd (cc)
some_length false [] e h = let never : false ≡ true = h.1 refl in absurd (cc)
some_length false (x ∷ xs) e h = omega arith

-- the fault of a branch that is not empty is one of all branches from it on
pub first_fault : (b : List Command) (bs : List (List Command)) (e : DriveFault)
    → 0 < length b → IsPartFault e → IsBranchFault (b ∷ bs) e
first_fault b bs ResetFailed some h = h
first_fault b bs NoThread some h = omega (arith, some, length-append b (joined bs))
first_fault b bs NoMemory some h = tt

-- the fault of the others is one of all branches
pub later_fault : (b : List Command) (bs : List (List Command)) (e : DriveFault)
    → IsBranchFault bs e → IsBranchFault (b ∷ bs) e
later_fault b bs ResetFailed h = h
later_fault b bs NoThread h = omega (arith, h, length-append b (joined bs))
later_fault b bs NoMemory h = tt
