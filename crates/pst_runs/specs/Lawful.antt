-- Runs that may be judged over a model.
use Rattle.std.specs.Prelude.{◌≡◌, true, List, [], ◌∷◌, IfSome}
use Rattle.pst_case.specs.Matches.{matches}
use Rattle.pst_case.specs.Unknown.{times_of_calls}
use Rattle.pst_case.specs.declared.history.Run.{Run}
use Rattle.pst_model.specs.declared.model.Source.{Source}

-- the case is one of the model, the history, where there is one, matches the case, and its times, where it has any, fit
-- its calls, and say of no call of unknown outcome when it completed
pub record IsLawful (m : Source) (run : Run) : Type 0 where
  pub model : run.shaped.model ≡ m
  pub matching : IfSome run.history (λ h. matches m run.shaped.case h ≡ true)
  pub timed : IfSome run.history (λ h. times_of_calls h ≡ h.times)

-- each run may be judged
abbrev pub AreLawful : Source → List Run → Type 0
AreLawful m [] = Unit {0}
AreLawful m (run ∷ runs) = IsLawful m run × AreLawful m runs
