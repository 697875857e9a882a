-- The generated case.
use Rattle.std.specs.Prelude.{◌≡◌, ℕ, ◌<◌, ◌≤◌, List, [], ◌∷◌, ◌++◌, Result, Ok, Err}
use Rattle.pst_case.specs.OfModel.{OfModel}
use Rattle.pst_case.specs.declared.case.Case.{Case}
use Rattle.pst_case.specs.declared.case.Command.{Command}
use Rattle.pst_gen.specs.Accepted.{IsAccepted}
use Rattle.pst_gen.specs.Script.{IsScript}
use Rattle.pst_gen.specs.Split.{split_case, most, before_suffix_of, suffix_of}
use Rattle.pst_eval.specs.declared.callbacks.FaultPlace.{FaultPlace}
use Rattle.pst_model.specs.declared.model.Source.{Source}

-- more commands in parallel, but not too many, give no accepted case
abbrev pub NoneAbove : Source → (branches word : ℕ) → (before suffix : List Command) → ℕ → Type 0
NoneAbove m branches word before suffix parallel =
    (more : ℕ) → parallel < more → more ≤ most branches before
    → IsAccepted m (split_case branches word before suffix more) → ⊥

-- the case is the split by the word, with the most parallel commands that give an accepted case
pub record IsSplit (m : Source) (branches word : ℕ) (before suffix : List Command) (c : Case) : Type 0 where
  pub parallel : ℕ
  pub within : parallel ≤ most branches before
  pub case : c ≡ split_case branches word before suffix parallel
  pub accepted : IsAccepted m c
  pub longest : NoneAbove m branches word before suffix parallel

-- a script over all words but the last, whose last commands are the suffix, and the others of which are split
-- by the last word
pub record IsCase (m : Source) (commands branches suffix : ℕ) (words : List ℕ) (c : Case) : Type 0 where
  pub script : List Command
  pub chosen_by : List ℕ
  pub split_by : ℕ
  pub words-are : words ≡ chosen_by ++ split_by ∷ []
  pub scripted : IsScript m commands chosen_by (Ok script)
  pub split : IsSplit m branches split_by (before_suffix_of suffix script) (suffix_of suffix script) c

-- What is generated over just these words: the case, or the fault of its script, after which no word is used.
abbrev pub IsGenerated : Source → (commands branches suffix : ℕ) → (words : List ℕ)
    → Result Case FaultPlace → Type 0
IsGenerated m commands branches suffix words (Ok c) = IsCase m commands branches suffix words c
IsGenerated m commands branches suffix words (Err f) = IsScript m commands words (Err f)

-- the generated case, without its model
abbrev pub case_in : Result OfModel FaultPlace → Result Case FaultPlace
case_in (Ok v) = Ok v.case
case_in (Err f) = Err f
