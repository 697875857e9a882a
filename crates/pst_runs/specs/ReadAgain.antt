-- Runs whose trees are read as the runs.
use Rattle.std.specs.Prelude.{◌≡◌, ◌<◌, ◌^◌, ℕ, List, [], ◌∷◌, IfSome, Ok}
use Rattle.pst_case.specs.declared.history.CallTime.{CallTime}
use Rattle.pst_case.specs.declared.history.History.{History}
use Rattle.pst_case.specs.declared.history.Run.{Run}
use Rattle.pst_model.specs.declared.model.Source.{Source}
use Rattle.pst_runs.specs.Items.{item_of}
use Rattle.pst_runs.specs.Written.{run_form}
use Rattle.pst_sexpr.specs.Lawful.{IsTree}

-- the tree of the run has a spelling, and is read as the run
pub record IsRead (m : Source) (run : Run) : Type 0 where
  pub lawful : IsTree (run_form m run)
  pub read : item_of m (run_form m run) ≡ Ok run

-- so has that of each run
abbrev pub AreRead : Source → List Run → Type 0
AreRead m [] = Unit {0}
AreRead m (run ∷ runs) = IsRead m run × AreRead m runs

-- ---- times of at most 64 bits

pub record IsSmall (call : CallTime) : Type 0 where
  pub invoked : call.invoked < 2 ^ 64
  pub completed : IfSome call.completed (λ at. at < 2 ^ 64)

abbrev pub AreSmallCalls : List CallTime → Type 0
AreSmallCalls [] = Unit {0}
AreSmallCalls (call ∷ calls) = IsSmall call × AreSmallCalls calls

abbrev pub AreSmallTimes : List (List CallTime) → Type 0
AreSmallTimes [] = Unit {0}
AreSmallTimes (calls ∷ times) = AreSmallCalls calls × AreSmallTimes times

abbrev pub HasSmallTimes : History → Type 0
HasSmallTimes h = IfSome h.times AreSmallTimes
