-- What a history says of the system on which its case was driven.
use Rattle.std.specs.Prelude.{◌≡◌, ◌<◌, ⊤, Bool, true, false, ◌&&◌, List, [], ◌∷◌, ◌++◌, map, length, Option, Some, MatchBool}
use Rattle.std.specs.List.{list_any}
use Rattle.pst_case.specs.Shape.{joined, result_type, holds_var, is_forward}
use Rattle.pst_case.specs.declared.case.Case.{Case}
use Rattle.pst_case.specs.declared.case.Command.{Command}
use Rattle.pst_case.specs.declared.history.History.{History}
use Rattle.pst_case.specs.declared.history.Reply.{Reply}
use Rattle.pst_case.specs.declared.history.Reply.TheVariants.{Value as Answered, Misfit, Failed, NotRun, Unknown}
use Rattle.pst_driver.specs.declared.driving.DriveFault.{DriveFault}
use Rattle.pst_driver.specs.declared.driving.DriveFault.TheVariants.{ResetFailed, NoThread, NoMemory}
use Rattle.pst_model.specs.Fitting.{fits_in}
use Rattle.pst_case.specs.Recorded.{recorded}
use Rattle.pst_model.specs.Parts.{operation_of}
use Rattle.pst_model.specs.declared.model.Op.{Op}
use Rattle.pst_model.specs.declared.model.Source.{Source}
use Rattle.pst_system.specs.Kept.{Answers, Fails, ResetFails}
use Rattle.pst_system.specs.FaultName.{is_outcome_unknown}
use Rattle.pst_system.specs.declared.system.CallFault.{CallFault}
use Rattle.pst_system.specs.declared.system.CallFault.TheVariants.{OutcomeUnknown}
use Rattle.pst_system.specs.declared.system.RealCall.{RealCall}
use Rattle.pst_value.specs.Subst.{substituted, plain_of}
use Rattle.pst_value.specs.declared.value.Value.{Value}

-- ---- calls

-- an argument with these results for its variables, made plain
abbrev pub real_argument : List (Option Value) → Value → Value
real_argument results v = plain_of (substituted results v)

-- the call of an operation that a command makes with these results for its variables
abbrev pub real_call : Op → List (Option Value) → Command → RealCall
real_call o results c = record { op = c.op; name = o.name; args = map (real_argument results) c.args }

-- whether a variable is left in an argument of the call: a result that it needs is missing
abbrev pub lacks_result : RealCall → Bool
lacks_result call = list_any (holds_var (is_forward 0)) call.args

-- ---- replies

-- whether a reply is a value
abbrev pub is_answer : Reply → Bool
is_answer (Answered v) = true
is_answer Misfit = false
is_answer Failed = false
is_answer NotRun = false
is_answer Unknown = false

-- whether each reply is a value
abbrev pub all_answers : List Reply → Bool
all_answers [] = true
all_answers (r ∷ rs) = is_answer r && all_answers rs

-- whether a call failed, or its answer is no value of its type
abbrev pub is_failure : Reply → Bool
is_failure (Answered v) = false
is_failure Misfit = true
is_failure Failed = true
is_failure NotRun = false
is_failure Unknown = false

-- whether the command after this reply runs, in a suffix before which some outcome is unknown
abbrev pub goes_on : Reply → Bool
goes_on (Answered v) = true
goes_on Misfit = false
goes_on Failed = false
goes_on NotRun = true
goes_on Unknown = false

-- the replies of commands that are not run
abbrev pub none_run : List Command → List Reply
none_run cs = map (λ c. NotRun) cs

-- whether a value is of the type of the command's result
abbrev pub fits_result : Source → Command → Value → Bool
fits_result m c v = fits_in m [] [] v (result_type m c)

-- ---- histories, by what the system may answer and with what its calls may fail

module _ (m : Source) (answers : Answers) (fails : Fails) where
  -- a reply that the call of a command may have: an answer of its result type, a misfit where another may be
  -- answered, a failure where it may fail, and unknown where the system may say that the outcome of this call is
  abbrev pub IsReply : Command → RealCall → Reply → Type 0
  IsReply c call (Answered v) = (fits_result m c v ≡ true) × answers call v
  IsReply c call Misfit = (v : Value) × (fits_result m c v ≡ false) × answers call v
  IsReply c call Failed = (f : CallFault) × (is_outcome_unknown f ≡ false) × fails call f
  IsReply c call NotRun = ⊥
  IsReply c call Unknown = fails call OutcomeUnknown

  -- a reply that a command may have with these results for its variables: one to the call of its operation,
  -- which is there
  pub record IsRealReply (results : List (Option Value)) (c : Command) (r : Reply) : Type 0 where
    pub operation : Op
    pub known : operation_of m.items c.op ≡ Some operation
    pub reply : IsReply c (real_call operation results c) r

  -- the replies of one part: each to its command with these results, up to the first that is no value, and
  -- after it none is run
  abbrev pub PartIsDriven : List (Option Value) → List Command → List Reply → Type 0
  PartIsDriven results [] rs = rs ≡ []
  PartIsDriven results (c ∷ cs) [] = ⊥
  PartIsDriven results (c ∷ cs) (r ∷ rs) =
      IsRealReply results c r × MatchBool (is_answer r) (PartIsDriven results cs rs) (rs ≡ none_run cs)

  -- the same of each branch
  abbrev pub BranchesAreDriven : List (Option Value) → List (List Command) → List (List Reply) → Type 0
  BranchesAreDriven results [] hs = hs ≡ []
  BranchesAreDriven results (b ∷ bs) [] = ⊥
  BranchesAreDriven results (b ∷ bs) (h ∷ hs) = PartIsDriven results b h × BranchesAreDriven results bs hs

  -- what becomes of a command where results may be missing: a call that lacks one is not made
  pub record IsLateReply (results : List (Option Value)) (c : Command) (r : Reply) : Type 0 where
    pub operation : Op
    pub known : operation_of m.items c.op ≡ Some operation
    pub reply : MatchBool (lacks_result (real_call operation results c))
        (r ≡ NotRun)
        (IsReply c (real_call operation results c) r)

  -- the replies of a suffix before which some outcome is unknown
  abbrev pub LateIsDriven : List (Option Value) → List Command → List Reply → Type 0
  LateIsDriven results [] rs = rs ≡ []
  LateIsDriven results (c ∷ cs) [] = ⊥
  LateIsDriven results (c ∷ cs) (r ∷ rs) =
      IsLateReply results c r × MatchBool (goes_on r) (LateIsDriven results cs rs) (rs ≡ none_run cs)

  -- A history of a case, each call made with the recorded results: the branches are run where the whole
  -- prefix has values, the suffix where every reply before it is a value, and else they are not run at all,
  -- but for a suffix before which no reply is a failure: then some outcome is unknown.
  pub record IsDriven (c : Case) (h : History) : Type 0 where
    pub prefix : PartIsDriven (recorded h) c.prefix h.prefix
    pub branches : MatchBool (all_answers h.prefix)
        (BranchesAreDriven (recorded h) c.branches h.branches)
        (h.branches ≡ map none_run c.branches)
    pub suffix : MatchBool (all_answers (h.prefix ++ joined h.branches))
        (PartIsDriven (recorded h) c.suffix h.suffix)
        (MatchBool (list_any is_failure (h.prefix ++ joined h.branches))
        (h.suffix ≡ none_run c.suffix)
        (LateIsDriven (recorded h) c.suffix h.suffix))

-- why a case may not be driven: a reset may fail, or no thread could be had where a branch is not empty, or
-- memory was refused
abbrev pub IsDriveFault : ResetFails → Case → DriveFault → Type 0
IsDriveFault reset_fails c ResetFailed = (f : CallFault) × reset_fails f
IsDriveFault reset_fails c NoThread = 0 < length (joined c.branches)
IsDriveFault reset_fails c NoMemory = ⊤
