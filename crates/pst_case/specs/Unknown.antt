-- Calls of unknown outcome.
use Rattle.std.specs.Prelude.{Bool, true, false, ◌&&◌, List, [], ◌∷◌, map, Option, Some, None, if◌then◌else◌}
use Rattle.std.specs.List.{list_any}
use Rattle.pst_case.specs.Matches.{replies_of}
use Rattle.pst_case.specs.Times.{called, fit}
use Rattle.pst_case.specs.declared.history.CallTime.{CallTime}
use Rattle.pst_case.specs.declared.history.History.{History}
use Rattle.pst_case.specs.declared.history.Reply.{Reply}
use Rattle.pst_case.specs.declared.history.Reply.TheVariants.{Value as Answered, Misfit, Failed, NotRun, Unknown}

abbrev pub is_unknown : Reply → Bool
is_unknown (Answered v) = false
is_unknown Misfit = false
is_unknown Failed = false
is_unknown NotRun = false
is_unknown Unknown = true

-- some call of the history has an unknown outcome
abbrev pub has_unknown : History → Bool
has_unknown h = list_any is_unknown (replies_of h)

-- ---- times

abbrev pub is_open : CallTime → Bool
is_open call = elim call.completed [ None ↦ true | Some at ↦ false ]

-- no call of unknown outcome has a completion, where the called ones of these commands have these times
abbrev pub are_open : List Reply → List CallTime → Bool
are_open [] calls = true
are_open (NotRun ∷ rs) calls = are_open rs calls
are_open (Unknown ∷ rs) [] = true
are_open (Unknown ∷ rs) (call ∷ calls) = is_open call && are_open rs calls
are_open (Answered v ∷ rs) [] = true
are_open (Answered v ∷ rs) (call ∷ calls) = are_open rs calls
are_open (Misfit ∷ rs) [] = true
are_open (Misfit ∷ rs) (call ∷ calls) = are_open rs calls
are_open (Failed ∷ rs) [] = true
are_open (Failed ∷ rs) (call ∷ calls) = are_open rs calls

abbrev pub all_open : List (List Reply) → List (List CallTime) → Bool
all_open [] times = true
all_open (rs ∷ branches) [] = true
all_open (rs ∷ branches) (calls ∷ times) = are_open rs calls && all_open branches times

abbrev pub times_for : List (List Reply) → Option (List (List CallTime)) → Option (List (List CallTime))
times_for branches None = None
times_for branches (Some times) =
    if fit (map called branches) times && all_open branches times then Some times else None

-- the recorded times of a history, if they fit its calls, and no call of unknown outcome has a completion
abbrev pub times_of_calls : History → Option (List (List CallTime))
times_of_calls h = times_for h.branches h.times
