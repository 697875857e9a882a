-- The calls of a history in which some have an unknown outcome.
use Rattle.std.specs.Prelude.{ℕ, ◌+◌, ◌-◌, Bool, true, false, ◌||◌, if◌then◌else◌, List, [], ◌∷◌, ◌++◌, length, map, replicate, Option, Some, None}
use Rattle.std.specs.List.{list_any}
use Rattle.pst_case.specs.Recorded.{recorded}
use Rattle.pst_case.specs.Shape.{or_else, before_suffix}
use Rattle.pst_case.specs.Unknown.{is_unknown}
use Rattle.pst_case.specs.declared.case.Case.{Case}
use Rattle.pst_case.specs.declared.case.Command.{Command}
use Rattle.pst_case.specs.declared.history.History.{History}
use Rattle.pst_case.specs.declared.history.Reply.{Reply}
use Rattle.pst_case.specs.declared.history.Reply.TheVariants.{Value as Answered, Misfit, Failed, NotRun, Unknown}
use Rattle.pst_eval.specs.Names.{next_names_result}
use Rattle.pst_judge.specs.Replay.{event_of}
use Rattle.pst_judge.specs.declared.events.Event.{Event}
use Rattle.pst_model.specs.declared.model.Source.{Source}
use Rattle.pst_value.specs.Holds.{holds}
use Rattle.pst_value.specs.Subst.{substituted}
use Rattle.pst_value.specs.declared.value.Value.{Value, Var, out-Value}
use Rattle.pst_value.specs.declared.value.Value.TheOpen.{Value-F}

-- ---- broken commands

-- one of the arguments holds the variable of a result that is not there, where the first result has the number
abbrev pub needs_missing : ℕ → List (Option Value) → List Value → Bool
needs_missing number [] args = false
needs_missing number (Some v ∷ results) args = needs_missing (number + 1) results args
needs_missing number (None ∷ results) args = list_any (holds number) args || needs_missing (number + 1) results args

module _ (m : Source) (results : List (Option Value)) where
  -- A command that failed or misfits; one that was called though a call before it in its part has an unknown outcome,
  -- or though a result that it needs is not there; one of unknown outcome on whose result the next state depends.
  abbrev pub is_broken : (ended : Bool) → Command → Reply → Bool
  is_broken ended c (Answered v) = ended || needs_missing 1 results c.args
  is_broken ended c Misfit = true
  is_broken ended c Failed = true
  is_broken ended c NotRun = false
  is_broken ended c Unknown = ended || (needs_missing 1 results c.args || next_names_result m c.op)

  -- the least number of such a command of a part whose first command has the number
  abbrev pub part_broken : ℕ → (ended : Bool) → List Command → List Reply → Option ℕ
  part_broken number ended [] rs = None
  part_broken number ended (c ∷ cs) [] = None
  part_broken number ended (c ∷ cs) (r ∷ rs) =
      if is_broken ended c r then Some number else part_broken (number + 1) (ended || is_unknown r) cs rs

  abbrev pub branches_broken : ℕ → List (List Command) → List (List Reply) → Option ℕ
  branches_broken number [] rs = None
  branches_broken number (b ∷ bs) [] = None
  branches_broken number (b ∷ bs) (r ∷ rs) =
      or_else (part_broken number false b r) (branches_broken (number + length b) bs rs)

  -- the least number of a broken command
  abbrev pub broken_among : Case → History → Option ℕ
  broken_among c h =
      or_else (part_broken 1 false c.prefix h.prefix)
      (or_else (branches_broken (1 + length c.prefix) c.branches h.branches)
      (part_broken (1 + before_suffix c) false c.suffix h.suffix))

abbrev pub broken_command : Source → Case → History → Option ℕ
broken_command m c h = broken_among m (recorded h) c h

-- ---- calls

-- a call of unknown outcome: its variable is in place of its result
abbrev pub unknown_event : List (Option Value) → ℕ → Command → Event
unknown_event results number c = record {
  number = number;
  op = c.op;
  args = map (substituted results) c.args;
  result = Var number;
  reference = Var number;
}

abbrev pub is_variable_at : Value-F Value → Bool
is_variable_at (Value-F.Var n) = true
is_variable_at _ = false

abbrev pub is_variable : Value → Bool
is_variable v = is_variable_at (out-Value v)

abbrev pub has_unknown_outcome : Event → Bool
has_unknown_outcome e = is_variable e.reference

-- the calls of a part that have values; commands that were not run are left out
abbrev pub known_events : List (Option Value) → ℕ → List Command → List Reply → List Event
known_events results number [] rs = []
known_events results number (c ∷ cs) [] = []
known_events results number (c ∷ cs) (Answered r ∷ rs) =
    event_of results number c r ∷ known_events results (number + 1) cs rs
known_events results number (c ∷ cs) (Misfit ∷ rs) = known_events results (number + 1) cs rs
known_events results number (c ∷ cs) (Failed ∷ rs) = known_events results (number + 1) cs rs
known_events results number (c ∷ cs) (NotRun ∷ rs) = known_events results (number + 1) cs rs
known_events results number (c ∷ cs) (Unknown ∷ rs) = known_events results (number + 1) cs rs

-- those of unknown outcome
abbrev pub unknown_events : List (Option Value) → ℕ → List Command → List Reply → List Event
unknown_events results number [] rs = []
unknown_events results number (c ∷ cs) [] = []
unknown_events results number (c ∷ cs) (Answered r ∷ rs) = unknown_events results (number + 1) cs rs
unknown_events results number (c ∷ cs) (Misfit ∷ rs) = unknown_events results (number + 1) cs rs
unknown_events results number (c ∷ cs) (Failed ∷ rs) = unknown_events results (number + 1) cs rs
unknown_events results number (c ∷ cs) (NotRun ∷ rs) = unknown_events results (number + 1) cs rs
unknown_events results number (c ∷ cs) (Unknown ∷ rs) =
    unknown_event results number c ∷ unknown_events results (number + 1) cs rs

-- a branch: the calls with values, and then the one of unknown outcome
abbrev pub branch_calls :
    List (Option Value) → ℕ → List (List Command) → List (List Reply) → List (List Event)
branch_calls results number [] rs = []
branch_calls results number (b ∷ bs) [] = []
branch_calls results number (b ∷ bs) (r ∷ rs) =
    (known_events results number b r ++ unknown_events results number b r)
    ∷ branch_calls results (number + length b) bs rs

-- four branches
abbrev pub to_four : {A : Type 0} → List (List A) → List (List A)
to_four bs = bs ++ replicate (4 - length bs) []

-- The columns of an interleaving: letters 0 to 3 are the branches, 4 is the call of unknown outcome in the prefix, which
-- concurs with all that follows, and 5 is the suffix. One of unknown outcome in the suffix is before no call.
abbrev pub columns : Case → History → List (List Event)
columns c h =
    to_four (branch_calls (recorded h) (1 + length c.prefix) c.branches h.branches)
    ++ unknown_events (recorded h) 1 c.prefix h.prefix
    ∷ known_events (recorded h) (1 + before_suffix c) c.suffix h.suffix
    ∷ []

abbrev pub column_lengths : Case → History → List ℕ
column_lengths c h = map length (columns c h)

abbrev pub known_count : List Event → ℕ
known_count [] = 0
known_count (e ∷ es) = (if has_unknown_outcome e then 0 else 1) + known_count es

-- how many calls of each column have values
abbrev pub known_counts : Case → History → List ℕ
known_counts c h = map known_count (columns c h)

-- the calls of the prefix that have values
abbrev pub known_prefix : Case → History → List Event
known_prefix c h = known_events (recorded h) 1 c.prefix h.prefix
