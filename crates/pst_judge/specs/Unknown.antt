-- The verdict on a history in which some calls have an unknown outcome: each of them may have taken effect at any time
-- after the calls before it in its part, also among the calls of the suffix, or not at all.
use Rattle.std.specs.Prelude.{◌≡◌, ℕ, ◌-◌, ◌≤◌, ◌==◌, nat_le, not, Bool, true, false, ◌&&◌, ◌||◌, if◌then◌else◌, List, [], ◌∷◌, take, sum, Option, Some, None}
use Rattle.pst_case.specs.declared.case.Case.{Case}
use Rattle.pst_case.specs.declared.history.History.{History}
use Rattle.pst_eval.specs.Callbacks.{init_of, next_of}
use Rattle.pst_eval.specs.declared.callbacks.FaultPlace.{FaultPlace}
use Rattle.pst_grid.specs.Merges.{IsLeast, none_done, nothing_follows, one_more, run}
use Rattle.pst_grid.specs.Orders.{IsMergeInOrder}
use Rattle.pst_grid.specs.declared.steps.Ending.{Ending}
use Rattle.pst_grid.specs.declared.steps.Ending.TheVariants.{AllTrue, StopsAt}
use Rattle.pst_grid.specs.declared.steps.StepOutcome.{StepOutcome}
use Rattle.pst_grid.specs.declared.steps.StepOutcome.TheVariants.{Next, Stop}
use Rattle.pst_grid.specs.declared.steps.StopReason.TheVariants as why
use Rattle.pst_judge.specs.Replay.{Asking, post_asked, from_opening, run_asking, outcome_asking, event_at}
use Rattle.pst_judge.specs.UnknownCalls.{broken_command, has_unknown_outcome, columns, column_lengths, known_counts, known_prefix}
use Rattle.pst_judge.specs.declared.events.Event.{Event}
use Rattle.pst_judge.specs.declared.judgement.Verdict.{Verdict}
use Rattle.pst_judge.specs.declared.judgement.Verdict.TheVariants.{Explained, Faulted, Unexplained, Broken}
use Rattle.pst_judge.specs.declared.unknown_search.Moment.{Moment}
use Rattle.pst_model.specs.declared.model.Source.{Source}
use Rattle.pst_operators.specs.Outcome.{Outcome, Gives, Faults, Stuck}
use Rattle.pst_value.specs.declared.value.Value.{Value}

-- ---- one call

-- A moment of a replay is a state, with how many calls with values are left.
abbrev pub MomentOutcome : Type 0
MomentOutcome = StepOutcome (Moment Value) FaultPlace

-- after a call with a value
abbrev pub after_known : ℕ → StepOutcome Value FaultPlace → MomentOutcome
after_known left (Next s) = Next (record { state = s; left = left - 1 })
after_known left (Stop reason) = Stop reason

-- after a call of unknown outcome: where `next` faults it cannot have taken effect
abbrev pub after_unknown : ℕ → Outcome (Value × ℕ) → MomentOutcome
after_unknown left (Gives p) = Next (record { state = p.0; left = left })
after_unknown left (Faults k) = Stop why.False
after_unknown left Stuck = Stop why.False

-- a call of unknown outcome takes effect if a call with a value is left, and else it took none; nothing is asked of it
abbrev pub unknown_outcome : Source → Moment Value → Event → MomentOutcome
unknown_outcome m t e =
    if t.left == 0 then Next t else after_unknown t.left (next_of m e.op t.state e.args e.reference)

module _ (m : Source) (asked : Asking) where
  -- a call with a value must be true, and then comes the next state
  abbrev pub call_outcome : Moment Value → Event → MomentOutcome
  call_outcome t e =
      if has_unknown_outcome e then unknown_outcome m t e
      else after_known t.left (outcome_asking m asked t.state e)

  abbrev pub outcome_of_call : Moment Value → Option Event → MomentOutcome
  outcome_of_call t None = Stop why.False
  outcome_of_call t (Some e) = call_outcome t e

  -- the next call of a column
  abbrev pub column_outcome : List (List Event) → Moment Value → ℕ → ℕ → MomentOutcome
  column_outcome cols t b i = outcome_of_call t (event_at cols b i)

-- ---- words of columns

-- done counts that reach these
abbrev pub are_reached : List ℕ → List ℕ → Bool
are_reached [] done = true
are_reached (n ∷ ns) [] = false
are_reached (n ∷ ns) (d ∷ done) = nat_le n d && are_reached ns done

-- the order with the suffix after the calls of the branches that have values
abbrev pub suffix_last : (knowns : List ℕ) → (List ℕ → ℕ → Bool) → List ℕ → ℕ → Bool
suffix_last knowns order done b = order done b && (not (b == 5) || are_reached (take 4 knowns) done)

abbrev pub calls_order : (List ℕ → ℕ → Bool) → Case → History → List ℕ → ℕ → Bool
calls_order order c h = suffix_last (known_counts c h) order

-- the calls in an order: each letter is the next call of its column
abbrev pub IsWordOfCalls : (List ℕ → ℕ → Bool) → Case → History → List ℕ → Type 0
IsWordOfCalls order c h = IsMergeInOrder (calls_order order c h) (column_lengths c h)

-- the letters up to the last call with a value: the others took no effect
abbrev pub effective : (knowns : List ℕ) → (done : List ℕ) → List ℕ → List ℕ
effective knowns done [] = []
effective knowns done (b ∷ word) =
    if are_reached knowns done then [] else b ∷ effective knowns (one_more done b) word

-- how the replay of a word of calls ends, from the initial state, with the calls of the prefix that have values before it
unfoldable pub replayed_calls : Source → Asking → Case → History → List ℕ → Ending FaultPlace
replayed_calls m asked c h word =
    from_opening (init_of m)
    (λ s. run_asking m asked (known_prefix c h) s
    (λ s'. run (column_outcome m asked (columns c h)) nothing_follows (none_done (column_lengths c h))
    (record { state = s'; left = sum (known_counts c h) }) word))

-- ---- verdicts

module _ (m : Source) (asked : Asking) (order : List ℕ → ℕ → Bool) (c : Case) (h : History) where
  -- a word of calls whose replay ends so
  abbrev pub CallsEnd : Ending FaultPlace → List ℕ → Type 0
  CallsEnd e word = IsWordOfCalls order c h word × (replayed_calls m asked c h word ≡ e)

  -- a word of calls whose replay faults
  abbrev pub CallsFault : List ℕ → Type 0
  CallsFault word =
      IsWordOfCalls order c h word
      × ((n : ℕ) × (p : FaultPlace) × (replayed_calls m asked c h word ≡ StopsAt n (why.Fault p)))

  -- explained: the letters of the least word that is all true, up to its last call with a value
  -- faulted: no word is all true, and the least that faults does so at this place
  -- unexplained: no word is all true and none faults, and the most calls before a false one are so many
  abbrev pub IsJudgedOfCalls : Verdict → Type 0
  IsJudgedOfCalls (Explained word) =
      (whole : List ℕ) × IsLeast (CallsEnd AllTrue) whole
      × (word.items ≡ effective (known_counts c h) (none_done (known_counts c h)) whole)
  IsJudgedOfCalls (Faulted place) =
      ((v : List ℕ) → CallsEnd AllTrue v → ⊥)
      × ((word : List ℕ)
      × IsLeast CallsFault word
      × ((n : ℕ) × (replayed_calls m asked c h word ≡ StopsAt n (why.Fault place))))
  IsJudgedOfCalls (Unexplained far) =
      ((v : List ℕ) → CallsEnd AllTrue v → ⊥)
      × ((v : List ℕ) → CallsFault v → ⊥)
      × ((v : List ℕ) × CallsEnd (StopsAt far why.False) v)
      × ((v : List ℕ) (n : ℕ) → CallsEnd (StopsAt n why.False) v → n ≤ far)
  IsJudgedOfCalls (Broken number) = ⊥

  abbrev pub IsVerdictOfCallsOf : Option ℕ → Verdict → Type 0
  IsVerdictOfCallsOf (Some number) v = v ≡ Broken number
  IsVerdictOfCallsOf None v = IsJudgedOfCalls v

  -- broken at the least broken command; else by the replays of all words of calls
  abbrev pub IsVerdictOfCalls : Verdict → Type 0
  IsVerdictOfCalls v = IsVerdictOfCallsOf (broken_command m c h) v

-- where each postcondition is asked
abbrev pub IsVerdictWithUnknown : Source → (List ℕ → ℕ → Bool) → Case → History → Verdict → Type 0
IsVerdictWithUnknown m = IsVerdictOfCalls m (post_asked m)
