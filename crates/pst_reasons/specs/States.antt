-- The states of an interleaving.
use Rattle.std.specs.Prelude.{◌≡◌, ℕ, List, [], ◌∷◌, length, slice_index, nat_le, if◌then◌else◌, Option, Some, None}
use Rattle.pst_case.specs.Shape.{joined}
use Rattle.pst_case.specs.declared.case.Case.{Case}
use Rattle.pst_case.specs.declared.history.History.{History}
use Rattle.pst_eval.specs.Callbacks.{init_of}
use Rattle.pst_eval.specs.declared.callbacks.FaultPlace.{FaultPlace}
use Rattle.pst_grid.specs.Merges.{none_done, one_more}
use Rattle.pst_grid.specs.declared.steps.StepOutcome.{StepOutcome}
use Rattle.pst_grid.specs.declared.steps.StepOutcome.TheVariants.{Next, Stop}
use Rattle.pst_judge.specs.Replay.{Asking, EventFits, event_at, outcome_asking, branch_outcome_asking, prefix_events, branch_events, suffix_events, branch_lengths}
use Rattle.pst_judge.specs.declared.events.Event.{Event}
use Rattle.pst_model.specs.declared.model.Source.{Source}
use Rattle.pst_operators.specs.Outcome.{Outcome, Gives, Faults, Stuck}
use Rattle.pst_value.specs.declared.ty.Ty.{Ty}
use Rattle.pst_value.specs.declared.value.Value.{Value}

-- the state after a turn, and the rest; none where it stops
abbrev pub states_after : StepOutcome Value FaultPlace → (Value → List Value) → List Value
states_after (Next s) rest = s ∷ rest s
states_after (Stop why) rest = []

-- the states after each of these events in turn, as far as what is asked of them is true, and then the rest
abbrev pub event_states : Source → Asking → List Event → Value → (Value → List Value) → List Value
event_states m asked [] s rest = rest s
event_states m asked (e ∷ es) s rest =
    states_after (outcome_asking m asked s e) (λ next. event_states m asked es next rest)

-- the states after the event of each letter in turn, as far as they are true, and then the rest
abbrev pub word_states :
    (Value → ℕ → ℕ → StepOutcome Value FaultPlace) → (done : List ℕ) → Value → List ℕ → (Value → List Value) → List Value
word_states turn done s [] rest = rest s
word_states turn done s (b ∷ w) rest =
    states_after (turn s b (slice_index done b)) (λ next. word_states turn (one_more done b) next w rest)

-- the initial state and the rest; none where `init` faults
abbrev pub opening_states : Outcome (Value × ℕ) → (Value → List Value) → List Value
opening_states (Gives p) rest = p.0 ∷ rest p.0
opening_states (Faults k) rest = []
opening_states Stuck rest = []

-- the states of branches with these events, and of the suffix behind a word that has all letters
abbrev pub branch_states :
    Source → Asking → Case → (branches : List (List Event)) → (suffix : List Event) → List ℕ → Value
    → List Value
branch_states m asked c branches suffix word s =
    word_states (branch_outcome_asking m asked branches) (none_done (branch_lengths c)) s word
    (λ last. if nat_le (length (joined c.branches)) (length word)
    then event_states m asked suffix last (λ end. []) else [])

-- the states of an interleaving, as far as what is asked of its events is true: the initial state, and the
-- state after each event of the prefix, of the word, and, where the word has a letter for each command of the
-- branches, of the suffix
abbrev pub states_of : Source → Asking → Case → History → List ℕ → List Value
states_of m asked c h word =
    opening_states (init_of m)
    (λ s. event_states m asked (prefix_events c h) s
    (λ s'. branch_states m asked c (branch_events c h) (suffix_events c h) word s'))

-- the rest from the last state, if there is one
abbrev pub onward : Option Value → (Value → List Value) → List Value
onward None rest = []
onward (Some s) rest = rest s

-- the callbacks may be asked of each event of each branch
abbrev pub AllFit : Source → List Ty → List (List Event) → Type 0
AllFit m vars branches =
    (b i : ℕ) (e : Event) → event_at branches b i ≡ Some e → EventFits m vars e

-- a fact of the last state, if there is one
abbrev pub OnLast : Option Value → (Value → Type 0) → Type 0
OnLast None P = Unit {0}
OnLast (Some s) P = P s
