-- How events that are replayed in turn end, and what the callbacks may be asked of them.
use Rattle.std.specs.Prelude.{◌≡◌, ◌<◌, ℕ, suc, true, List, [], ◌∷◌, slice_index, Some}
use Rattle.pst_case.specs.Shape.{result_types}
use Rattle.pst_case.specs.declared.case.Case.{Case}
use Rattle.pst_eval.specs.declared.callbacks.FaultPlace.{FaultPlace}
use Rattle.pst_grid.specs.declared.steps.Ending.{Ending}
use Rattle.pst_grid.specs.declared.steps.Ending.TheVariants.{AllTrue, StopsAt}
use Rattle.pst_grid.specs.declared.steps.StepOutcome.{StepOutcome}
use Rattle.pst_grid.specs.declared.steps.StepOutcome.TheVariants.{Next, Stop}
use Rattle.pst_judge.specs.Replay.{Asking, EventFits, outcome_asking, event_at, branch_lengths, run_asking}
use Rattle.pst_judge.specs.declared.events.Event.{Event}
use Rattle.pst_judge.specs.declared.replay.EventsEnd.{EventsEnd}
use Rattle.pst_judge.specs.declared.replay.EventsEnd.TheVariants.{Through, Stopped}
use Rattle.pst_model.specs.Fitting.{is_state}
use Rattle.pst_model.specs.declared.model.Source.{Source}
use Rattle.pst_value.specs.declared.ty.Ty.{Ty}
use Rattle.pst_value.specs.declared.value.Value.{Value}

-- with one true event more before it
abbrev pub counted : EventsEnd → EventsEnd
counted (Through s) = Through s
counted (Stopped at why) = Stopped (suc at) why

abbrev pub end_after : StepOutcome Value FaultPlace → (Value → EventsEnd) → EventsEnd
end_after (Next s) rest = counted (rest s)
end_after (Stop why) rest = Stopped 0 why

-- how events end from a state
abbrev pub events_end : Source → Asking → List Event → Value → EventsEnd
events_end m asked [] s = Through s
events_end m asked (e ∷ es) s =
    end_after (outcome_asking m asked s e) (λ next. events_end m asked es next)

-- how the run ends whose last events these are
abbrev pub last_events : Source → Asking → List Event → Value → Ending FaultPlace
last_events m asked es s = run_asking m asked es s (λ last. AllTrue)

-- how the run ends whose last events end so
abbrev pub ending_of : EventsEnd → Ending FaultPlace
ending_of (Through s) = AllTrue
ending_of (Stopped at why) = StopsAt at why

-- a state of a run of the case with recorded results
abbrev pub IsRealState : Source → Case → Value → Type 0
IsRealState m c s = is_state m [] (result_types m c) s ≡ true

-- what the callbacks may be asked of each event
abbrev pub EventsFit : Source → List Ty → List Event → Type 0
EventsFit m vars [] = Unit {0}
EventsFit m vars (e ∷ es) = EventFits m vars e × EventsFit m vars es

abbrev pub OnThrough : EventsEnd → (Value → Type 0) → Type 0
OnThrough (Through s) P = P s
OnThrough (Stopped at why) P = Unit {0}

abbrev pub OnStopped : EventsEnd → (ℕ → Type 0) → Type 0
OnStopped (Through s) P = Unit {0}
OnStopped (Stopped at why) P = P at

-- each command of each branch has an event, of which the callbacks may be asked
abbrev pub BranchesFit : Source → Case → List (List Event) → Type 0
BranchesFit m c branches =
    (b i : ℕ) → i < slice_index (branch_lengths c) b
    → (e : Event) × (event_at branches b i ≡ Some e) × EventFits m (result_types m c) e
