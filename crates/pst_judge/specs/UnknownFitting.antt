-- What the callbacks may be asked of calls whose outcome may be unknown, and the verdict that their search gives.
use Rattle.std.specs.Prelude.{◌≡◌, ℕ, ◌+◌, ◌<◌, Bool, true, false, List, [], length, map, sum, slice_index, Some, MatchBool}
use Rattle.pst_eval.specs.Names.{next_names_result}
use Rattle.pst_eval.specs.declared.callbacks.FaultPlace.{FaultPlace}
use Rattle.pst_grid.specs.Answers.{IsAnswerAmong}
use Rattle.pst_grid.specs.Merges.{none_done, nothing_follows}
use Rattle.pst_grid.specs.Orders.{IsMergeInOrder}
use Rattle.pst_grid.specs.declared.steps.SomeAnswer.{SomeAnswer}
use Rattle.pst_grid.specs.declared.steps.SomeAnswer.TheVariants.{Found, Faulted as FaultedWord, Nothing}
use Rattle.pst_judge.specs.Replay.{Asking, EventFits, event_at}
use Rattle.pst_judge.specs.Unknown.{column_outcome, effective, suffix_last}
use Rattle.pst_judge.specs.UnknownCalls.{has_unknown_outcome, known_count}
use Rattle.pst_judge.specs.declared.events.Event.{Event}
use Rattle.pst_judge.specs.declared.judgement.Verdict.{Verdict}
use Rattle.pst_judge.specs.declared.judgement.Verdict.TheVariants.{Explained, Faulted, Unexplained, Broken}
use Rattle.pst_judge.specs.declared.unknown_search.Moment.{Moment}
use Rattle.pst_model.specs.Fitting.{args_fit, ref_fits}
use Rattle.pst_model.specs.Parts.{operation_of}
use Rattle.pst_model.specs.WellTyped.{WellModel}
use Rattle.pst_model.specs.declared.model.Op.{Op}
use Rattle.pst_model.specs.declared.model.Source.{Source}
use Rattle.pst_value.specs.Subst.{numbered}
use Rattle.pst_value.specs.declared.ty.Ty.{Ty}
use Rattle.pst_value.specs.declared.value.Value.{Value}

-- the arguments fit, the variable is that of the command of a number, a result of the operation, and the next state does
-- not depend on it
pub record UnknownFits (m : Source) (vars : List Ty) (e : Event) : Type 0 where
  pub arguments : args_fit m [] vars e.op e.args ≡ true
  pub reference : ref_fits m vars vars e.op e.reference ≡ true
  pub unnamed : next_names_result m e.op ≡ false
  pub number : ℕ
  pub operation : Op
  pub is : operation_of m.items e.op ≡ Some operation
  pub place : numbered vars number ≡ Some operation.result
  pub well : WellModel m

abbrev pub CallFits : Source → List Ty → Event → Type 0
CallFits m vars e = MatchBool (has_unknown_outcome e) (UnknownFits m vars e) (EventFits m vars e)

-- the verdict that an answer of the search stands for, where so many events are before those that it counts
abbrev pub IsOfAnswer : (knowns : List ℕ) → (prefix : ℕ) → SomeAnswer FaultPlace → Verdict → Type 0
IsOfAnswer knowns prefix (Found word) (Explained letters) =
    letters.items ≡ effective knowns (none_done knowns) word.items
IsOfAnswer knowns prefix (Found word) (Faulted place) = ⊥
IsOfAnswer knowns prefix (Found word) (Unexplained far) = ⊥
IsOfAnswer knowns prefix (Found word) (Broken number) = ⊥
IsOfAnswer knowns prefix (FaultedWord word at place) v = v ≡ Faulted place
IsOfAnswer knowns prefix (Nothing far word) v = v ≡ Unexplained (prefix + far)

-- the moment from which the calls of the columns are searched
abbrev pub start_of : Value → (columns : List (List Event)) → Moment Value
start_of s cols = record { state = s; left = sum (map known_count cols) }

-- the verdict of a search over the words of these columns that are in order, from a state that so many events lead to
abbrev pub IsVerdictOfColumns :
    Source → Asking → (columns : List (List Event)) → (order : List ℕ → ℕ → Bool) → (prefix : ℕ) → Value → Verdict → Type 0
IsVerdictOfColumns m asked cols order prefix s v =
    (answer : SomeAnswer FaultPlace)
    × IsAnswerAmong (column_outcome m asked cols) nothing_follows (map length cols) (start_of s cols)
    (IsMergeInOrder (suffix_last (map known_count cols) order) (map length cols)) answer
    × IsOfAnswer (map known_count cols) prefix answer v

-- each call of the columns fits
abbrev pub ColumnsFit : Source → List Ty → List (List Event) → Type 0
ColumnsFit m vars cols =
    (b i : ℕ) → i < slice_index (map length cols) b
    → (e : Event) × (event_at cols b i ≡ Some e) × CallFits m vars e
