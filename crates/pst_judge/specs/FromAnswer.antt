-- The verdict that an answer of the search stands for.
use Rattle.std.specs.Prelude.{◌≡◌, ℕ, ◌+◌, Bool, List, [], take}
use Rattle.pst_eval.specs.declared.callbacks.FaultPlace.{FaultPlace}
use Rattle.pst_grid.specs.Answers.{IsAnswerAmong}
use Rattle.pst_grid.specs.Orders.{IsMergeInOrder}
use Rattle.pst_grid.specs.declared.steps.SomeAnswer.{SomeAnswer}
use Rattle.pst_grid.specs.declared.steps.SomeAnswer.TheVariants.{Found, Faulted as FaultedWord, Nothing}
use Rattle.pst_judge.specs.Replay.{Asking, branch_outcome_asking}
use Rattle.pst_judge.specs.Running.{last_events}
use Rattle.pst_judge.specs.declared.events.Event.{Event}
use Rattle.pst_judge.specs.declared.judgement.Verdict.{Verdict}
use Rattle.pst_judge.specs.declared.judgement.Verdict.TheVariants.{Explained, Faulted, Unexplained}
use Rattle.pst_model.specs.declared.model.Source.{Source}
use Rattle.pst_value.specs.declared.value.Value.{Value}

-- so many events of the prefix are counted with those that the search counts
abbrev pub verdict_of : (prefix : ℕ) → SomeAnswer FaultPlace → Verdict
verdict_of prefix (Found word) = Explained word
verdict_of prefix (FaultedWord word at place) = Faulted place
verdict_of prefix (Nothing far word) = Unexplained (prefix + far)

-- the letters of the true events of the merge that an answer names, where it is not all true
abbrev pub letters_of : SomeAnswer FaultPlace → List ℕ
letters_of (Found word) = []
letters_of (FaultedWord word at place) = take at word.items
letters_of (Nothing far word) = take far word.items

-- the verdict of a search over the merges in order of branches with these events, from a state that so many
-- events lead to, and with these events behind each merge; and the letters of its merge
abbrev pub IsVerdictOfSearch :
    Source → Asking → (branches : List (List Event)) → (suffix : List Event)
    → (order : List ℕ → ℕ → Bool) → (lengths : List ℕ) → (prefix : ℕ) → Value → Verdict → (letters : List ℕ) → Type 0
IsVerdictOfSearch m asked branches suffix order lengths prefix s v letters =
    (answer : SomeAnswer FaultPlace)
    × IsAnswerAmong (branch_outcome_asking m asked branches) (last_events m asked suffix) lengths s
    (IsMergeInOrder order lengths) answer
    × (v ≡ verdict_of prefix answer)
    × (letters ≡ letters_of answer)

-- a fact of the events that an answer counts, where it finds no merge
abbrev pub OnNothing : SomeAnswer FaultPlace → (ℕ → Type 0) → Type 0
OnNothing (Found word) P = Unit {0}
OnNothing (FaultedWord word at place) P = Unit {0}
OnNothing (Nothing far word) P = P far
