-- The answers that a model allows in place of a recorded one.
use Rattle.std.specs.Prelude.{◌≡◌, ◌==◌, ℕ, not, Bool, true, false, if◌then◌else◌, List, [], ◌∷◌, slice_get, ◌⊎◌, Some, Result, Ok, Err}
use Rattle.std.specs.List.{All, list_any}
use Rattle.pst_case.specs.declared.case.Case.{Case}
use Rattle.pst_case.specs.declared.history.History.{History}
use Rattle.pst_eval.specs.Callbacks.{post_of}
use Rattle.pst_judge.specs.Replay.{Asking, event_at, prefix_events, branch_events, suffix_events}
use Rattle.pst_judge.specs.declared.events.Event.{Event}
use Rattle.pst_model.specs.declared.model.Source.{Source}
use Rattle.pst_operators.specs.Answers.{Stops}
use Rattle.pst_operators.specs.Operators.{truth_of}
use Rattle.pst_operators.specs.Outcome.{Outcome, Gives, Faults, Stuck, and_then}
use Rattle.pst_operators.specs.declared.stop.Stop.{Stop}
use Rattle.pst_reasons.specs.Reasons.{asks, IsTrueInOrder}
use Rattle.pst_value.specs.Equality.{same_value}
use Rattle.pst_value.specs.declared.fault.Fault.{Fault}
use Rattle.pst_value.specs.declared.value.Value.{Value, Bool as Truth}

-- ---- one event

-- what is not well typed is not right
abbrev pub or_false : Outcome Bool → Outcome Bool
or_false (Gives b) = Gives b
or_false (Faults why) = Faults why
or_false Stuck = Gives false

-- whether an answer would have been right for an event on the state before it: the postcondition with the
-- answer in place of the recorded result. A fault stays a fault.
abbrev pub is_right : Source → Value → Event → Value → Outcome Bool
is_right m s e answer = or_false (and_then (post_of m e.op s e.args answer) (λ p. truth_of p.0))

-- whether one of these answers would have been right, where they are asked in turn
abbrev pub one_is_right : Source → Value → Event → List Value → Outcome Bool
one_is_right m s e [] = Gives false
one_is_right m s e (answer ∷ answers) =
    and_then (is_right m s e answer) (λ right. if right then Gives true else one_is_right m s e answers)

-- whether none would have been
abbrev pub none_is_right : Source → Value → Event → List Value → Outcome Bool
none_is_right m s e answers = and_then (one_is_right m s e answers) (λ right. Gives (not right))

-- ---- lists of answers

abbrev pub is_one_of : Value → List Value → Bool
is_one_of answer answers = list_any (λ a. same_value a answer) answers

-- no answer stands twice
abbrev pub AreDistinct : List Value → Type 0
AreDistinct [] = Unit {0}
AreDistinct (answer ∷ answers) = (is_one_of answer answers ≡ false) × AreDistinct answers

-- ---- what is asked

-- a truth value, as a postcondition gives it
abbrev pub as_asked : Outcome Bool → Outcome (Value × ℕ)
as_asked o = and_then o (λ b. Gives (Truth b, 0))

-- this of the command with the number; of the others what they answered; of the rest nothing
abbrev pub asks_at : ℕ → (Value → Event → Outcome Bool) → List ℕ → Source → Asking
asks_at number test others m s e = if e.number == number then as_asked (test s e) else asks others m s e

-- of the command with the number its postcondition with this answer in place of its recorded result
abbrev pub asks_instead : ℕ → Value → List ℕ → Source → Asking
asks_instead number answer others m = asks_at number (λ s e. is_right m s e answer) others m

-- of the command with the number that its postcondition is false with each of these answers
abbrev pub asks_none_of : ℕ → List Value → List ℕ → Source → Asking
asks_none_of number answers others m = asks_at number (λ s e. none_is_right m s e answers) others m

-- ---- allowed answers

-- where only the merges in order count
module _ (m : Source) (order : List ℕ → ℕ → Bool) (c : Case) (h : History) (others : List ℕ) (number : ℕ) where
  -- a merge in which the others are right, and the command would be with this answer
  abbrev pub IsRightIn : Value → List ℕ → Type 0
  IsRightIn answer word = IsTrueInOrder m order c h (asks_instead number answer others m) word

  -- the model allows the answer: in some merge in which the others are right, it would have been right
  abbrev pub IsAllowed : Value → Type 0
  IsAllowed answer = (word : List ℕ) × IsRightIn answer word

  -- answers that the model allows, none of them twice
  abbrev pub AreAllowedOnce : List Value → Type 0
  AreAllowedOnce answers = All IsAllowed answers × AreDistinct answers

  -- a merge in which the others are right, and the command would be with none of these answers
  abbrev pub IsBeyond : List Value → List ℕ → Type 0
  IsBeyond answers word = IsTrueInOrder m order c h (asks_none_of number answers others m) word

  -- the model allows no more answers than are right by these: in each merge in which the others are right,
  -- one of these answers would have been right for the command, or its postcondition faults with one
  abbrev pub AreAll : List Value → Type 0
  AreAll answers = (word : List ℕ) → IsBeyond answers word → ⊥

  -- whether they are all; else there is a merge beyond them
  abbrev pub IsWhetherAll : Bool → List Value → Type 0
  IsWhetherAll true answers = AreAll answers
  IsWhetherAll false answers = (word : List ℕ) × IsBeyond answers word

  -- each answer that the model allows is one of these
  abbrev pub HaveEachAllowed : List Value → Type 0
  HaveEachAllowed answers = (answer : Value) → IsAllowed answer → is_one_of answer answers ≡ true

  -- whether the model allows the answer
  abbrev pub IsWhetherAllowed : Bool → Value → Type 0
  IsWhetherAllowed true answer = IsAllowed answer
  IsWhetherAllowed false answer = IsAllowed answer → ⊥

-- ---- one right answer

-- an event of the history
abbrev pub IsEvent : Case → History → Event → Type 0
IsEvent c h e =
    ((i : ℕ) × (slice_get (prefix_events c h) i ≡ Some e))
    ⊎ ((b : ℕ) × (i : ℕ) × (event_at (branch_events c h) b i ≡ Some e))
    ⊎ ((i : ℕ) × (slice_get (suffix_events c h) i ≡ Some e))

-- on each state at most one answer of the command is right, and where one is, each other is wrong: as where its
-- postcondition is `(= r e)`, and `e` does not name `r` (`EqualityHasOneAnswer`)
abbrev pub HasOneAnswer : Source → Case → History → ℕ → Type 0
HasOneAnswer m c h number =
    (s : Value) (e : Event) (answer other : Value) → IsEvent c h e → e.number ≡ number
    → is_right m s e answer ≡ Gives true → (other ≡ answer → ⊥) → is_right m s e other ≡ Gives false

-- ---- what the functions within the crate answer

-- what a postcondition gives, with any number of turns left
abbrev pub PostGives : Outcome (Value × ℕ) → Result Value Stop → Type 0
PostGives o (Ok v) = (left : ℕ) × (o ≡ Gives (v, left))
PostGives o (Err why) = Stops o why

-- a truth value, or the fault that it ends in
abbrev pub IsReportOf : Outcome Bool → Result Bool Fault → Type 0
IsReportOf o (Ok b) = o ≡ Gives b
IsReportOf o (Err why) = o ≡ Faults why
