-- Times that fit the calls of the branches.
use Rattle.std.specs.Prelude.{◌≡◌, ◌==◌, ◌&&◌, ◌+◌, ℕ, nat_le, Bool, true, false, List, [], ◌∷◌, length, map, Option, Some, None, IfSome}
use Rattle.pst_case.specs.declared.history.CallTime.{CallTime}
use Rattle.pst_case.specs.declared.history.History.{History}
use Rattle.pst_case.specs.declared.history.Reply.{Reply}
use Rattle.pst_case.specs.declared.history.Reply.TheVariants.{Value as Answered, Misfit, Failed, NotRun, Unknown}

abbrev pub calls_of : Reply → ℕ
calls_of (Answered v) = 1
calls_of Misfit = 1
calls_of Failed = 1
calls_of NotRun = 0
calls_of Unknown = 1

-- how many of the commands with these replies were called
abbrev pub called : List Reply → ℕ
called [] = 0
called (r ∷ rs) = calls_of r + called rs

abbrev pub is_no_later : ℕ → Option ℕ → Bool
is_no_later at None = true
is_no_later at (Some completed) = nat_le at completed

-- a call did not complete before it was invoked
abbrev pub is_timely : CallTime → Bool
is_timely call = is_no_later call.invoked call.completed

-- a completion no later than a time
abbrev pub is_over_by : Option ℕ → ℕ → Bool
is_over_by None at = false
is_over_by (Some completed) at = nat_le completed at

abbrev pub is_over_by_first : CallTime → List CallTime → Bool
is_over_by_first call [] = true
is_over_by_first call (next ∷ others) = is_over_by call.completed next.invoked

-- no call completed before it was invoked, and each is over when the next is invoked
abbrev pub are_in_turn : List CallTime → Bool
are_in_turn [] = true
are_in_turn (call ∷ others) = is_timely call && is_over_by_first call others && are_in_turn others

-- a list for each branch with so many calls, a time for each call, and those of a branch in turn
unfoldable pub fit : List ℕ → List (List CallTime) → Bool
fit [] [] = true
fit [] (calls ∷ times) = false
fit (count ∷ counts) [] = false
fit (count ∷ counts) (calls ∷ times) =
    (length calls == count) && are_in_turn calls && fit counts times

-- the times of a history, where it has any, fit its calls
abbrev pub AreTimed : History → Type 0
AreTimed h = IfSome h.times (λ times. fit (map called h.branches) times ≡ true)
