-- The order in time: a call that completed before another was invoked comes before it.
use Rattle.std.specs.Prelude.{◌≡◌, ℕ, zero, suc, ◌≤◌, nat_lt, List, length, slice_get, slice_index, Bool, true, false, not, ◌||◌, Option, Some, None, MatchOption}
use Rattle.pst_grid.specs.Orders.{NeverBlocks}
use Rattle.pst_case.specs.declared.history.CallTime.{CallTime}

-- a completion was before this time; no completion is before any
abbrev pub is_over : Option ℕ → ℕ → Bool
is_over None at = false
is_over (Some t) at = nat_lt t at

-- a call precedes another if it completed before the other was invoked
abbrev pub precedes : CallTime → CallTime → Bool
precedes x y = is_over x.completed y.invoked

-- the call by its index, if the branch has it
abbrev pub call_in : Option (List CallTime) → Option ℕ → Option CallTime
call_in None i = None
call_in (Some v) None = None
call_in (Some v) (Some i) = slice_get v i

-- the next call of a branch
abbrev pub next_of : List (List CallTime) → List ℕ → ℕ → Option CallTime
next_of branches done b = call_in (slice_get branches b) (slice_get done b)

-- the call precedes the other
abbrev pub one_precedes : Option CallTime → CallTime → Bool
one_precedes None y = false
one_precedes (Some x) y = precedes x y

-- the next call of one of the first n branches does
abbrev pub some_precedes : (ℕ → Option CallTime) → ℕ → CallTime → Bool
some_precedes next zero y = false
some_precedes next (suc n) y = one_precedes (next n) y || some_precedes next n y

-- no branch's next call precedes the call
abbrev pub may_come : (ℕ → Option CallTime) → ℕ → Option CallTime → Bool
may_come next n None = true
may_come next n (Some y) = not (some_precedes next n y)

-- a branch is open unless some branch's next call precedes its own
abbrev pub real_time : List (List CallTime) → List ℕ → ℕ → Bool
real_time branches done b = may_come (next_of branches done) (length branches) (next_of branches done b)

-- how many calls the branch has
abbrev pub count_of : Option (List CallTime) → ℕ
count_of None = 0
count_of (Some v) = length v

-- the branches have these lengths
abbrev pub AreLengths : List (List CallTime) → List ℕ → Type 0
AreLengths branches lengths = (b : ℕ) → slice_index lengths b ≡ count_of (slice_get branches b)

-- no call completed before it was invoked
abbrev pub IsTimely : CallTime → Type 0
IsTimely x = MatchOption x.completed (Unit {0}) (λ t. x.invoked ≤ t)

abbrev pub AreTimely : List (List CallTime) → Type 0
AreTimely branches =
    (b i : ℕ) (x : CallTime) → call_in (slice_get branches b) (Some i) ≡ Some x → IsTimely x

-- where no call completed before it was invoked, real time never blocks
abbrev pub RealTimeNeverBlocks : Type 0
RealTimeNeverBlocks = (branches : List (List CallTime)) (lengths : List ℕ)
    → AreLengths branches lengths → AreTimely branches → NeverBlocks (real_time branches) lengths
