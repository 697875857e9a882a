-- The times that lists of times spell, for the calls of a history.
use Rattle.std.specs.Prelude.{◌==◌, ◌&&◌, ◌||◌, ◌+◌, ℕ, Bool, true, false, not, if◌then◌else◌, List, [], ◌∷◌, length, Option, Some, None, Result, Ok, Err, codes}
use Rattle.std.specs.Option.{option_map}
use Rattle.std.specs.Str.{bytes_eq}
use Rattle.pst_case.specs.Times.{called, is_timely, is_over_by}
use Rattle.pst_case.specs.Unknown.{is_unknown, is_open}
use Rattle.pst_case.specs.declared.history.CallTime.{CallTime}
use Rattle.pst_case.specs.declared.history.History.{History}
use Rattle.pst_case.specs.declared.history.Reply.{Reply}
use Rattle.pst_case.specs.declared.history.Reply.TheVariants.{Value as Answered, Misfit, Failed, NotRun, Unknown}
use Rattle.pst_runs.specs.Replies.{◌>>=◌, then_more, or_number, listed}
use Rattle.pst_sexpr.specs.Integers.{are_digits, magnitude, in_u64}
use Rattle.pst_sexpr.specs.Parts.{and_then, where_true, word_of, node_of}
use Rattle.pst_sexpr.specs.declared.form.Form.{Form}

-- ---- one time

-- `0` before other digits
abbrev pub has_leading_zero : List ℕ → Bool
has_leading_zero [] = false
has_leading_zero (first ∷ []) = false
has_leading_zero (first ∷ next ∷ digits) = first == 48

-- the number of at most 64 bits that digits spell in their shortest form
abbrev pub instant_of : List ℕ → Option ℕ
instant_of word = if are_digits word && not (has_leading_zero word) then in_u64 (magnitude 0 word) else None

-- `-` if the call is not known to have completed
abbrev pub completion_of : List ℕ → Option (Option ℕ)
completion_of word = if bytes_eq word (codes "-") then Some None else option_map Some (instant_of word)

abbrev pub time_in : List Form → Option CallTime
time_in (invoked ∷ completed ∷ []) =
    and_then (and_then (word_of invoked) instant_of) (λ i.
    and_then (and_then (word_of completed) completion_of) (λ c. Some (record { invoked = i; completed = c })))
time_in _ = None

-- `(INVOKED COMPLETED)` or `(INVOKED -)`
abbrev pub time_of : Form → Option CallTime
time_of form = and_then (node_of form) time_in

-- ---- the times of a branch

-- a call that was over before any other
abbrev pub at_first : CallTime
at_first = record { invoked = 0; completed = Some 0 }

-- a call that did not complete before it was invoked, and before it another one that was over by then
abbrev pub is_in_turn : (before next : CallTime) → Bool
is_in_turn before next = is_timely next && is_over_by before.completed next.invoked

-- a call of unknown outcome has no completion
abbrev pub may_have_time : Reply → CallTime → Bool
may_have_time r t = not (is_unknown r) || is_open t

-- behind a call, the time of a call with the reply
abbrev pub may_follow : (before : CallTime) → Reply → CallTime → Bool
may_follow before r t = is_in_turn before t && may_have_time r t

-- the time of a call with the reply that a tree spells, in its turn
abbrev pub time_after : CallTime → Reply → Form → Option CallTime
time_after before r form = and_then (time_of form) (λ t. where_true (may_follow before r t) t)

abbrev pub is_called : Reply → Bool
is_called (Answered v) = true
is_called Misfit = true
is_called Failed = true
is_called NotRun = false
is_called Unknown = true

-- the times of the called ones of some commands, the first of which has the number; or the number of the first
-- one whose time is none
abbrev pub branch_times : CallTime → ℕ → List Reply → List Form → Result (List CallTime) ℕ
branch_times before number [] forms = Ok []
branch_times before number (r ∷ rs) [] = Ok []
branch_times before number (r ∷ rs) (form ∷ forms) =
    if is_called r then
    or_number number (time_after before r form) >>= (λ t. then_more t (branch_times t (number + 1) rs forms))
    else branch_times before (number + 1) rs (form ∷ forms)

-- ---- the times of a history

-- the times of the calls of branches before which so many commands stand
abbrev pub times_from : ℕ → List (List Reply) → List Form → Result (List (List CallTime)) ℕ
times_from before [] lists = Ok []
times_from before (rs ∷ rss) [] = Ok []
times_from before (rs ∷ rss) (list ∷ lists) =
    branch_times at_first (before + 1) rs (listed list) >>= (λ ts.
    then_more ts (times_from (before + length rs) rss lists))

-- as many times as calls in each branch
abbrev pub are_times_counted : List (List Reply) → List Form → Bool
are_times_counted [] lists = true
are_times_counted (rs ∷ rss) [] = false
are_times_counted (rs ∷ rss) (list ∷ lists) = (length (listed list) == called rs) && are_times_counted rss lists

-- the times of the calls of the branches; or 0 if a branch has another number of times than of calls, and else
-- the number of the first command whose time is none
abbrev pub times_of : History → List Form → Result (List (List CallTime)) ℕ
times_of h lists =
    if are_times_counted h.branches lists then times_from (length h.prefix) h.branches lists else Err 0

abbrev pub timed : History → List (List CallTime) → History
timed h times = record { prefix = h.prefix; branches = h.branches; suffix = h.suffix; times = Some times }

-- a history with the times that its lists of times spell, if it has such lists
abbrev pub timed_history : History → Option (List Form) → Result History ℕ
timed_history h None = Ok h
timed_history h (Some lists) = times_of h lists >>= (λ times. Ok (timed h times))
