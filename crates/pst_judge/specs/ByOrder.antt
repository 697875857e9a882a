-- The verdict over all interleavings, or over those in the order of the recorded times.
use Rattle.std.specs.Prelude.{ℕ, Bool, MatchBool, if◌then◌else◌, List, Option, Some, None}
use Rattle.pst_case.specs.Times.{fit}
use Rattle.pst_case.specs.Unknown.{has_unknown, times_of_calls}
use Rattle.pst_case.specs.declared.case.Case.{Case}
use Rattle.pst_case.specs.declared.history.CallTime.{CallTime}
use Rattle.pst_case.specs.declared.history.History.{History}
use Rattle.pst_grid.specs.Orders.{any_order}
use Rattle.pst_judge.specs.InTime.{IsVerdictInTime}
use Rattle.pst_judge.specs.RealTime.{real_time}
use Rattle.pst_judge.specs.Replay.{branch_lengths}
use Rattle.pst_judge.specs.Unknown.{IsVerdictWithUnknown}
use Rattle.pst_judge.specs.Verdict.{IsVerdict}
use Rattle.pst_judge.specs.declared.by_order.CallOrder.{CallOrder}
use Rattle.pst_judge.specs.declared.by_order.CallOrder.TheVariants.{Any, Time}
use Rattle.pst_judge.specs.declared.judgement.Verdict.{Verdict}
use Rattle.pst_model.specs.declared.model.Source.{Source}

abbrev pub fitting : List ℕ → Option (List (List CallTime)) → Option (List (List CallTime))
fitting lengths None = None
fitting lengths (Some times) = if fit lengths times then Some times else None

-- the recorded times of a history, if there is one for each command of the branches
abbrev pub times_of : Case → History → Option (List (List CallTime))
times_of c h = fitting (branch_lengths c) h.times

-- with times the merges in which no call is before one that precedes it count, and without all do
abbrev pub IsVerdictTimed : Source → Case → History → Option (List (List CallTime)) → Verdict → Type 0
IsVerdictTimed m c h None = IsVerdict m c h
IsVerdictTimed m c h (Some times) = IsVerdictInTime m times c h

-- without calls of unknown outcome: over all interleavings, or over those in order of the recorded times
abbrev pub IsVerdictOfKnown : CallOrder → Source → Case → History → Verdict → Type 0
IsVerdictOfKnown Any m c h = IsVerdict m c h
IsVerdictOfKnown Time m c h = IsVerdictTimed m c h (times_of c h)

-- ---- the order itself, for the search

abbrev pub order_of : Option (List (List CallTime)) → List ℕ → ℕ → Bool
order_of None = any_order
order_of (Some times) = real_time times

abbrev pub order_by : CallOrder → Case → History → List ℕ → ℕ → Bool
order_by Any c h = any_order
order_by Time c h = order_of (times_of c h)

-- the order of the calls of a history in which some have an unknown outcome
abbrev pub calls_order_by : CallOrder → History → List ℕ → ℕ → Bool
calls_order_by Any h = any_order
calls_order_by Time h = order_of (times_of_calls h)

-- ---- the verdict

-- the verdict by an order of the calls
abbrev pub IsVerdictBy : CallOrder → Source → Case → History → Verdict → Type 0
IsVerdictBy order m c h v =
    MatchBool (has_unknown h)
    (IsVerdictWithUnknown m (calls_order_by order h) c h v)
    (IsVerdictOfKnown order m c h v)
