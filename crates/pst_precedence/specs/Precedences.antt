-- Precedences between calls of the branches, and what rules out an explanation of a run.
use Rattle.std.specs.Prelude.{◌≡◌, ◌==◌, ◌&&◌, ℕ, ◌<◌, nat_lt, Bool, true, not, List, length, slice_index, Some}
use Rattle.std.specs.List.{All, list_all, remove}
use Rattle.pst_case.specs.declared.case.Case.{Case}
use Rattle.pst_case.specs.declared.history.CallTime.{CallTime}
use Rattle.pst_case.specs.declared.history.History.{History}
use Rattle.pst_grid.specs.declared.steps.Ending.TheVariants.{AllTrue}
use Rattle.pst_judge.specs.ByOrder.{order_by, times_of}
use Rattle.pst_judge.specs.InOrder.{IsRunInOrder}
use Rattle.pst_judge.specs.InTime.{command_at}
use Rattle.pst_judge.specs.OrderLaws.{IsExplained}
use Rattle.pst_judge.specs.RealTime as time
use Rattle.pst_judge.specs.Replay.{replayed}
use Rattle.pst_judge.specs.Verdict.{IsVerdict}
use Rattle.pst_judge.specs.declared.by_order.CallOrder.TheVariants.{Time}
use Rattle.pst_judge.specs.declared.judgement.Verdict.{Verdict}
use Rattle.pst_judge.specs.declared.judgement.Verdict.TheVariants.{Explained}
use Rattle.pst_model.specs.declared.model.Source.{Source}
use Rattle.pst_precedence.specs.declared.obstacles.Obstacles.{Obstacles}
use Rattle.pst_precedence.specs.declared.precedence.Call.{Call}
use Rattle.pst_precedence.specs.declared.precedence.Precedence.{Precedence}
use Rattle.pst_reasons.specs.Reasons.{IsUnexplained}

-- ---- the order that keeps precedences

-- the call is done, where so many calls of each branch are
abbrev pub is_done : List ℕ → Call → Bool
is_done done call = nat_lt call.index (slice_index done call.branch)

-- the call is the next one of the branch
abbrev pub is_next : List ℕ → ℕ → Call → Bool
is_next done b call = (call.branch == b) && (call.index == slice_index done b)

-- the precedence closes the branch: its later call is the next one, and its earlier call is not done
abbrev pub closes : Precedence → List ℕ → ℕ → Bool
closes p done b = is_next done b p.later && not (is_done done p.earlier)

-- a branch is open unless a precedence of the list closes it
abbrev pub keeping : List Precedence → List ℕ → ℕ → Bool
keeping ps done b = list_all (λ p. not (closes p done b)) ps

-- ---- recorded precedences

-- both calls have times, and the earlier one completed before the later one was invoked
pub record IsRecorded (times : List (List CallTime)) (p : Precedence) : Type 0 where
  pub first : CallTime
  pub second : CallTime
  pub is_first : command_at times p.earlier.branch p.earlier.index ≡ Some first
  pub is_second : command_at times p.later.branch p.later.index ≡ Some second
  pub before : time.precedes first second ≡ true

-- ---- explanations

-- some interleaving in order explains the run
abbrev pub IsExplainedIn : Source → (List ℕ → ℕ → Bool) → Case → History → Type 0
IsExplainedIn m order c h = (word : List ℕ) × IsRunInOrder order c word × (replayed m c h word ≡ AllTrue)

-- what rules out an explanation of a run
pub record AreObstacles (m : Source) (c : Case) (h : History) (o : Obstacles) : Type 0 where
  -- without its times the run is explained, by this interleaving
  pub explained : IsVerdict m c h (Explained o.interleaving)
  -- it has times that fit, and each precedence is recorded in them
  pub times : List (List CallTime)
  pub fitting : times_of c h ≡ Some times
  pub recorded : All (IsRecorded times) o.precedences.items
  -- no interleaving that keeps all precedences explains the run
  pub against : IsUnexplained m (keeping o.precedences.items) c h
  -- without any one of them some interleaving does
  pub needed : (i : ℕ) → i < length o.precedences.items → IsExplainedIn m (keeping (remove o.precedences.items i)) c h

-- nothing rules it out: if an interleaving explains the run, one in the order of time does
abbrev pub HasNoObstacle : Source → Case → History → Type 0
HasNoObstacle m c h = (v : Verdict) → IsVerdict m c h v → IsExplained v → IsExplainedIn m (order_by Time c h) c h
