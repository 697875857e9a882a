-- Why a call or a reset of a client is lost. `may_give` has the lines that a source of its kind may give, `may_fail` says
-- that such a source may fail, `may_run_ahead` that it may have more than the line that is wanted of it, and `may_break`
-- that the way to a client of its kind may be closed.
use Rattle.std.specs.Prelude.{◌≡◌, ◌≢◌, ℕ, ◌≤◌, Bool, true, false, List, Option, IsUtf8, ⊤}
use Rattle.pst_clients.specs.Answering.{Spells, says_failed, says_unknown}
use Rattle.pst_clients.specs.Ends.{SaysUnknownEnd}
use Rattle.pst_clients.specs.Lines.{has_mark}
use Rattle.pst_clients.specs.declared.states.ClientState.{ClientState}
use Rattle.pst_clients.specs.declared.states.ClientState.TheVariants as state
use Rattle.pst_clients.specs.declared.states.LostAnswer.{LostAnswer}
use Rattle.pst_clients.specs.declared.states.LostAnswer.TheVariants as lost
use Rattle.pst_system.specs.declared.system.CallFault.{CallFault}
use Rattle.pst_system.specs.declared.system.CallFault.TheVariants.{Refused, NoMemory, OutcomeUnknown}
use Rattle.pst_value.specs.declared.ty.Ty.{Ty}
use Rattle.pst_value.specs.declared.value.Value.{Value}

-- the client is asked no more
abbrev pub is_gone : ClientState → Bool
is_gone state.Open = false
is_gone state.Unread = false
is_gone state.Ended = true
is_gone state.Closed = true

-- the fault of a call whose line is not answered
abbrev pub fault_of : LostAnswer → CallFault
fault_of lost.NoMemory = NoMemory
fault_of (lost.Ended how) = Refused
fault_of (lost.EndedUnknown how) = OutcomeUnknown
fault_of lost.Closed = Refused
fault_of lost.TooLong = Refused
fault_of lost.NoText = Refused
fault_of (lost.MoreLines first) = Refused
fault_of lost.Marked = Refused
fault_of lost.TooLate = Refused

-- why a source gives no line
abbrev pub IsReadLoss : Type 0 → CallFault → Type 0
IsReadLoss may_fail NoMemory = ⊤
IsReadLoss may_fail Refused = may_fail
IsReadLoss may_fail OutcomeUnknown = ⊥

-- why a client gives no answer any more
pub data IsGone (may_give : List ℕ → Type 0) (may_fail may_break : Type 0) : Type 0 where
  source_fails : may_fail → IsGone may_give may_fail may_break
  sink_breaks : may_break → IsGone may_give may_fail may_break
  marked : ((line : List ℕ) × may_give line × (has_mark line ≡ true)) → IsGone may_give may_fail may_break

-- why answers since the last reset may be those of other lines: more came than was wanted
pub data IsExtra (may_give : List ℕ → Type 0) (may_run_ahead : Type 0) : Type 0 where
  read_ahead : may_run_ahead → IsExtra may_give may_run_ahead
  given : ((line : List ℕ) × may_give line) → IsExtra may_give may_run_ahead

-- why a line is not answered
pub data IsLineLoss (may_give : List ℕ → Type 0) (may_fail may_run_ahead may_break : Type 0) (f : CallFault) : Type 0 where
  memory : f ≡ NoMemory → IsLineLoss may_give may_fail may_run_ahead may_break f
  gone : f ≡ Refused → ∥ IsGone may_give may_fail may_break ∥₁ → IsLineLoss may_give may_fail may_run_ahead may_break f
  no_text : f ≡ Refused → ((line : List ℕ) × may_give line × (¬ IsUtf8 line)) → IsLineLoss may_give may_fail may_run_ahead may_break f
  more_lines : f ≡ Refused → may_run_ahead → IsLineLoss may_give may_fail may_run_ahead may_break f
  unknown_end : f ≡ OutcomeUnknown → ((line : List ℕ) × may_give line × SaysUnknownEnd line)
      → IsLineLoss may_give may_fail may_run_ahead may_break f

-- why a text that a client says gives no value to a call whose result is wanted to have the type
pub data IsTextLoss (t : Option Ty) (text : List ℕ) (f : CallFault) : Type 0 where
  memory : f ≡ NoMemory → IsTextLoss t text f
  failed : f ≡ Refused → says_failed text ≡ true → IsTextLoss t text f
  unknown : f ≡ OutcomeUnknown → says_unknown text ≡ true → IsTextLoss t text f
  no_value : f ≡ Refused → ((v : Value) → ¬ Spells t text v) → IsTextLoss t text f

-- why a call is lost, of a worker with so many clients, whose result is wanted to have the type; `is_said` has the texts that a
-- client says
pub data IsCallLoss (may_give is_said : List ℕ → Type 0) (may_fail may_run_ahead may_break : Type 0) (clients : ℕ) (t : Option Ty)
    (f : CallFault) : Type 0 where
  memory : f ≡ NoMemory → IsCallLoss may_give is_said may_fail may_run_ahead may_break clients t f
  no_client : f ≡ Refused → clients ≤ 3 → IsCallLoss may_give is_said may_fail may_run_ahead may_break clients t f
  unanswered : IsLineLoss may_give may_fail may_run_ahead may_break f → IsCallLoss may_give is_said may_fail may_run_ahead may_break clients t f
  told : ((text : List ℕ) × is_said text × IsTextLoss t text f)
      → IsCallLoss may_give is_said may_fail may_run_ahead may_break clients t f

-- why a reset is lost
pub data IsResetLoss (may_give : List ℕ → Type 0) (may_fail may_run_ahead may_break : Type 0) (f : CallFault) : Type 0 where
  unanswered : f ≢ OutcomeUnknown → IsLineLoss may_give may_fail may_run_ahead may_break f
      → IsResetLoss may_give may_fail may_run_ahead may_break f
  unknown_end : f ≡ Refused → ((line : List ℕ) × may_give line × SaysUnknownEnd line)
      → IsResetLoss may_give may_fail may_run_ahead may_break f
  failed : f ≡ Refused → ((line : List ℕ) × may_give line × (says_failed line ≡ true))
      → IsResetLoss may_give may_fail may_run_ahead may_break f
  unknown : f ≡ Refused → ((line : List ℕ) × may_give line × (says_unknown line ≡ true))
      → IsResetLoss may_give may_fail may_run_ahead may_break f
  extra_line : f ≡ Refused → ∥ IsExtra may_give may_run_ahead ∥₁ → IsResetLoss may_give may_fail may_run_ahead may_break f
