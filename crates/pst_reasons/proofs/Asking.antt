-- What is asked of a command, and what of the others.
use Rattle.std.proofs.Common.{◌≡◌, ◌==◌, not, ℕ, Bool, true, false, List, Result, Ok, Err, sym, ap, subst}
use Rattle.std.specs.Prelude.{IfOk, if◌then◌else◌}
use Rattle.std.specs.declared.alloc.AllocError.{AllocError}
use Rattle.pst_judge.specs.Replay.{SaysTruth}
use Rattle.pst_judge.specs.declared.events.Event.{Event}
use Rattle.pst_model.specs.declared.model.Source.{Source}
use Rattle.pst_operators.specs.Outcome.{Outcome, Gives, and_then}
use Rattle.pst_reasons.proofs.OneAnswer.{truth_is_of}
use Rattle.pst_reasons.specs.Allowed.{as_asked, asks_at, none_is_right, one_is_right, IsReportOf}
use Rattle.pst_reasons.specs.Reasons.{asks}
use Rattle.pst_value.specs.declared.fault.Fault.{Fault}
use Rattle.pst_value.specs.declared.value.Value.{Value, Bool as Truth}

abbrev Answer : Type 0
Answer = Result (Result Bool Fault) AllocError

says_truth : (o : Outcome Bool) (b : Bool) → o ≡ Gives b → SaysTruth (as_asked o) (Ok b)
says_truth o b is = ((Truth b, 0), ap as_asked is, truth_is_of b)

says : (o : Outcome Bool) (r : Answer) → IfOk r (IsReportOf o) → IfOk r (SaysTruth (as_asked o))
says o (Ok (Ok b)) h = says_truth o b h
says o (Ok (Err why)) h = ap as_asked h
says o (Err none) h = h

module _ (number : ℕ) (test : Value → Event → Outcome Bool) (others : List ℕ) (m : Source) (s : Value) (e : Event) where
  -- of the command with the number
  pub says_there : (r : Answer) → (e.number == number) ≡ true → IfOk r (IsReportOf (test s e)) → IfOk r (SaysTruth (asks_at number test others m s e))
  says_there r is h =
      let P : Bool → Type 0 = λ b. IfOk r (SaysTruth (if b then as_asked (test s e) else asks others m s e)) in
      subst P (sym is) (says (test s e) r h)

  -- of another
  pub says_elsewhere : (r : Answer) → (e.number == number) ≡ false → IfOk r (SaysTruth (asks others m s e)) → IfOk r (SaysTruth (asks_at number test others m s e))
  says_elsewhere r is h =
      let P : Bool → Type 0 = λ b. IfOk r (SaysTruth (if b then as_asked (test s e) else asks others m s e)) in
      subst P (sym is) h

-- none is right where not one is
pub none_reported : (m : Source) (s : Value) (e : Event) (answers : List Value) (b : Bool) → IsReportOf (one_is_right m s e answers) (Ok b) → IsReportOf (none_is_right m s e answers) (Ok (not b))
none_reported m s e answers b h = ap (λ o. and_then o (λ right. Gives (not right))) h

pub none_faults : (m : Source) (s : Value) (e : Event) (answers : List Value) (why : Fault) → IsReportOf (one_is_right m s e answers) (Err why) → IsReportOf (none_is_right m s e answers) (Err why)
none_faults m s e answers why h = ap (λ o. and_then o (λ right. Gives (not right))) h
