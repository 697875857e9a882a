-- What the clauses of run_command rest on.
use Rattle.std.proofs.Common.{◌≡◌, ◌⊎◌, ◌∙◌, ◌==◌, inl, inr, ℕ, Bool, true, List, Result, Ok, eqb-true, refl, sym, vec_len}
use Rattle.std.specs.Prelude.{⊤}
use denote.Ref.{Bor}
use Rattle.std.specs.declared.alloc.Global.{Global}
use Rattle.std.specs.declared.vec.Vec.{Vec}
use Rattle.pst.specs.Endings.{AreMade, IsAbsence, IsLostOnlyIf}
use Rattle.pst.specs.declared.systems.SystemsError.{SystemsError}
use Rattle.pst_cli.proofs.Printing.{meant}
use Rattle.pst_cli.specs.Answering.{Reaches, memory_of}
use Rattle.pst_cli.specs.CampaignOutput.{Gives}
use Rattle.pst_cli.specs.Commands.{IsCampaignAnswer, IsDriveAnswer, IsMeant}
use Rattle.pst_cli.specs.Sending.{memory_line}
use Rattle.pst_cli.specs.Status.{or_worse}
use Rattle.pst_cli.specs.StreamOutput.{IsStreamOutput}
use Rattle.pst_cli.specs.declared.absent.Absence.TheVariants.{NoSystem}
use Rattle.pst_cli.specs.declared.answer.OutputForm.{OutputForm}
use Rattle.pst_cli.specs.declared.answer.Status.{Status}
use Rattle.pst_cli.specs.declared.answer.Status.TheVariants.{Accepted, Failed, Refused, Lost}
use Rattle.pst_cli.specs.declared.campaign.UndrawnTrials.{UndrawnTrials}
use Rattle.pst_cli.specs.declared.drive.DriveOptions.{DriveOptions}
use Rattle.pst_input.specs.Meaning.{Means}
use Rattle.pst_judge.specs.declared.by_order.CallOrder.{CallOrder}
use Rattle.pst_system.specs.Kept.{Answers, Fails, ResetFails}
use Rattle.pst_trial.specs.declared.plan.Settings.{Settings}

-- what is sent for the plain text of an input is sent for the input
module _ (goes : Bool → List ℕ → Status → Type 0) (input plain : List ℕ) (means : Means input plain) where
  pub drives_meant : (options : DriveOptions) (answers : Answers) (fails : Fails) (reset_fails : ResetFails)
      → Reaches (memory_of options.form) (IsDriveAnswer options answers fails reset_fails plain) goes
      → Reaches (memory_of options.form) (IsMeant (IsDriveAnswer options answers fails reset_fails) input) goes
  drives_meant options answers fails reset_fails r =
      meant (memory_of options.form) (IsDriveAnswer options answers fails reset_fails) goes input plain means r

  pub trials_meant : {S : Type 0} (form : OutputForm) (undrawn : UndrawnTrials) (may_end : Type 0) (may_give : Gives S)
      (settings : Settings) (systems : List S)
      → Reaches (memory_of form) (IsCampaignAnswer form undrawn may_end may_give settings systems plain) goes
      → Reaches (memory_of form) (IsMeant (IsCampaignAnswer form undrawn may_end may_give settings systems) input) goes
  trials_meant form undrawn may_end may_give settings systems r =
      meant (memory_of form) (IsCampaignAnswer form undrawn may_end may_give settings systems) goes input plain means r

  pub stream_meant : (order : CallOrder) (bytes : List ℕ) → Reaches memory_line (IsStreamOutput ⊤ order plain bytes) goes
      → Reaches memory_line (IsMeant (λ p. IsStreamOutput ⊤ order p bytes) input) goes
  stream_meant order bytes r = meant memory_line (λ p. IsStreamOutput ⊤ order p bytes) goes input plain means r

-- the systems of a vector were made
pub are_made : {S : Type 0} {made : Result (Vec S Global) SystemsError} (all : Vec S Global) (systems : List S)
    → made ≡ Ok all → all.items ≡ systems → AreMade made systems
are_made all systems e h = rw e h

-- there are none in an empty vector
pub is_absence : {S : Type 0} {made : Result (Vec S Global) SystemsError} (all : Vec S Global) (name : Bor (List ℕ))
    → made ≡ Ok all → vec_len all ≡ 0 → IsAbsence made name (NoSystem name)
is_absence all name e h = rw e (h, refl)

-- and in one whose test for emptiness says so
pub is_absence_by : {S : Type 0} {made : Result (Vec S Global) SystemsError} (all : Vec S Global) (name : Bor (List ℕ)) (test : Bool)
    → made ≡ Ok all → test ≡ (vec_len all == 0) → test ≡ true → IsAbsence made name (NoSystem name)
is_absence_by all name test e is so = is_absence all name e (eqb-true (vec_len all) 0 (sym is ∙ so))

or_accepted : (sent : Status) → or_worse sent Accepted ≡ sent
or_accepted Accepted = refl
or_accepted Failed = refl
or_accepted Refused = refl
or_accepted Lost = refl

or_lost : (sent : Status) → or_worse sent Lost ≡ Lost
or_lost Accepted = refl
or_lost Failed = refl
or_lost Refused = refl
or_lost Lost = refl

-- the status of what was sent, if what is beside it was written
pub is_sent : (sent beside status : Status) → beside ≡ Accepted → status ≡ or_worse sent beside → status ≡ sent
is_sent sent beside status b e = (rw b at e) ∙ or_accepted sent

-- and if that could not be written
pub is_lost : (sent beside status : Status) → beside ≡ Lost → status ≡ or_worse sent beside → status ≡ Lost
is_lost sent beside status b e = (rw b at e) ∙ or_lost sent

-- a status of which it is known what is wanted
pub lost_only_if : {A : Type 0} (status : Status) → A → (status ≡ Accepted) ⊎ (status ≡ Lost) → IsLostOnlyIf A status
lost_only_if status a (inl e) = inl e
lost_only_if status a (inr e) = inr (a, e)

-- of two things that may be wanted
pub lost_of_both : {A B : Type 0} (first second status : Status) → IsLostOnlyIf A first → IsLostOnlyIf B second
    → status ≡ or_worse first second → IsLostOnlyIf (A ⊎ B) status
lost_of_both first second status (inl a) (inl b) e = inl (is_sent first second status b e ∙ a)
lost_of_both first second status a (inr b) e = inr (inr b.0, is_lost first second status b.1 e)
lost_of_both first second status (inr a) (inl b) e = inr (inl a.0, is_sent first second status b e ∙ a.1)
