-- The answer of a command, which reaches one of two places: a file for results, or the output.
use Rattle.std.specs.Prelude.{◌≡◌, ◌⊎◌, ℕ, Bool, true, false, List, Option, Some, None, Result, Ok, Err}
use Rattle.std.specs.declared.alloc.AllocError.{AllocError}
use Rattle.pst_cli.specs.Head.{refusal_line}
use Rattle.pst_cli.specs.JsonOutput.{memory_object, refusal_object}
use Rattle.pst_cli.specs.Output.{run_line}
use Rattle.pst_cli.specs.Sending.{Sends, memory_line}
use Rattle.pst_cli.specs.declared.answer.Answer.{Answer}
use Rattle.pst_cli.specs.declared.answer.Destinations.{Destinations}
use Rattle.pst_cli.specs.declared.answer.OutputForm.{OutputForm}
use Rattle.pst_cli.specs.declared.answer.OutputForm.TheVariants as form
use Rattle.pst_cli.specs.declared.answer.Status.{Status}
use Rattle.pst_cli.specs.declared.answer.Status.TheVariants.{Refused, Lost}
use Rattle.pst_rejudge.specs.Objects.{object_line}
use Rattle.pst_rejudge.specs.Verdicts.{refused_fields}
use Rattle.pst_runs.specs.declared.reader.RunFault.{RunFault}
use Rattle.pst_typing.specs.declared.loading.Refusal.{Refusal}

-- what is written if an allocation fails
abbrev pub memory_of : OutputForm → List ℕ
memory_of form.Text = memory_line
memory_of form.Json = memory_object

-- the refusal of the model, on its line
abbrev pub refusal_of : OutputForm → Refusal → List ℕ
refusal_of form.Text refusal = refusal_line refusal
refusal_of form.Json refusal = refusal_object refusal

-- the refusal of an item, on its line
abbrev pub fault_of : OutputForm → RunFault → List ℕ
fault_of form.Text fault = run_line fault
fault_of form.Json fault = object_line (refused_fields fault.run fault.kind fault.command)

-- the text of an answer, or if an allocation failed these bytes
abbrev pub sent_text : List ℕ → Result Answer AllocError → List ℕ
sent_text memory (Ok answer) = answer.text.items
sent_text memory (Err e) = memory

-- its status
abbrev pub sent_status : Result Answer AllocError → Status
sent_status (Ok answer) = answer.status
sent_status (Err e) = Lost

-- whether it refuses the whole input
abbrev pub refuses : Result Answer AllocError → Bool
refuses (Ok answer) = answer.refuses
refuses (Err e) = true

-- a file that has not failed, or none
abbrev pub FileStands : {F : Type 0} → (F → Bool) → Option F → Type 0
FileStands broken None = Unit {0}
FileStands broken (Some file) = broken file ≡ false

-- neither place has failed
abbrev pub Stands : {F W : Type 0} → (F → Bool) → (W → Bool) → Destinations F W → Type 0
Stands f_broken w_broken to = FileStands f_broken to.file × (w_broken to.out ≡ false)

module _ {F W : Type 0} (f_taken : F → Option (List ℕ)) (f_broken : F → Bool) (w_taken : W → Option (List ℕ)) (w_broken : W → Bool) where
  -- there is a file, and the text was sent to it
  abbrev pub FileTakes : Option F → Option F → Status → List ℕ → Status → Type 0
  FileTakes (Some old) (Some new) answer text status = Sends (f_taken old) (f_taken new) (f_broken new) answer text status
  FileTakes (Some old) None answer text status = ⊥
  FileTakes None new answer text status = ⊥

  -- the text was sent to the file, if there is one and the text does not refuse the input, else to the output; the other place is
  -- as it was
  pub data Delivers (old new : Destinations F W) (answer : Status) (is_refusal : Bool) (text : List ℕ) (status : Status) : Type 0 where
    to_file : is_refusal ≡ false → FileTakes old.file new.file answer text status → old.out ≡ new.out
        → Delivers old new answer is_refusal text status
    to_out : (old.file ≡ None) ⊎ (is_refusal ≡ true) → Sends (w_taken old.out) (w_taken new.out) (w_broken new.out) answer text status
        → old.file ≡ new.file → Delivers old new answer is_refusal text status

-- one output reached its place, or if an allocation failed these bytes; what refuses the whole input has the status Refused or Lost
pub record Reaches (memory : List ℕ) (IsOutput : List ℕ → Status → Type 0) (Goes : Bool → List ℕ → Status → Type 0) : Type 0 where
  pub text : List ℕ
  pub status : Status
  pub refuses : Bool
  pub lawful : IsOutput text status ⊎ ((text ≡ memory) × (status ≡ Lost) × (refuses ≡ true))
  pub refusing : refuses ≡ true → (status ≡ Refused) ⊎ (status ≡ Lost)
  pub sent : Goes refuses text status
