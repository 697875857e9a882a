-- An answer that is sent is printed, and one that is delivered reaches its place.
use Rattle.std.proofs.Common.{◌≡◌, ⊎_elim, inl, inr, ℕ, Bool, true, false, List, Option, Some, None, Result, Ok, Err, IfOk, IfSome, refl, sym, subst}
use Rattle.std.specs.declared.alloc.AllocError.{AllocError}
use Rattle.pst_cli.specs.Answering.{Delivers, FileTakes, Reaches, refuses, sent_status, sent_text, to_file, to_out}
use Rattle.pst_cli.specs.Answers.{Answers, IsRefusalBy}
use Rattle.pst_cli.specs.Commands.{IsMeant, IsMeantOf, OutputOf}
use Rattle.pst_cli.specs.Sending.{Prints, Sends, SendsOne, memory_line}
use Rattle.pst_cli.specs.declared.answer.Answer.{Answer}
use Rattle.pst_cli.specs.declared.answer.Destinations.{Destinations}
use Rattle.pst_cli.specs.declared.answer.Status.{Status}
use Rattle.pst_cli.specs.declared.answer.Status.TheVariants.{Refused, Lost}
use Rattle.pst_input.specs.Meaning.{Means}

-- an answer that was sent to one sink
pub prints : (IsOutput : List ℕ → Status → Type 0) (before after : Option (List ℕ)) (broken : Bool) (answer : Status)
    (r : Result Answer AllocError) → IfOk r (Answers IsOutput)
    → Sends before after broken answer (sent_text memory_line r) (sent_status r) → Prints IsOutput before after broken answer
prints IsOutput before after broken answer (Ok a) is s = record { text = a.text.items; status = a.status; lawful = inl is.output; sent = s }
prints IsOutput before after broken answer (Err e) is s = record { text = memory_line; status = Lost; lawful = inr (refl, refl); sent = s }

-- an answer that went where it goes
pub reaches : (memory : List ℕ) (IsOutput : List ℕ → Status → Type 0) (Goes : Bool → List ℕ → Status → Type 0)
    (r : Result Answer AllocError) → IfOk r (Answers IsOutput)
    → Goes (refuses r) (sent_text memory r) (sent_status r) → Reaches memory IsOutput Goes
reaches memory IsOutput Goes (Ok a) is s = record {
  text = a.text.items;
  status = a.status;
  refuses = a.refuses;
  lawful = inl is.output;
  refusing = is.refusing;
  sent = s;
}
reaches memory IsOutput Goes (Err e) is s = record {
  text = memory;
  status = Lost;
  refuses = true;
  lawful = inr (refl, refl, refl);
  refusing = λ _. inr refl;
  sent = s;
}

-- what reaches its place for the plain text that an input means
pub meant : (memory : List ℕ) (IsOutput : OutputOf) (Goes : Bool → List ℕ → Status → Type 0) (input plain : List ℕ) → Means input plain
    → Reaches memory (IsOutput plain) Goes → Reaches memory (IsMeant IsOutput input) Goes
meant memory IsOutput Goes input plain means r = record {
  text = r.text;
  status = r.status;
  refuses = r.refuses;
  lawful = ⊎_elim (λ is. inl (plain, means, is)) (λ lost. inr lost) r.lawful;
  refusing = r.refusing;
  sent = r.sent;
}

-- what is returned, if anything is, by the plain text that an input means
pub some_meant : {A : Type 0} (Holds : List ℕ → A → Type 0) (input plain : List ℕ) → Means input plain → (of : Option A)
    → IfSome of (Holds plain) → IfSome of (IsMeantOf Holds input)
some_meant Holds input plain means (Some a) holds = (plain, means, holds)
some_meant Holds input plain means None holds = holds

-- the refusal of the whole input
pub refuses_so : (IsOutput : List ℕ → Status → Type 0) (text : List ℕ) (a : Answer) → IsRefusalBy text Refused a
    → (a.text.items ≡ text → a.status ≡ Refused → IsOutput a.text.items a.status) → Answers IsOutput a
refuses_so IsOutput text a is so = record { output = so is.text_is is.status_is; refusing = λ _. inl is.status_is }

-- another output by the same answer
pub answers_so : (P Q : List ℕ → Status → Type 0) → ((text : List ℕ) (status : Status) → P text status → Q text status)
    → (a : Answer) → Answers P a → Answers Q a
answers_so P Q so a is = record { output = so a.text.items a.status is.output; refusing = is.refusing }

-- one output that was sent block by block, to one of two places
module _ {F W : Type 0} (f_taken : F → Option (List ℕ)) (f_broken : F → Bool) (w_taken : W → Option (List ℕ)) (w_broken : W → Bool)
    (memory : List ℕ) (IsOutput : List ℕ → Status → Type 0) (old new : Destinations F W) (answer : Status) where
  pub file_reached : (before after : F) → old.file ≡ Some before → new.file ≡ Some after → old.out ≡ new.out
      → SendsOne IsOutput (f_taken before) (f_taken after) (f_broken after) answer
      → Reaches memory IsOutput (Delivers f_taken f_broken w_taken w_broken old new answer)
  file_reached before after e f same s =
      let Takes : Option F → Option F → Type 0 = λ x y. FileTakes f_taken f_broken w_taken w_broken x y answer s.text s.status in
      let TakesNew : Option F → Type 0 = λ x. Takes x new.file in
      record {
        text = s.text;
        status = s.status;
        refuses = false;
        lawful = inl s.lawful;
        refusing = λ h. absurd (cc);
        sent = to_file refl (subst TakesNew (sym e) (subst (Takes (Some before)) (sym f) s.sent)) same;
      }

  pub out_reached : old.file ≡ None → old.file ≡ new.file → SendsOne IsOutput (w_taken old.out) (w_taken new.out) (w_broken new.out) answer
      → Reaches memory IsOutput (Delivers f_taken f_broken w_taken w_broken old new answer)
  out_reached e same s = record {
    text = s.text;
    status = s.status;
    refuses = false;
    lawful = inl s.lawful;
    refusing = λ h. absurd (cc);
    sent = to_out (inl e) s.sent same;
  }
