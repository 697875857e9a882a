-- The calls that a client's line tells of ended as they may.
use Rattle.std.proofs.Common.{◌≡◌, ℕ, All, List, [], ◌∷◌, ◌++◌, IfOk, IfSome, Option, Some, None, Result, Ok, Err, append_assoc, refl, slice_get, subst}
use Rattle.std.specs.Prelude.{Contains}
use Rattle.std.specs.List.{AllZip}
use Rattle.std.proofs.lemmas.List.Elements.{All-nil, All-cons, All-append, Contains-append_left, Contains-append_right, Contains-push}
use Rattle.json.specs.Json.{Json, null, boolean, number, string, array, object, item, document}
use Rattle.json.specs.Value.{items_of}
use Rattle.pst_clients.specs.Answering.{Answered, Spells}
use Rattle.pst_clients.specs.Bursting.{AreTold, IsBurstAnswer, IsBurstText, IsSaid, IsTelling, IsTold}
use Rattle.pst_clients.specs.Losing.{IsCallLoss, IsTextLoss}
use Rattle.pst_clients.specs.declared.burst.BurstAnswer.{BurstAnswer}
use Rattle.pst_system.specs.Bursts.{IsMade, MayEnd}
use Rattle.pst_system.specs.Kept.{Answers, Fails}
use Rattle.pst_system.specs.declared.burst.CallEnd.{CallEnd}
use Rattle.pst_system.specs.declared.burst.CallEnd.TheVariants as end
use Rattle.pst_system.specs.declared.burst.MadeCall.{MadeCall}
use Rattle.pst_system.specs.declared.system.RealCall.{RealCall}
use Rattle.pst_value.specs.declared.ty.Ty.{Ty}

contains_first : {X : Type 0} (x : X) (xs : List X) → Contains (x ∷ xs) x
contains_first x xs = Contains-append_left (x ∷ []) xs x (Contains-push [] x)

contains_rest : {X : Type 0} (x : X) (xs : List X) (y : X) → Contains xs y → Contains (x ∷ xs) y
contains_rest x xs y c = Contains-append_right (x ∷ []) xs y c

module _ (may_give : List ℕ → Type 0) (may_fail may_run_ahead may_break : Type 0) (n : ℕ) (results : List Ty) where
  abbrev pub Answering : Answers
  Answering = Answered (IsSaid may_give) results

  abbrev pub Failing : Fails
  Failing c f = IsCallLoss may_give (IsSaid may_give) may_fail may_run_ahead may_break n (slice_get results c.op) f

  may_end : (text : List ℕ) → IsSaid may_give text → (c : RealCall) (e : CallEnd)
      → MayEnd (λ c v. Spells (slice_get results c.op) text v) (λ c f. IsTextLoss (slice_get results c.op) text f) c e
      → MayEnd Answering Failing c e
  may_end text said c (end.Answered v) h = (text, said, h)
  may_end text said c (end.Fault f) h = IsCallLoss.told (text, said, h)

  told_made : (c : RealCall) (j : Json) (made : List MadeCall) → IsTold results c j made
      → ((text : List ℕ) → j ≡ string text → IsSaid may_give text) → All (IsMade Answering Failing) made
  told_made c null made h s = rw h (All-nil (IsMade Answering Failing))
  told_made c (boolean b) made h s = absurd h
  told_made c (number d) made h s = absurd h
  told_made c (string text) made h s =
      rw h.1 (All-cons (IsMade Answering Failing) h.0 []
      (record { ended = may_end text (s text refl) h.0.call h.0.end h.3 })
      (All-nil (IsMade Answering Failing)))
  told_made c (array js) made h s = absurd h
  told_made c (object ms) made h s = absurd h

  all_told_made : (calls : List RealCall) (answers : List Json) (made : List MadeCall) → AreTold results calls answers made
      → ((text : List ℕ) → Contains answers (string text) → IsSaid may_give text) → All (IsMade Answering Failing) made
  all_told_made [] [] made h s = rw h (All-nil (IsMade Answering Failing))
  all_told_made [] (j ∷ js) made h s = absurd h
  all_told_made (c ∷ cs) [] made h s = absurd h
  all_told_made (c ∷ cs) (j ∷ js) made h s =
      rw h.2 (All-append (IsMade Answering Failing) h.0 h.1
      (told_made c j h.0 h.3 (λ text e. s text (subst (Contains (j ∷ js)) e (contains_first j js))))
      (all_told_made cs js h.1 h.4 (λ text k. s text (contains_rest j js (string text) k))))

  module _ (line : List ℕ) (given : may_give line) (calls : List RealCall) (numbers : Json) where
    lists_made : (before tellings : List Json) (lists : List (List MadeCall))
        → document line ≡ Some (array (items_of (before ++ tellings)))
        → AllZip (IsTelling results calls) tellings lists → All (All (IsMade Answering Failing)) lists
    lists_made before [] [] spelled z = All-nil (All (IsMade Answering Failing))
    lists_made before [] (l ∷ ls) spelled z = absurd z
    lists_made before (j ∷ js) [] spelled z = absurd z
    lists_made before (j ∷ js) (l ∷ ls) spelled z =
        All-cons (All (IsMade Answering Failing)) l ls
        (all_told_made calls z.0.0 l z.0.2 (λ text among. IsSaid.burst (
          line,
          given,
          record {
            parts = before ++ j ∷ js;
            answers = z.0.0;
            spelled = spelled;
            list = Contains-append_right before (j ∷ js) _ (subst (Contains (j ∷ js)) z.0.1 (contains_first j js));
            among = among;
          },
        )))
        (lists_made (before ++ j ∷ []) js ls (rw (append_assoc before (j ∷ []) js) spelled) z.1)

  pub answer_made : (line : List ℕ) → may_give line → (calls : List RealCall) (a : BurstAnswer)
      → IsBurstAnswer results calls line a → All (All (IsMade Answering Failing)) a.lists.items
  answer_made line given calls a h =
      lists_made line given calls (array (items_of h.numbers)) (array (items_of h.numbers) ∷ []) h.tellings a.lists.items
      h.spelled h.lists

-- the answer that a line gives is heard, if the source may give the line
pub heard : {E : Type 0} (may_give : List ℕ → Type 0) (results : List Ty) (calls own : List RealCall) (line : List ℕ)
    → may_give line → calls ≡ own → (r : Result (Option BurstAnswer) E)
    → IfOk r (λ found. IfSome found (IsBurstAnswer results calls line))
    → IfOk r (λ found. IfSome found (λ answer. (x : List ℕ) × may_give x × IsBurstAnswer results own x answer))
heard may_give results calls own line given e (Err f) h = h
heard may_give results calls own line given e (Ok None) h = h
heard may_give results calls own line given e (Ok (Some a)) h =
    (line, given, subst (λ cs. IsBurstAnswer results cs line a) e h)
