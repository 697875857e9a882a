-- Parts that are put into their places, and places that are all filled.
use Rattle.std.proofs.Common.{◌≡◌, ◌<◌, ◌+◌, ℕ, zero, suc, Bool, List, [], ◌∷◌, ◌++◌, length, take, get_or, Option, Some, None, IfSome, Result, Ok, Err, IfOk, All, Bor, refl, subst, sym, arith}
use Rattle.std.proofs.lemmas.List.Elements.{All-nil, All-cons, All-head, All-tail, All-pop}
use Rattle.std.specs.Prelude.{slice_get, slice_set}
use Rattle.std.specs.Option.{IsSome}
use Rattle.std.specs.List.{AllZip, flat_map}
use Rattle.pst_judge.specs.declared.by_order.CallOrder.{CallOrder}
use Rattle.pst_rejudge.proofs.Pushed.{bytes_of, of_bytes}
use Rattle.pst_rejudge.proofs.Together.{part_alone, part_behind}
use Rattle.pst_rejudge.specs.Parts.{AreParts, last, before, AreAnsweredPart, joined}
use Rattle.pst_rejudge.specs.Places.{StandsIn, AreFilled, HoldsPart, runs_in, answers_in}
use Rattle.pst_rejudge.specs.declared.parts.AnsweredParts.{AnsweredParts}
use Rattle.pst_rejudge.specs.declared.parts.AnsweredItems.{AnsweredItems}
use Rattle.pst_rejudge.specs.declared.parts.AnsweredPart.{AnsweredPart}
use Rattle.pst_model.specs.declared.model.Source.{Source}

all_zip_set : {X Y : Type 0} (P : X → Y → Type 0) (xs : List X) (ys : List Y) (i : ℕ) (x : X) (y : Y) → AllZip P xs ys
    → slice_get xs i ≡ Some x → P x y → AllZip P xs (slice_set ys i y)
all_zip_set P [] [] i x y h is p = tt
all_zip_set P [] (b ∷ ys) i x y h is p = absurd h
all_zip_set P (a ∷ xs) [] i x y h is p = absurd h
all_zip_set P (a ∷ xs) (b ∷ ys) zero x y h is p = let e : x ≡ a = cc in (subst (λ v. P v y) e p, h.1)
all_zip_set P (a ∷ xs) (b ∷ ys) (suc i) x y h is p = (h.0, all_zip_set P xs ys i x y h.1 is p)

-- what holds of all answers of a list holds of each
pub all_of_zip : {X Y : Type 0} (P : Y → Type 0) (xs : List X) (ys : List Y) → AllZip (λ x y. P y) xs ys → All P ys
all_of_zip P [] [] h = All-nil P
all_of_zip P [] (y ∷ ys) h = absurd h
all_of_zip P (x ∷ xs) [] h = absurd h
all_of_zip P (x ∷ xs) (y ∷ ys) h = All-cons P y ys h.0 (all_of_zip P xs ys h.1)

pub before_last : {X : Type 0} (P : X → Type 0) (xs : List X) (x : X) → All P (xs ++ x ∷ []) → All P xs × P x
before_last P xs x h = All-pop P (xs ++ x ∷ []) xs (Some x) refl h

module _ (order : CallOrder) (m : Source) (keeps : Bool) where
  one_more : (parts : List (Bor (List ℕ))) (places : List (Option AnsweredItems)) (i : ℕ) → i < length parts → AreFilled order m keeps (take i parts) places
      → AreFilled order m keeps (take (suc i) parts) (places ++ None ∷ [])
  one_more [] places i lt h = absurd (omega arith)
  one_more (part ∷ parts) [] zero lt h = (tt, tt)
  one_more (part ∷ parts) (place ∷ places) zero lt h = absurd h
  one_more (part ∷ parts) [] (suc i) lt h = absurd h
  one_more (part ∷ parts) (place ∷ places) (suc i) lt h = (h.0, one_more parts places i (omega arith) h.1)

  -- one more place, which is empty
  pub no_part_more : (parts : List (Bor (List ℕ))) (places : List (Option AnsweredItems)) (i : ℕ) → i < length parts
      → AreFilled order m keeps (take i parts) places → AreFilled order m keeps (take (i + 1) parts) (places ++ None ∷ [])
  no_part_more parts places i lt h =
      let n : i + 1 ≡ suc i = omega arith in
      subst (λ k. AreFilled order m keeps (take k parts) (places ++ None ∷ [])) (sym n) (one_more parts places i lt h)

module _ (order : CallOrder) (m : Source) (keeps : Bool) (parts : List (Bor (List ℕ))) where
  -- a part that is put into its place
  pub put_part : (places : List (Option AnsweredItems)) (taken : AnsweredPart) → AreFilled order m keeps parts places → StandsIn order m keeps parts taken
      → AreFilled order m keeps parts (slice_set places taken.place (Some taken.content))
  put_part places taken h s =
      all_zip_set (λ part place. IfSome place (HoldsPart order m keeps part.now)) parts places taken.place s.part (Some taken.content) h s.place s.content

module _ (order : CallOrder) (m : Source) (keeps : Bool) where
  -- the place is filled, with what the bytes spell
  abbrev Fills : List ℕ → Option AnsweredItems → Type 0
  Fills bytes None = ⊥
  Fills bytes (Some content) = HoldsPart order m keeps bytes content

  all_fill : (parts : List (Bor (List ℕ))) (places : List (Option AnsweredItems)) → AreFilled order m keeps parts places → All IsSome places
      → AllZip (λ part place. Fills part.now place) parts places
  all_fill [] [] h s = tt
  all_fill [] (place ∷ places) h s = absurd h
  all_fill (part ∷ parts) [] h s = absurd h
  all_fill (part ∷ parts) (None ∷ places) h s = let none = All-head IsSome None places s in absurd (cc)
  all_fill (part ∷ parts) (Some content ∷ places) h s = (h.0, all_fill parts places h.1 (All-tail IsSome (Some content) places s))

  -- what stands in all places, one behind the other, is what the bytes spell
  together : {bytes : List ℕ} {parts : List (List ℕ)} (places : List (Option AnsweredItems)) → AreParts bytes parts → AllZip Fills parts places
      → AreAnsweredPart order m keeps bytes (flat_map runs_in places) (flat_map answers_in places)
  together [] last h = absurd h
  together (None ∷ places) last h = absurd h.0
  together {bytes} (Some content ∷ []) last h = part_alone order m keeps bytes content.runs.items content.answers.items h.0
  together (Some content ∷ next ∷ places) last h = absurd h.1
  together [] (before e p) h = absurd h
  together (None ∷ places) (before e p) h = absurd h.0
  together (Some content ∷ places) (before {part} {bytes} e p) h =
      part_behind order m keeps part bytes content.runs.items (flat_map runs_in places) content.answers.items (flat_map answers_in places) e h.0
      (together places p h.1)

  in_all : (input : List ℕ) (parts : List (Bor (List ℕ))) (places : List (Option AnsweredItems)) (all : AnsweredParts) → AreParts input (bytes_of parts)
      → AreFilled order m keeps parts places → All IsSome places → joined all.runs.items ≡ flat_map runs_in places
      → all.answers.items ≡ flat_map answers_in places → AreAnsweredPart order m keeps input (joined all.runs.items) all.answers.items
  in_all input parts places all p h s runs answers =
      let whole = together places p (of_bytes Fills parts places (all_fill parts places h s)) in
      subst (λ results. AreAnsweredPart order m keeps input (joined all.runs.items) results) (sym answers)
      (subst (λ kept. AreAnsweredPart order m keeps input kept (flat_map answers_in places)) (sym runs) whole)

  -- the same of what is read of the places, if something is
  pub if_in_all : {E : Type 0} (input : List ℕ) (parts : List (Bor (List ℕ))) (places : List (Option AnsweredItems)) (read : Result (Option AnsweredParts) E)
      → AreParts input (bytes_of parts) → AreFilled order m keeps parts places
      → IfOk read (λ o. IfSome o (λ all. All IsSome places))
      → IfOk read (λ o. IfSome o (λ all. joined all.runs.items ≡ flat_map runs_in places))
      → IfOk read (λ o. IfSome o (λ all. all.answers.items ≡ flat_map answers_in places))
      → IfOk read (λ o. IfSome o (λ all. AreAnsweredPart order m keeps input (joined all.runs.items) all.answers.items))
  if_in_all input parts places (Ok (Some all)) p h s runs answers = in_all input parts places all p h s runs answers
  if_in_all input parts places (Ok None) p h s runs answers = tt
  if_in_all input parts places (Err e) p h s runs answers = tt
