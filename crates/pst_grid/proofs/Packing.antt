-- Counts, and the words that hold them.
use Rattle.std.proofs.Common.{◌≡◌, ℕ, zero, suc, ◌+◌, ◌-◌, ◌*◌, ◌/◌, ◌%◌, ◌<◌, ◌≤◌, List, [], ◌∷◌, length, drop, get_or, Bool, true, false, ◌&&◌, ◌==◌, nat_lt, if◌then◌else◌, refl, sym, ap, ◌∙◌, arith, true≢false, Some, None}
use Rattle.std.proofs.Math.Dec.{eqb-suc-zero}
use Rattle.std.proofs.lemmas.Bool.{lt-ltb, le-ltb, ltb-true, leb-true}
use Rattle.std.proofs.lemmas.Bool.Decides.{Decides-eqb}
use Rattle.std.proofs.lemmas.List.{drop_more, length-drop}
use Rattle.std.proofs.lemmas.Nat.{div-mul-add, mod-mul-add}
use Rattle.std.proofs.lemmas.Slice.Eq.{bytes_eq-Decides}
use Rattle.std.specs.Str.{bytes_eq}
use Rattle.pst_grid.specs.DoneCounts.{are_small, fits, word_of, word_for, counts_in}
use Rattle.pst_grid.specs.Packings.{counts_of, IsPacked}
use Rattle.pst_grid.specs.declared.position.Packing.TheVariants.{Word}
use Rattle.pst_grid.proofs.Remembering.{and-true}

not-zero : (n : ℕ) → 0 < n → (n == 0) ≡ false
not-zero zero h = absurd (omega arith)
not-zero (suc n) h = eqb-suc-zero n

and-false : (b : Bool) → (b && false) ≡ false
and-false true = refl
and-false false = refl

-- the counts of the word of small counts
pub counts-of-word : (digits : ℕ) (done : List ℕ) → length done ≤ digits → are_small done ≡ true → counts_in digits (word_of done) ≡ done
counts-of-word zero [] few small = refl
counts-of-word (suc digits) [] few small = refl
counts-of-word zero (count ∷ done) few small = absurd (omega arith)
counts-of-word (suc digits) (count ∷ done) few small =
    let b = and-true _ _ small in
    let count_small = ltb-true count 65_535 b.0 in
    let word = word_of done * 65_536 + (count + 1) in
    let high : word / 65_536 ≡ word_of done = div-mul-add (word_of done) 65_536 (count + 1) (omega arith) in
    let low : word % 65_536 ≡ count + 1 = mod-mul-add (word_of done) 65_536 (count + 1) (omega arith) in
    let same : count + 1 - 1 ≡ count = omega arith in
    ap (λ z. if z then [] else (word % 65_536 - 1) ∷ counts_in digits (word / 65_536)) (not-zero word (omega arith))
    ∙ ap (λ m. (m - 1) ∷ counts_in digits (word / 65_536)) low
    ∙ ap (λ n. (count + 1 - 1) ∷ counts_in digits n) high
    ∙ ap (λ x. x ∷ counts_in digits (word_of done)) same
    ∙ ap (λ ds. count ∷ ds) (counts-of-word digits done (omega arith) b.1)

-- the numbers of so many digits are below this
abbrev pub bound : ℕ → ℕ
bound zero = 1
bound (suc digits) = bound digits * 65_536

pub word-below : (digits : ℕ) (done : List ℕ) → length done ≤ digits → are_small done ≡ true → word_of done < bound digits
word-below zero [] few small = omega arith
word-below (suc digits) [] few small = let h = word-below digits [] (omega arith) refl in omega arith
word-below zero (count ∷ done) few small = absurd (omega arith)
word-below (suc digits) (count ∷ done) few small =
    let b = and-true _ _ small in
    let count_small = ltb-true count 65_535 b.0 in
    let h = word-below digits done (omega arith) b.1 in
    omega arith

-- one count before those that are done
pub small-more : (done : List ℕ) (i : ℕ) → i < length done → get_or done i 0 < 65_535 → are_small (drop (i + 1) done) ≡ true → are_small (drop i done) ≡ true
small-more done i within small h =
    ap are_small (drop_more done i 0 within) ∙ ap (λ b. b && are_small (drop (i + 1) done)) (lt-ltb (get_or done i 0) 65_535 small) ∙ h

pub word-more : (done : List ℕ) (i : ℕ) → i < length done → word_of (drop i done) ≡ word_of (drop (i + 1) done) * 65_536 + (get_or done i 0 + 1)
word-more done i within = ap word_of (drop_more done i 0 within)

-- one count that is large
pub large-not-small : (done : List ℕ) (i : ℕ) → 65_535 ≤ get_or done i 0 → are_small done ≡ false
large-not-small [] i h = absurd (omega arith)
large-not-small (count ∷ done) zero h = ap (λ b. b && are_small done) (le-ltb count 65_535 h)
large-not-small (count ∷ done) (suc i) h = ap (λ b. nat_lt count 65_535 && b) (large-not-small done i h) ∙ and-false (nat_lt count 65_535)

same-tests : (a b : Bool) → (a ≡ true → b ≡ true) → (b ≡ true → a ≡ true) → a ≡ b
same-tests true b p q = sym (p refl)
same-tests false true p q = q refl
same-tests false false p q = refl

-- words are equal just where their counts are
pub words-equal : (v w : ℕ) → word_of (counts_in 4 v) ≡ v → word_of (counts_in 4 w) ≡ w → (v == w) ≡ bytes_eq (counts_in 4 v) (counts_in 4 w)
words-equal v w p q = same-tests (v == w) (bytes_eq (counts_in 4 v) (counts_in 4 w))
    (λ e. (bytes_eq-Decides (counts_in 4 v) (counts_in 4 w)).1 (ap (counts_in 4) ((Decides-eqb v w).0 e)))
    (λ e. (Decides-eqb v w).1 (sym p ∙ ap word_of ((bytes_eq-Decides (counts_in 4 v) (counts_in 4 w)).0 e) ∙ q))

-- counts of which only the first fit in a word differ
pub fit-differs : (xs ys : List ℕ) → fits xs ≡ true → fits ys ≡ false → false ≡ bytes_eq xs ys
fit-differs xs ys p q = by (bytes_eq xs ys) refl
  where
    by : (b : Bool) → bytes_eq xs ys ≡ b → false ≡ b
    by true e = absurd (true≢false (sym p ∙ ap fits ((bytes_eq-Decides xs ys).0 e) ∙ q))
    by false e = refl

pub fit-differs-turned : (xs ys : List ℕ) → fits xs ≡ false → fits ys ≡ true → false ≡ bytes_eq xs ys
fit-differs-turned xs ys p q = by (bytes_eq xs ys) refl
  where
    by : (b : Bool) → bytes_eq xs ys ≡ b → false ≡ b
    by true e = absurd (true≢false (sym q ∙ ap fits (sym ((bytes_eq-Decides xs ys).0 e)) ∙ p))
    by false e = refl

-- what is left of four small counts leaves room for one more digit
pub room : (done : List ℕ) (i : ℕ) → length done ≤ 4 → 0 < i → are_small (drop i done) ≡ true → word_of (drop i done) < 281_474_976_710_656
room done i few below small = word-below 3 (drop i done) (omega (arith, length-drop i done)) small

-- the word of counts that fit
pub word-packs : (done : List ℕ) (word : ℕ) → Some word ≡ word_for done → IsPacked (Word word) × (counts_of (Word word) ≡ done)
word-packs done word e = by (fits done) refl e
  where
    by : (b : Bool) → fits done ≡ b → Some word ≡ (if b then Some (word_of done) else None) → IsPacked (Word word) × (counts_of (Word word) ≡ done)
    by false f k = cc
    by true f k =
        let same : word ≡ word_of done = cc in
        let b = and-true _ _ f in
        let few : length done ≤ 4 = leb-true (length done) 4 b.0 in
        let counts : counts_in 4 word ≡ done = ap (counts_in 4) same ∙ counts-of-word 4 done few b.1 in
        ((ap fits counts ∙ f, ap word_of counts ∙ sym same), counts)

-- counts that do not fit
pub none-fits : (done : List ℕ) → None ≡ word_for done → fits done ≡ false
none-fits done e = by (fits done) refl e
  where
    by : (b : Bool) → fits done ≡ b → None ≡ (if b then Some (word_of done) else None) → fits done ≡ false
    by false f k = f
    by true f k = cc
