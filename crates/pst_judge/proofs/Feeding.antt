-- The words of bytes, one after another.
use Rattle.std.proofs.Common.{◌≡◌, ℕ, ◌<◌, ◌≤◌, List, [], ◌∷◌, ◌++◌, length, get_or, drop, refl, ap, sym, ◌∙◌, arith}
use Rattle.std.specs.Hash as hash
use Rattle.std.specs.Hash.{le_bytes}
use Rattle.std.specs.List.{fold}
use Rattle.std.specs.Int.{from_le_bytes, w64}
use Rattle.pst_judge.specs.Feeding.{words}

-- fewer than eight bytes are one write
pub words-few : (bytes : List ℕ) → (bytes ≡ [] → ⊥) → length bytes < 8 → words bytes ≡ bytes ∷ []
words-few [] some few = absurd (some refl)
words-few (a ∷ []) some few = refl
words-few (a ∷ b ∷ []) some few = refl
words-few (a ∷ b ∷ c ∷ []) some few = refl
words-few (a ∷ b ∷ c ∷ d ∷ []) some few = refl
words-few (a ∷ b ∷ c ∷ d ∷ e ∷ []) some few = refl
words-few (a ∷ b ∷ c ∷ d ∷ e ∷ f ∷ []) some few = refl
words-few (a ∷ b ∷ c ∷ d ∷ e ∷ f ∷ g ∷ []) some few = refl
words-few (a ∷ b ∷ c ∷ d ∷ e ∷ f ∷ g ∷ h ∷ more) some few = absurd (omega arith)

-- the first eight bytes are one number
pub words-more : (bytes : List ℕ) → 8 ≤ length bytes → words bytes
    ≡ hash.u64 (from_le_bytes w64 (get_or bytes 0 0 ∷ get_or bytes 1 0 ∷ get_or bytes 2 0 ∷ get_or bytes 3 0 ∷ get_or bytes 4 0 ∷ get_or bytes 5 0 ∷ get_or bytes 6 0 ∷ get_or bytes 7 0 ∷ []))
    ++ words (drop 8 bytes)
words-more [] many = absurd (omega arith)
words-more (a ∷ []) many = absurd (omega arith)
words-more (a ∷ b ∷ []) many = absurd (omega arith)
words-more (a ∷ b ∷ c ∷ []) many = absurd (omega arith)
words-more (a ∷ b ∷ c ∷ d ∷ []) many = absurd (omega arith)
words-more (a ∷ b ∷ c ∷ d ∷ e ∷ []) many = absurd (omega arith)
words-more (a ∷ b ∷ c ∷ d ∷ e ∷ f ∷ []) many = absurd (omega arith)
words-more (a ∷ b ∷ c ∷ d ∷ e ∷ f ∷ g ∷ []) many = absurd (omega arith)
words-more (a ∷ b ∷ c ∷ d ∷ e ∷ f ∷ g ∷ h ∷ more) many = refl

-- the number that the first eight bytes are
abbrev pub first : List ℕ → ℕ
first bytes = from_le_bytes w64 (get_or bytes 0 0 ∷ get_or bytes 1 0 ∷ get_or bytes 2 0 ∷ get_or bytes 3 0 ∷ get_or bytes 4 0 ∷ get_or bytes 5 0 ∷ get_or bytes 6 0 ∷ get_or bytes 7 0 ∷ [])

-- a hasher's state before and after eight bytes
pub feed-more : {S : Type 0} (write : S → List ℕ → S) (s t : S) (rest more : List ℕ) → 8 ≤ length rest → more ≡ drop 8 rest
    → t ≡ write s (le_bytes 8 (first rest)) → fold write s (words rest) ≡ fold write t (words more)
feed-more write s t rest more many is step =
    ap (fold write s) (words-more rest many) ∙ ap (λ u. fold write u (words (drop 8 rest))) (sym step) ∙ ap (λ bytes. fold write t (words bytes)) (sym is)

pub ruleset feeding = (words-few)
