-- The digits of a number, written one by one and told apart.
use Rattle.std.proofs.Common.{◌≡◌, ℕ, zero, suc, ◌+◌, ◌*◌, ◌/◌, ◌%◌, ◌^◌, ◌<◌, ◌≤◌, nat_lt, Bool, true, false, List, [], ◌∷◌, ◌++◌, if◌then◌else◌, sym, ap, ◌∙◌, arith, refl, append_assoc}
use Rattle.std.proofs.lemmas.Bool.{lt-ltb, le-ltb, ltb-true, ltb-false}
use Rattle.pst_judge.specs.Codes.{digits, number_code}

digits-small : (others n : ℕ) → n < 128 → digits (suc others) n ≡ n ∷ []
digits-small others n small = ap (λ b. if b then n ∷ [] else (n % 128 + 128) ∷ digits others (n / 128)) (lt-ltb n 128 small)

digits-large : (others n : ℕ) → 128 ≤ n → digits (suc others) n ≡ (n % 128 + 128) ∷ digits others (n / 128)
digits-large others n large = ap (λ b. if b then n ∷ [] else (n % 128 + 128) ∷ digits others (n / 128)) (le-ltb n 128 large)

-- the numbers of so many digits, and one more, are below this
abbrev bound : ℕ → ℕ
bound zero = 128
bound (suc others) = bound others * 128

spare-step : (others n : ℕ) → (n / 128 < bound others → digits (suc others) (n / 128) ≡ digits others (n / 128)) → n < bound others * 128
    → (b : Bool) → nat_lt n 128 ≡ b → digits (suc (suc others)) n ≡ digits (suc others) n
spare-step others n h small true e = digits-small (suc others) n (ltb-true n 128 e) ∙ sym (digits-small others n (ltb-true n 128 e))
spare-step others n h small false e =
    let large : 128 ≤ n = ltb-false n 128 e in
    let less : n / 128 < bound others = omega arith in
    digits-large (suc others) n large ∙ ap (λ ds. (n % 128 + 128) ∷ ds) (h less) ∙ sym (digits-large others n large)

-- digits to spare make no difference
spare : (others n : ℕ) → n < bound others → digits (suc others) n ≡ digits others n
spare zero n small = digits-small zero n small
spare (suc others) n small = spare-step others n (λ m. spare others (n / 128) m) small (nat_lt n 128) refl

-- a number of one digit
pub number_code-small : (n : ℕ) → n < 128 → number_code n ≡ n ∷ []
unfolding number_code
number_code-small n small = digits-small 8 n small

-- a number of several, by its lowest digit
pub number_code-large : (n : ℕ) → 128 ≤ n → n < 2 ^ 64 → number_code n ≡ (n % 128 + 128) ∷ number_code (n / 128)
unfolding number_code
number_code-large n large below =
    digits-large 8 n large ∙ ap (λ ds. (n % 128 + 128) ∷ ds) (sym (spare 8 (n / 128) (omega arith)))

-- one digit after another
pub number_code-more : (bytes : List ℕ) (n : ℕ) → 128 ≤ n → n < 2 ^ 64
    → (bytes ++ (n % 128 + 128) ∷ []) ++ number_code (n / 128) ≡ bytes ++ number_code n
number_code-more bytes n large below = rw (number_code-large n large below, append_assoc)

digits-step : (others a b : ℕ) (x y : List ℕ) → ((m n : ℕ) → digits others m ++ x ≡ digits others n ++ y → (m ≡ n) × (x ≡ y))
    → (p q : Bool) → nat_lt a 128 ≡ p → nat_lt b 128 ≡ q
    → (if p then a ∷ [] else (a % 128 + 128) ∷ digits others (a / 128)) ++ x ≡ (if q then b ∷ [] else (b % 128 + 128) ∷ digits others (b / 128)) ++ y
    → (a ≡ b) × (x ≡ y)
digits-step others a b x y h true true f g e = let p : a ≡ b = cc in let q : x ≡ y = cc in (p, q)
digits-step others a b x y h true false f g e =
    let p : a ≡ b % 128 + 128 = cc in let small : a < 128 = ltb-true a 128 f in absurd (omega arith)
digits-step others a b x y h false true f g e =
    let p : a % 128 + 128 ≡ b = cc in let small : b < 128 = ltb-true b 128 g in absurd (omega arith)
digits-step others a b x y h false false f g e =
    let p : a % 128 + 128 ≡ b % 128 + 128 = cc in
    let t : digits others (a / 128) ++ x ≡ digits others (b / 128) ++ y = cc in
    let r : (a / 128 ≡ b / 128) × (x ≡ y) = h (a / 128) (b / 128) t in
    let same : a ≡ b = omega (arith, p, r.0) in
    (same, r.1)

digits-apart : (others a b : ℕ) (x y : List ℕ) → digits others a ++ x ≡ digits others b ++ y → (a ≡ b) × (x ≡ y)
digits-apart zero a b x y e = let p : a ≡ b = cc in let q : x ≡ y = cc in (p, q)
digits-apart (suc others) a b x y e =
    digits-step others a b x y (λ m n. digits-apart others m n x y) (nat_lt a 128) (nat_lt b 128) refl refl e

-- the numbers are the same where their digits are, and then what follows these is the same
pub number_code-apart : (a b : ℕ) (x y : List ℕ) → number_code a ++ x ≡ number_code b ++ y → (a ≡ b) × (x ≡ y)
unfolding number_code
number_code-apart a b x y e = digits-apart 9 a b x y e

pub ruleset numbers = (number_code-small, number_code-more)
