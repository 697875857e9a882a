-- Four digits spell a number below 10,000.
use Rattle.std.proofs.Common.{◌≡◌, ◌<◌, ◌≤◌, ◌-◌, ◌&&◌, ℕ, Bool, true, false, length, List, [], ◌∷◌, arith, refl}
use Rattle.std.proofs.lemmas.Bool.Decides.{nat_tests}
use Rattle.pst_sexpr.specs.Integers.{is_digit, are_digits, magnitude}

digit : (b : ℕ) → is_digit b ≡ true → b - 48 ≤ 9
digit b h = let e : b ≤ 57 = grind (arith, nat_tests) in omega arith

both : (x y : Bool) → (x && y) ≡ true → (x ≡ true) × (y ≡ true)
both true y h = (refl, h)
both false y h = absurd (cc)

pub below : (digits : List ℕ) → length digits ≤ 4 → are_digits digits ≡ true → magnitude 0 digits < 10000
below [] l h = absurd (cc)
below (a ∷ []) l h = let p = both _ _ h in let x = digit a p.0 in omega arith
below (a ∷ b ∷ []) l h = let p = both _ _ h in let q = both _ _ p.1 in let x = digit a p.0 in let y = digit b q.0 in omega arith
below (a ∷ b ∷ c ∷ []) l h =
    let p = both _ _ h in let q = both _ _ p.1 in let r = both _ _ q.1 in
    let x = digit a p.0 in let y = digit b q.0 in let z = digit c r.0 in omega arith
below (a ∷ b ∷ c ∷ d ∷ []) l h =
    let p = both _ _ h in let q = both _ _ p.1 in let r = both _ _ q.1 in let s = both _ _ r.1 in
    let x = digit a p.0 in let y = digit b q.0 in let z = digit c r.0 in let w = digit d s.0 in omega arith
below (a ∷ b ∷ c ∷ d ∷ e ∷ more) l h = absurd (omega arith)

pub ruleset small = (below)
