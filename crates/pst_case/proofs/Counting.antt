-- One reply more.
use Rattle.std.proofs.Common.{◌≡◌, ℕ, zero, suc, ◌+◌, List, [], ◌∷◌, take, Option, Some, None, refl, sym, ap, ◌∙◌, arith}
use Rattle.std.specs.Prelude.{slice_get}
use Rattle.pst_case.specs.Times.{called, calls_of}
use Rattle.pst_case.specs.declared.history.Reply.{Reply}

pub called_more : (rs : List Reply) (i : ℕ) (r : Reply) → slice_get rs i ≡ Some r
    → called (take (i + 1) rs) ≡ called (take i rs) + calls_of r
called_more [] i r e = absurd (cc)
called_more (x ∷ rs) zero r e = let q : x ≡ r = cc in let k : calls_of x ≡ calls_of r = ap calls_of q in omega (arith, k)
called_more (x ∷ rs) (suc i) r e =
    let z : suc i + 1 ≡ suc (i + 1) = omega arith in
    let q : called (take (suc i + 1) (x ∷ rs)) ≡ calls_of x + called (take (i + 1) rs) = ap (λ n. called (take n (x ∷ rs))) z in
    let k = called_more rs i r e in omega (arith, k, q)
