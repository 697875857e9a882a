-- The bytes of parts, in a list of references to them.
use Rattle.std.proofs.Common.{◌≡◌, ℕ, refl, ap, List, [], ◌∷◌, ◌++◌, map, Bor}
use Rattle.std.specs.List.{AllZip}

abbrev pub bytes_of : List (Bor (List ℕ)) → List (List ℕ)
bytes_of = map (λ part. part.now)

pub pushed : (parts : List (Bor (List ℕ))) (part : Bor (List ℕ)) (behind : List (List ℕ))
    → bytes_of (parts ++ part ∷ []) ++ behind ≡ bytes_of parts ++ part.now ∷ behind
pushed [] part behind = refl
pushed (first ∷ parts) part behind = ap (λ l. first.now ∷ l) (pushed parts part behind)

pub pushed_last : (parts : List (Bor (List ℕ))) (part : Bor (List ℕ)) → bytes_of (parts ++ part ∷ []) ≡ bytes_of parts ++ part.now ∷ []
pushed_last [] part = refl
pushed_last (first ∷ parts) part = ap (λ l. first.now ∷ l) (pushed_last parts part)

-- what holds of each reference by its bytes holds of the bytes
pub of_bytes : {Y : Type 0} (P : List ℕ → Y → Type 0) (parts : List (Bor (List ℕ))) (ys : List Y)
    → AllZip (λ part y. P part.now y) parts ys → AllZip P (bytes_of parts) ys
of_bytes P [] [] h = h
of_bytes P [] (y ∷ ys) h = h
of_bytes P (part ∷ parts) [] h = h
of_bytes P (part ∷ parts) (y ∷ ys) h = (h.0, of_bytes P parts ys h.1)
