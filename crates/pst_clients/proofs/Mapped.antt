-- A loop that collects something for each element of a mapped list.
use Rattle.std.proofs.Common.{◌≡◌, ℕ, ◌<◌, ◌+◌, List, [], ◌∷◌, ◌++◌, length, map, take, get_or, sym, ap, subst, ◌∙◌}
use Rattle.std.specs.List.{AllZip}
use Rattle.std.proofs.lemmas.List.{map-append, take_more}
use Rattle.std.proofs.lemmas.Slice.Zip.{all_zipped_more}

pub zip_more : {A B C : Type 0} (R : B → C → Type 0) (f : A → B) (xs : List A) (i : ℕ) (x : A) (ys : List C) (y : C)
    → i < length xs → x ≡ get_or xs i x → AllZip R (map f (take i xs)) ys → R (f x) y
    → AllZip R (map f (take (i + 1) xs)) (ys ++ y ∷ [])
zip_more R f xs i x ys y less e zip r =
    let front : map f (take (i + 1) xs) ≡ map f (take i xs) ++ f x ∷ [] =
    ap (map f) (take_more xs i x less) ∙ (map-append f (take i xs) (get_or xs i x ∷ [])
    ∙ ap (λ z. map f (take i xs) ++ f z ∷ []) (sym e)) in
    subst (λ zs. AllZip R zs (ys ++ y ∷ [])) (sym front) (all_zipped_more R (map f (take i xs)) ys (f x) y zip r)
