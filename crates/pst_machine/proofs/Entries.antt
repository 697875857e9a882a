-- The end of a map's entries.
use Rattle.std.proofs.Common.{◌≡◌, ℕ, zero, suc, List, [], ◌∷◌, ◌++◌, length, drop, refl, sym, ap, ◌∙◌, arith}
use Rattle.std.specs.Prelude.{min}
use Rattle.std.proofs.lemmas.List.{append-nil}
use Rattle.pst_value.specs.declared.key.Key.{Key}
use Rattle.pst_machine.specs.Listing.{entries_text}

no_entries : (ks : List Key) (ps : List (List ℕ)) (i : ℕ) → i ≡ min (length ks) (length ps) → entries_text (drop i ks) (drop i ps) ≡ []
no_entries [] ps zero h = refl
no_entries [] ps (suc i) h = refl
no_entries (k ∷ ks) [] zero h = refl
no_entries (k ∷ ks) [] (suc i) h = absurd (omega arith)
no_entries (k ∷ ks) (p ∷ ps) zero h = absurd (omega arith)
no_entries (k ∷ ks) (p ∷ ps) (suc i) h = no_entries ks ps i (omega arith)

-- what stands before them is the whole text
pub entries_end : (ks : List Key) (ps : List (List ℕ)) (i : ℕ) (done whole : List ℕ) → i ≡ min (length ks) (length ps) → done ++ entries_text (drop i ks) (drop i ps) ≡ whole → done ≡ whole
entries_end ks ps i done whole h inv = sym (append-nil done) ∙ sym (ap (λ l. done ++ l) (no_entries ks ps i h)) ∙ inv
