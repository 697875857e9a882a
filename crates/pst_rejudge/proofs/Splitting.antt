-- Bytes that are split into lines, as far as a loop has come.
use Rattle.std.proofs.Common.{◌≡◌, ◌<◌, ◌+◌, ◌∙◌, ℕ, List, [], ◌∷◌, ◌++◌, Vec, Global, length, get_or, drop, drop-cons, take, map, add-one, refl, sym, ap, subst, append_assoc}
use Rattle.std.specs.Prelude.{◌==◌, if◌then◌else◌, true, false, Bool}
use Rattle.pst_rejudge.specs.Lines.{begun, ended}

-- the bytes of lines
abbrev pub texts : List (Vec ℕ Global) → List (List ℕ)
texts = map (λ line. line.items)

-- of a line this one may have been kept, and what is left of the bytes does to it what all of them do to the line
pub record Continues (limit : ℕ) (line kept : List ℕ) (before after : List (Vec ℕ Global)) (bytes : List ℕ) (i : ℕ) : Type 0 where
  pub now : List ℕ
  pub kept_of : kept ≡ take limit now
  pub begins : begun line bytes ≡ begun now (drop i bytes)
  pub ends : texts after ++ map (take limit) (ended now (drop i bytes)) ≡ texts before ++ map (take limit) (ended line bytes)

abbrev pub Splits : (limit : ℕ) (first kept : List ℕ) (before after : List (Vec ℕ Global)) (bytes : List ℕ) (i : ℕ) → Type 0
Splits limit first kept before after bytes i = (line : List ℕ) → first ≡ take limit line → Continues limit line kept before after bytes i
