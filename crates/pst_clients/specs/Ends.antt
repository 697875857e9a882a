-- What a launcher says at the end of a line.
use Rattle.std.specs.Prelude.{◌≡◌, ℕ, Bool, true, false, List, ◌∷◌, ◌++◌, codes, nat_eq, ⊤}
use Rattle.std.specs.List.{starts_with}
use Rattle.pst_clients.specs.Lines.{has_mark}
use Rattle.pst_clients.specs.declared.marks.LineEnd.{LineEnd}
use Rattle.pst_clients.specs.declared.marks.LineEnd.TheVariants as end

-- the bytes after a mark say that nobody knows whether the call took effect in which the client ended
abbrev pub says_unknown_end : List ℕ → Bool
says_unknown_end said = starts_with nat_eq said (codes "unknown ")

-- what the bytes after a mark mean
abbrev pub IsSaidAfterMark : List ℕ → LineEnd → Type 0
IsSaidAfterMark said end.Last = ⊤
IsSaidAfterMark said end.GivenUp = ⊤
IsSaidAfterMark said end.Started = ⊤
IsSaidAfterMark said end.Ended = says_unknown_end said ≡ false
IsSaidAfterMark said end.EndedUnknown = says_unknown_end said ≡ true

-- the line says this after its last mark
pub record IsSaidAtEnd (line : List ℕ) (e : LineEnd) : Type 0 where
  pub text : List ℕ
  pub said : List ℕ
  pub parts : line ≡ text ++ 24 ∷ said
  pub last : has_mark said ≡ false
  pub means : IsSaidAfterMark said e

-- the line says that its client ended, and that nobody knows whether the call took effect
abbrev pub SaysUnknownEnd : List ℕ → Type 0
SaysUnknownEnd line = IsSaidAtEnd line end.EndedUnknown
