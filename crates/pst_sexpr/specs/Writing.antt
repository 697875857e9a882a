-- What a sink took of a text that it was given. `before` and `after` are the bytes that it has taken, where
-- they are
-- known. Nothing is said of the bytes of a sink that does not state them.
use Rattle.std.specs.Prelude.{◌≡◌, ℕ, Bool, true, false, List, ◌++◌, Option, Result, MatchResult, [], ◌∷◌}
use Rattle.std.specs.Borrow.{Bor}
use Rattle.std.specs.Io.KnownBytes.{Appends}
use Rattle.pst_sexpr.specs.declared.sink.WriteFailed.{WriteFailed}

-- all of the text was appended, and the sink has not failed
pub record WritesAll (before after : Option (List ℕ)) (broken : Bool) (text : List ℕ) : Type 0 where
  pub appended : Appends before after text
  pub stands : broken ≡ false

-- a beginning of the text was appended
pub record WritesPart (before after : Option (List ℕ)) (text : List ℕ) : Type 0 where
  pub sent : List ℕ
  pub unsent : List ℕ
  pub split : text ≡ sent ++ unsent
  pub appended : Appends before after sent

-- At Ok all of the text was appended. At Err a beginning of it was, and the sink has failed.
pub record Writes (before after : Option (List ℕ)) (broken : Bool) (result : Result (Unit {0}) WriteFailed)
    (text : List ℕ) : Type 0 where
  pub outcome : MatchResult result
      (λ _. WritesAll before after broken text)
      (λ _. WritesPart before after text × (broken ≡ true))

-- the bytes of slices, one after another
abbrev pub joined : List (Bor (List ℕ)) → List ℕ
joined [] = []
joined (part ∷ parts) = part.now ++ joined parts
