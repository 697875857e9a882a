-- The words that head a bracket.
use Rattle.std.specs.Prelude.{ℕ, Bool, true, false, if◌then◌else◌, List, [], ◌∷◌, Option, Some, None, codes}
use Rattle.std.specs.Str.{bytes_eq}
use Rattle.pst_model.specs.declared.expr.Binary.TheVariants as binary
use Rattle.pst_model.specs.declared.expr.Unary.TheVariants as unary
use Rattle.pst_syntax.specs.declared.words.Head.{Head}
use Rattle.pst_syntax.specs.declared.words.Head.TheVariants as head

-- THE TABLE OF HEAD WORDS, of expressions, types and clauses
abbrev pub rows : List (List ℕ × Head)
rows =
    (codes "let", head.Let) ∷
    (codes "if", head.If) ∷
    (codes "+", head.Binary binary.Add) ∷
    (codes "-", head.Binary binary.Sub) ∷
    (codes "*", head.Binary binary.Mul) ∷
    (codes "div", head.Binary binary.Div) ∷
    (codes "rem", head.Binary binary.Rem) ∷
    (codes "<", head.Binary binary.Less) ∷
    (codes "<=", head.Binary binary.LessEqual) ∷
    (codes "=", head.Binary binary.Equal) ∷
    (codes "same", head.Binary binary.Same) ∷
    (codes "not", head.Unary unary.Not) ∷
    (codes "and", head.And) ∷
    (codes "or", head.Or) ∷
    (codes "tuple", head.Tuple) ∷
    (codes "at", head.At) ∷
    (codes "list", head.List) ∷
    (codes "++", head.Binary binary.Append) ∷
    (codes "len", head.Unary unary.Len) ∷
    (codes "nth", head.Binary binary.Nth) ∷
    (codes "range", head.Binary binary.Range) ∷
    (codes "for", head.For) ∷
    (codes "fold", head.Fold) ∷
    (codes "call", head.Call) ∷
    (codes "deref", head.Unary unary.Deref) ∷
    (codes "ref", head.Ref) ∷
    (codes "in", head.In) ∷
    (codes "when", head.When) ∷
    []

-- THE HEAD WORDS OF MAPS, which count in a language that has maps
abbrev pub map_rows : List (List ℕ × Head)
map_rows =
    (codes "get", head.Binary binary.Get) ∷
    (codes "has", head.Binary binary.Has) ∷
    (codes "del", head.Binary binary.Del) ∷
    (codes "keys", head.Unary unary.Keys) ∷
    (codes "put", head.Put) ∷
    (codes "map", head.Map) ∷
    []

-- the head beside the first row's word that is this word
abbrev pub look_up : List (List ℕ × Head) → List ℕ → Option Head
look_up [] word = None
look_up (row ∷ rows) word = if bytes_eq row.0 word then Some row.1 else look_up rows word

-- a head that was found, or else that of a word of maps, where the language has maps
abbrev pub or_of_maps : Option Head → Bool → List ℕ → Option Head
or_of_maps (Some head) has_maps word = Some head
or_of_maps None true word = look_up map_rows word
or_of_maps None false word = None

-- the head that a word is, in the language with or without maps
unfoldable pub head_of : Bool → List ℕ → Option Head
head_of has_maps word = or_of_maps (look_up rows word) has_maps word
