-- A part of an expression that has no type, while all its own parts have one: these types.
use Rattle.std.specs.Prelude.{◌≡◌, ℤ, ℕ, Bool, List, [], ◌∷◌, map, Option, Some, None, slice_get, MatchOption}
use Rattle.pst_model.specs.Parts.{Name}
use Rattle.pst_model.specs.Rules.{Context}
use Rattle.pst_model.specs.declared.expr.Binary.{Binary}
use Rattle.pst_model.specs.declared.expr.Clause.{Clause}
use Rattle.pst_model.specs.declared.expr.Clause.TheVariants as clause
use Rattle.pst_model.specs.declared.expr.Expr.{Expr}
use Rattle.pst_model.specs.declared.expr.Expr.TheVariants as expr
use Rattle.pst_model.specs.declared.expr.Unary.{Unary}
use Rattle.pst_typing.specs.Decision.{◌>>=◌, item_type}
use Rattle.pst_value.specs.declared.key.KeyTy.{KeyTy}
use Rattle.pst_value.specs.declared.ty.Ty.{Ty}

-- the type of an expression among names, if it has one
abbrev pub Typing : Type 0
Typing = Expr → Context → Option Ty

-- the names that an expression sees, and the expression
abbrev pub Seen : Type 0
Seen = Context × Expr

-- a body that sees what is bound, where that has a type
abbrev pub body_seen : Option Context → Expr → List Seen
body_seen None b = []
body_seen (Some G) b = (G, b) ∷ []

-- names with one more, where it has a type
abbrev pub with_name : Context → Name → Option Ty → Option Context
with_name G x None = None
with_name G x (Some T) = Some ((x, T) ∷ G)

abbrev pub let_parts : Typing → Context → Name → Expr → Expr → List Seen
let_parts f G x e b = (G, e) ∷ body_seen (with_name G x (f e G)) b

abbrev pub if_parts : Context → Expr → Expr → Expr → List Seen
if_parts G c a b = (G, c) ∷ (G, a) ∷ (G, b) ∷ []

abbrev pub two_parts : Context → Expr → Expr → List Seen
two_parts G a b = (G, a) ∷ (G, b) ∷ []

abbrev pub one_part : Context → Expr → List Seen
one_part G e = (G, e) ∷ []

abbrev pub each_part : Context → List Expr → List Seen
each_part G es = map (λ e. (G, e)) es

-- the parts of a fold; its body only where what it sees has types
abbrev pub fold_parts : Typing → Context → Name → Expr → Name → Expr → Expr → List Seen
fold_parts f G x e acc i b =
    (G, e) ∷ (G, i) ∷ body_seen
    (f e G >>= item_type >>= (λ S. f i G >>= (λ T. Some ((acc, T) ∷ (x, S) ∷ G)))) b

-- the expressions of the clauses of a comprehension, and its body. What follows a clause that takes items of no
-- list is left out: what it sees has no type
pub data ForParts (f : Typing) : Context → List Clause → Expr → List Seen → Type 0 where
  for_body : (G : Context) (b : Expr) → ForParts f G [] b (one_part G b)
  for_in : (G : Context) (x : Name) (e : Expr) (cs : List Clause) (b : Expr) (S : Ty) (P : List Seen)
      → (f e G >>= item_type) ≡ Some S → ForParts f ((x, S) ∷ G) cs b P
      → ForParts f G (clause.In x e ∷ cs) b ((G, e) ∷ P)
  for_ends_in : (G : Context) (x : Name) (e : Expr) (cs : List Clause) (b : Expr)
      → (f e G >>= item_type) ≡ None → ForParts f G (clause.In x e ∷ cs) b (one_part G e)
  for_when : (G : Context) (e : Expr) (cs : List Clause) (b : Expr) (P : List Seen)
      → ForParts f G cs b P → ForParts f G (clause.When e ∷ cs) b ((G, e) ∷ P)

-- the parts of an expression from left to right, each with the names that it sees; a part that sees what has
-- no type is left out
pub data Parts (f : Typing) (G : Context) : Expr → List Seen → Type 0 where
  parts_int : (n : ℤ) → Parts f G (expr.Int n) []
  parts_bool : (b : Bool) → Parts f G (expr.Bool b) []
  parts_text : (t : List ℕ) → Parts f G (expr.Text t) []
  parts_name : (x : Name) → Parts f G (expr.Name x) []
  parts_let : (x : Name) (e b : Expr) → Parts f G (expr.Let x e b) (let_parts f G x e b)
  parts_if : (c a b : Expr) → Parts f G (expr.If c a b) (if_parts G c a b)
  parts_and : (a b : Expr) → Parts f G (expr.And a b) (two_parts G a b)
  parts_or : (a b : Expr) → Parts f G (expr.Or a b) (two_parts G a b)
  parts_unary : (op : Unary) (e : Expr) → Parts f G (expr.Unary op e) (one_part G e)
  parts_binary : (op : Binary) (a b : Expr) → Parts f G (expr.Binary op a b) (two_parts G a b)
  parts_tuple : (es : List Expr) → Parts f G (expr.Tuple es) (each_part G es)
  parts_at : (e : Expr) (place : ℕ) → Parts f G (expr.At e place) (one_part G e)
  parts_list : (T : Ty) (es : List Expr) → Parts f G (expr.List T es) (each_part G es)
  parts_for : (cs : List Clause) (b : Expr) (P : List Seen) → ForParts f G cs b P
      → Parts f G (expr.For cs b) P
  parts_fold : (x : Name) (e : Expr) (acc : Name) (i b : Expr)
      → Parts f G (expr.Fold x e acc i b) (fold_parts f G x e acc i b)
  parts_map : (k : KeyTy) (T : Ty) → Parts f G (expr.Map k T) []
  parts_put : (m k e : Expr) → Parts f G (expr.Put m k e) (if_parts G m k e)
  parts_call : (x : Name) (es : List Expr) → Parts f G (expr.Call x es) (each_part G es)
  parts_apply : (g : Name) (es : List Expr) → Parts f G (expr.Apply g es) (each_part G es)

-- the type that an expression has among the names that it sees, if it has one
abbrev pub type_seen : Typing → Seen → Option Ty
type_seen f p = f p.1 p.0

-- each of the parts has a type, and these are the types, in their order
abbrev pub AreTypes : Typing → List Seen → List Ty → Type 0
AreTypes f P types = map (type_seen f) P ≡ map Some types

-- a path of the numbers of parts, from 0, leads from among these to a part that has no type, while all its
-- own parts have the given types; each part on the way has none
abbrev pub Leads : Typing → List Seen → List Ty → List ℕ → Type 0
Leads f P types [] = AreTypes f P types
Leads f P types (k ∷ path) =
    MatchOption (slice_get P k) ⊥
    (λ p. (f p.1 p.0 ≡ None) × ((Q : List Seen) × Parts f p.0 p.1 Q × Leads f Q types path))

-- an expression has no type, and the path leads from it to the part that is to blame, whose parts have the given types
abbrev pub IsBlamed : Typing → Context → Expr → List Ty → List ℕ → Type 0
IsBlamed f G e types path = (f e G ≡ None) × ((P : List Seen) × Parts f G e P × Leads f P types path)
