-- All that is wrong with a tree, in order: its own fault, and then the faults of its parts from left to
-- right.
use Rattle.std.specs.Prelude.{ℕ, zero, suc, nat_le, Bool, true, false, List, [], ◌∷◌, ◌++◌, length, map, not, Option, Some, None, Result, Ok, Err}
use Rattle.std.specs.Str.{bytes_eq}
use Rattle.pst_sexpr.specs.declared.form.Form.{Form}
use Rattle.pst_syntax.specs.declared.fault.FaultKind.{FaultKind}
use Rattle.pst_syntax.specs.declared.fault.FaultKind.TheVariants.{UnknownForm, BadName, DoubleName, OverLimit}
use Rattle.pst_syntax.specs.Names.{is_free, is_short, is_used_operation}
use Rattle.pst_sexpr.specs.Integers.{value}
use Rattle.pst_value.specs.Text.{is_i64}
use Rattle.pst_syntax.specs.Shape.{Shape, TyShape, ClauseShape, Integer, Truth, Quoted, Used, Let, If, And, Or, Unary, Binary, Tuple, At, ListOf, For, Fold, MapOf, Put, Call, Apply, IntType, BoolType, TextType, CallType, TupleType, ListType, MapType, RefType, InEach, WhenTrue, shape_of, ty_shape, clause_shape}
use Rattle.pst_syntax.specs.Reading.{are_few}
use Rattle.pst_syntax.specs.Limits.{max_text, ty_room}

-- a part, by what is wanted there
pub data Part : Type 0 where
  -- a declared name: whether it is lawful there, and whether it is taken
  Declared : Bool → Bool → List ℕ → Part
  -- the place of an item
  Place : List ℕ → Part
  -- the name of an operation where it is used
  Operation : List ℕ → Part
  OfType : Form → Part
  Expression : Form → Part
  Clause : Form → Part

-- a bound name
abbrev pub Bound : Bool → List ℕ → Part
Bound has_maps word = Declared (is_free has_maps word) false word

-- the parts of each form, from left to right
abbrev pub parts : Bool → Shape → List Part
parts has_maps (Integer word) = []
parts has_maps (Truth b) = []
parts has_maps (Quoted text) = []
parts has_maps (Used x) = []
parts has_maps (Let x e b) = Bound has_maps x ∷ Expression e ∷ Expression b ∷ []
parts has_maps (If c a b) = Expression c ∷ Expression a ∷ Expression b ∷ []
parts has_maps (And a b) = Expression a ∷ Expression b ∷ []
parts has_maps (Or a b) = Expression a ∷ Expression b ∷ []
parts has_maps (Unary operator a) = Expression a ∷ []
parts has_maps (Binary operator a b) = Expression a ∷ Expression b ∷ []
parts has_maps (Tuple es) = map Expression es
parts has_maps (At e i) = Expression e ∷ Place i ∷ []
parts has_maps (ListOf t es) = OfType t ∷ map Expression es
parts has_maps (For cs b) = map Clause cs ++ Expression b ∷ []
parts has_maps (Fold x e acc i b) =
    Bound has_maps x ∷ Expression e ∷ Declared (is_free has_maps acc) (bytes_eq x acc) acc ∷ Expression i
    ∷ Expression b ∷ []
parts has_maps (MapOf k t) = OfType t ∷ []
parts has_maps (Put m k v) = Expression m ∷ Expression k ∷ Expression v ∷ []
parts has_maps (Call op es) = Operation op ∷ map Expression es
parts has_maps (Apply f es) = map Expression es

abbrev pub ty_parts : TyShape → List Part
ty_parts IntType = []
ty_parts BoolType = []
ty_parts TextType = []
ty_parts CallType = []
ty_parts (TupleType ts) = map OfType ts
ty_parts (ListType t) = OfType t ∷ []
ty_parts (MapType k t) = OfType t ∷ []
ty_parts (RefType t) = OfType t ∷ []

abbrev pub clause_parts : Bool → ClauseShape → List Part
clause_parts has_maps (InEach x e) = Bound has_maps x ∷ Expression e ∷ []
clause_parts has_maps (WhenTrue c) = Expression c ∷ []

-- the limits of a form, besides that of its depth
abbrev pub fits : Shape → Bool
fits (Integer word) = is_i64 (value word)
fits (Quoted text) = nat_le (length text) max_text
fits (Tuple es) = are_few es
fits (For cs b) = are_few cs
fits _ = true

abbrev pub ty_fits : TyShape → Bool
ty_fits (TupleType ts) = are_few ts
ty_fits _ = true

-- one fault unless the test holds, and then the rest
abbrev pub unless : Bool → FaultKind → List FaultKind → List FaultKind
unless true kind rest = rest
unless false kind rest = kind ∷ rest

abbrev pub name_faults : Bool → Bool → List ℕ → List FaultKind
name_faults is_lawful is_taken word =
    unless is_lawful BadName (unless (not is_taken) DoubleName (unless (is_short word) OverLimit []))

abbrev pub place_faults : List ℕ → List FaultKind
place_faults word = unless (is_i64 (value word)) OverLimit []

-- the faults of what stands there, where some form of the tables does
abbrev pub faults_of : {S : Type 0} → Option S → (S → List FaultKind) → List FaultKind
faults_of None f = UnknownForm ∷ []
faults_of (Some shape) f = f shape

abbrev pub all_faults : (Part → List FaultKind) → List Part → List FaultKind
all_faults p [] = []
all_faults p (part ∷ more) = p part ++ all_faults p more

abbrev pub none : Form → List FaultKind
none form = []

-- the faults of a part, from those of clauses, types and expressions
abbrev pub part_faults : (Form → List FaultKind) → (Form → List FaultKind) → (Form → List FaultKind) → Part →
    List FaultKind
part_faults c t e (Declared is_lawful is_taken word) = name_faults is_lawful is_taken word
part_faults c t e (Place word) = place_faults word
part_faults c t e (Operation word) = unless (is_used_operation word) UnknownForm []
part_faults c t e (OfType form) = t form
part_faults c t e (Expression form) = e form
part_faults c t e (Clause form) = c form

abbrev pub clause_faults : Bool → (Form → List FaultKind) → Form → List FaultKind
clause_faults has_maps e form =
    faults_of (clause_shape form)
    (λ shape. all_faults (part_faults none none e) (clause_parts has_maps shape))

-- a type with so many levels of room, in the language with or without maps
unfoldable pub ty_faults : Bool → ℕ → Form → List FaultKind
ty_faults has_maps zero form = faults_of (ty_shape has_maps form) (λ shape. OverLimit ∷ [])
ty_faults has_maps (suc room) form =
    faults_of (ty_shape has_maps form)
    (λ shape. unless (ty_fits shape) OverLimit
    (all_faults (part_faults none (ty_faults has_maps room) none) (ty_parts shape)))

-- an expression with so many levels of room, in the language with or without maps; a type in it starts anew
unfoldable pub expr_faults : Bool → ℕ → Form → List FaultKind
expr_faults has_maps zero form = faults_of (shape_of has_maps form) (λ shape. OverLimit ∷ [])
expr_faults has_maps (suc room) form =
    faults_of (shape_of has_maps form)
    (λ shape. unless (fits shape) OverLimit
    (all_faults
    (part_faults (clause_faults has_maps (expr_faults has_maps room)) (ty_faults has_maps ty_room)
    (expr_faults has_maps room))
    (parts has_maps shape)))

abbrev pub first : {A : Type 0} → List A → Option A
first [] = None
first (a ∷ more) = Some a

-- why it is refused, where it is
abbrev pub refusal : {A E : Type 0} → Result A E → Option E
refusal (Ok a) = None
refusal (Err fault) = Some fault
