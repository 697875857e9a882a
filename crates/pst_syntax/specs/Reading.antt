-- Reading expressions, types and clauses: each tree before its parts, the parts from left to right.
use Rattle.std.specs.Prelude.{ℕ, zero, suc, nat_le, Bool, true, false, if◌then◌else◌, List, [], ◌∷◌, length, Option, Some, None, Result, Ok, Err, ◌≡◌, ◌⊎◌}
use Rattle.std.specs.Str.{bytes_eq}
use Rattle.pst_sexpr.specs.declared.form.Form.{Form}
use Rattle.pst_value.specs.declared.ty.Ty.{Ty}
use Rattle.pst_value.specs.declared.ty.Ty as ty
use Rattle.pst_model.specs.declared.expr.Expr.{Expr}
use Rattle.pst_model.specs.declared.expr.Expr as expr
use Rattle.pst_model.specs.declared.expr.Clause.{Clause}
use Rattle.pst_model.specs.declared.expr.Clause as clause
use Rattle.pst_syntax.specs.declared.fault.FaultKind.{FaultKind}
use Rattle.pst_syntax.specs.declared.fault.FaultKind.TheVariants.{UnknownForm, BadName, DoubleName, OverLimit, NoMemory}
use Rattle.pst_syntax.specs.Names.{is_free, is_short, is_used_operation}
use Rattle.pst_sexpr.specs.Integers.{value}
use Rattle.pst_value.specs.Text.{is_i64}
use Rattle.pst_syntax.specs.Places.{natural}
use Rattle.pst_syntax.specs.Limits.{max_text, max_parts, ty_room}
use Rattle.pst_syntax.specs.Shape.{Shape, TyShape, ClauseShape, Integer, Truth, Quoted, Used, Let, If, And, Or, Unary, Binary, Tuple, At, ListOf, For, Fold, MapOf, Put, Call, Apply, IntType, BoolType, TextType, CallType, TupleType, ListType, MapType, RefType, InEach, WhenTrue, shape_of, ty_shape, clause_shape}

-- what is read, or why it is refused
abbrev pub Read : Type 0 → Type 0
Read A = Result A FaultKind

infixl 10 ◌>>=◌
abbrev pub ◌>>=◌ : {A B : Type 0} → Read A → (A → Read B) → Read B
Ok a >>= f = f a
Err kind >>= f = Err kind

-- what is made of the shape, where some form of the tables stands there
abbrev pub known : {S A : Type 0} → Option S → (S → Read A) → Read A
known None f = Err UnknownForm
known (Some shape) f = f shape

-- within a limit
abbrev pub within : {A : Type 0} → Bool → Read A → Read A
within true a = a
within false a = Err OverLimit

-- a lawful name
abbrev pub lawful : {A : Type 0} → Bool → Read A → Read A
lawful true a = a
lawful false a = Err BadName

-- what stands there for the second time is refused
abbrev pub once : {A : Type 0} → Bool → Read A → Read A
once true a = Err DoubleName
once false a = a

-- all from left to right
abbrev pub each : {A : Type 0} → (Form → Read A) → List Form → Read (List A)
each read [] = Ok []
each read (form ∷ forms) = read form >>= (λ a. each read forms >>= (λ more. Ok (a ∷ more)))

-- a name where it is declared: whether it is lawful there, and whether it is taken
unfoldable pub declared : Bool → Bool → List ℕ → Read (List ℕ)
declared is_lawful is_taken word = lawful is_lawful (once is_taken (within (is_short word) (Ok word)))

-- a bound name
abbrev pub bound : Bool → List ℕ → Read (List ℕ)
bound has_maps word = declared (is_free has_maps word) false word

-- a bound name that stands beside another one
abbrev pub bound_beside : Bool → List ℕ → List ℕ → Read (List ℕ)
bound_beside has_maps other word = declared (is_free has_maps word) (bytes_eq other word) word

-- the name of an operation where it is used
abbrev pub used_operation : List ℕ → Read (List ℕ)
used_operation word = if is_used_operation word then Ok word else Err UnknownForm

-- an integer of 64 bits
abbrev pub int_of : List ℕ → Read Expr
int_of word = within (is_i64 (value word)) (Ok (expr.Int (value word)))

-- an item of a tuple
abbrev pub item_at : Expr → List ℕ → Read Expr
item_at e word = within (is_i64 (value word)) (Ok (expr.At e (natural (value word))))

abbrev pub text_of : List ℕ → Read Expr
text_of text = within (nat_le (length text) max_text) (Ok (expr.Text text))

abbrev pub are_few : List Form → Bool
are_few forms = nat_le (length forms) max_parts

-- ---- types

abbrev pub ty_parts : (Form → Read Ty) → TyShape → Read Ty
ty_parts t IntType = Ok ty.Int
ty_parts t BoolType = Ok ty.Bool
ty_parts t TextType = Ok ty.Text
ty_parts t CallType = Ok ty.Call
ty_parts t (TupleType ts) = within (are_few ts) (each t ts >>= (λ ts. Ok (ty.Tuple ts)))
ty_parts t (ListType a) = t a >>= (λ a. Ok (ty.List a))
ty_parts t (MapType k a) = t a >>= (λ a. Ok (ty.Map k a))
ty_parts t (RefType a) = t a >>= (λ a. Ok (ty.Ref a))

-- a type with so many levels of room, in the language with or without maps
unfoldable pub ty_of : Bool → ℕ → Form → Read Ty
ty_of has_maps zero form = known (ty_shape has_maps form) (λ shape. Err OverLimit)
ty_of has_maps (suc room) form = known (ty_shape has_maps form) (ty_parts (ty_of has_maps room))

-- ---- expressions

abbrev pub clause_parts : Bool → (Form → Read Expr) → ClauseShape → Read Clause
clause_parts has_maps e (InEach x a) = bound has_maps x >>= (λ x. e a >>= (λ a. Ok (clause.In x a)))
clause_parts has_maps e (WhenTrue c) = e c >>= (λ c. Ok (clause.When c))

abbrev pub clause_of : Bool → (Form → Read Expr) → Form → Read Clause
clause_of has_maps e form = known (clause_shape form) (clause_parts has_maps e)

abbrev pub expr_parts : Bool → (Form → Read Ty) → (Form → Read Expr) → Shape → Read Expr
expr_parts has_maps t e (Integer word) = int_of word
expr_parts has_maps t e (Truth b) = Ok (expr.Bool b)
expr_parts has_maps t e (Quoted text) = text_of text
expr_parts has_maps t e (Used x) = Ok (expr.Name x)
expr_parts has_maps t e (Let x a b) =
    bound has_maps x >>= (λ x. e a >>= (λ a. e b >>= (λ b. Ok (expr.Let x a b))))
expr_parts has_maps t e (If c a b) = e c >>= (λ c. e a >>= (λ a. e b >>= (λ b. Ok (expr.If c a b))))
expr_parts has_maps t e (And a b) = e a >>= (λ a. e b >>= (λ b. Ok (expr.And a b)))
expr_parts has_maps t e (Or a b) = e a >>= (λ a. e b >>= (λ b. Ok (expr.Or a b)))
expr_parts has_maps t e (Unary operator a) = e a >>= (λ a. Ok (expr.Unary operator a))
expr_parts has_maps t e (Binary operator a b) = e a >>= (λ a. e b >>= (λ b. Ok (expr.Binary operator a b)))
expr_parts has_maps t e (Tuple es) = within (are_few es) (each e es >>= (λ es. Ok (expr.Tuple es)))
expr_parts has_maps t e (At a i) = e a >>= (λ a. item_at a i)
expr_parts has_maps t e (ListOf a es) = t a >>= (λ a. each e es >>= (λ es. Ok (expr.List a es)))
expr_parts has_maps t e (For cs b) =
    within (are_few cs) (each (clause_of has_maps e) cs >>= (λ cs. e b >>= (λ b. Ok (expr.For cs b))))
expr_parts has_maps t e (Fold x a acc i b) =
    bound has_maps x >>= (λ y. e a >>= (λ a. bound_beside has_maps x acc
    >>= (λ acc. e i >>= (λ i. e b >>= (λ b. Ok (expr.Fold y a acc i b))))))
expr_parts has_maps t e (MapOf k a) = t a >>= (λ a. Ok (expr.Map k a))
expr_parts has_maps t e (Put m k v) =
    e m >>= (λ m. e k >>= (λ k. e v >>= (λ v. Ok (expr.Put m k v))))
expr_parts has_maps t e (Call op es) =
    used_operation op >>= (λ op. each e es >>= (λ es. Ok (expr.Call op es)))
expr_parts has_maps t e (Apply f es) = each e es >>= (λ es. Ok (expr.Apply f es))

-- an expression with so many levels of room, in the language with or without maps; a type in it starts anew
unfoldable pub expr_of : Bool → ℕ → Form → Read Expr
expr_of has_maps zero form = known (shape_of has_maps form) (λ shape. Err OverLimit)
expr_of has_maps (suc room) form =
    known (shape_of has_maps form) (expr_parts has_maps (ty_of has_maps ty_room) (expr_of has_maps room))

-- ---- what the reader ensures

-- the answer is that of the definition, unless memory is refused
abbrev pub Gives : {A : Type 0} → Result A FaultKind → Read A → Type 0
Gives (Ok a) defined = defined ≡ Ok a
Gives (Err kind) defined = (kind ≡ NoMemory) ⊎ (defined ≡ Err kind)
