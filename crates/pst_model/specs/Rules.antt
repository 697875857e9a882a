-- The typing rules of expressions.
use Rattle.std.specs.Prelude.{◌≡◌, ◌||◌, not, ℕ, ℤ, ◌^◌, nat_lt, nat_le, Bool, true, false, if◌then◌else◌, List, [], ◌∷◌, length, map, Option, Some, None}
use Rattle.std.specs.Str.{bytes_eq}
use Rattle.pst_model.specs.Kinds.{holds_ref_or_call}
use Rattle.pst_model.specs.Parts.{Name, operation_number, operation_of, types_of}
use Rattle.pst_model.specs.declared.expr.Binary.{Binary}
use Rattle.pst_model.specs.declared.expr.Binary.TheVariants.{Add, Sub, Mul, Div, Rem, Less, LessEqual, Equal, Same, Append, Nth, Range, Get, Has as HasKey, Del}
use Rattle.pst_model.specs.declared.expr.Clause.{Clause}
use Rattle.pst_model.specs.declared.expr.Clause.TheVariants as clause
use Rattle.pst_model.specs.declared.expr.Expr.{Expr}
use Rattle.pst_model.specs.declared.expr.Expr.TheVariants as expr
use Rattle.pst_model.specs.declared.expr.Unary.{Unary}
use Rattle.pst_model.specs.declared.expr.Unary.TheVariants.{Not, Len, Deref, Keys}
use Rattle.pst_model.specs.declared.model.Fun.{Fun}
use Rattle.pst_model.specs.declared.model.Item.{Item}
use Rattle.pst_model.specs.declared.model.Item.TheVariants as item
use Rattle.pst_model.specs.declared.model.Op.{Op}
use Rattle.pst_model.specs.declared.model.Param.{Param}
use Rattle.pst_value.specs.Subst.{numbered}
use Rattle.pst_value.specs.Text.{is_i64, is_text, limit}
use Rattle.pst_value.specs.declared.key.KeyTy.{KeyTy}
use Rattle.pst_value.specs.declared.key.KeyTy.TheVariants as kind
use Rattle.pst_value.specs.declared.ty.Ty.{Ty}
use Rattle.pst_value.specs.declared.ty.Ty.TheVariants as ty

-- the names that an expression sees with their types, the inner ones first
abbrev pub Context : Type 0
Context = List (Name × Ty)

abbrev pub type_named : Context → Name → Option Ty
type_named [] x = None
type_named (binding ∷ outer) x = if bytes_eq binding.0 x then Some binding.1 else type_named outer x

-- parameters as a context
abbrev pub context_of : List Param → Context
context_of params = map (λ p. (p.name, p.ty)) params

-- the last function of the name among items, given the last first
abbrev pub signature : List Item → Name → Option Fun
signature [] f = None
signature (item.Fun g ∷ earlier) f = if bytes_eq g.name f then Some g else signature earlier f
signature (_ ∷ earlier) f = signature earlier f

-- ---- operators

abbrev pub is_arithmetic : Binary → Bool
is_arithmetic Add = true
is_arithmetic Sub = true
is_arithmetic Mul = true
is_arithmetic Div = true
is_arithmetic Rem = true
is_arithmetic _ = false

abbrev pub is_order : Binary → Bool
is_order Less = true
is_order LessEqual = true
is_order _ = false

-- the type of the keys, as values
abbrev pub key_type : KeyTy → Ty
key_type kind.Int = ty.Int
key_type kind.Bool = ty.Bool
key_type kind.Text = ty.Text

-- the types of an operator's operand and of its value, in mode post or plain
pub data OperatesOnOne (post : Bool) : Unary → Ty → Ty → Type 0 where
  operates_not : OperatesOnOne post Not ty.Bool ty.Bool
  operates_len_text : OperatesOnOne post Len ty.Text ty.Int
  operates_len_list : (T : Ty) → OperatesOnOne post Len (ty.List T) ty.Int
  operates_deref : (T : Ty) → post ≡ true → OperatesOnOne post Deref (ty.Ref T) T
  operates_keys : (k : KeyTy) (T : Ty) → OperatesOnOne post Keys (ty.Map k T) (ty.List (key_type k))

-- the types of an operator's operands and of its value
pub data OperatesOnTwo (post : Bool) : Binary → Ty → Ty → Ty → Type 0 where
  operates_arithmetic : (op : Binary) → is_arithmetic op ≡ true → OperatesOnTwo post op ty.Int ty.Int ty.Int
  operates_order_int : (op : Binary) → is_order op ≡ true → OperatesOnTwo post op ty.Int ty.Int ty.Bool
  operates_order_text : (op : Binary) → is_order op ≡ true → OperatesOnTwo post op ty.Text ty.Text ty.Bool
  operates_equal : (T : Ty) → (post || not (holds_ref_or_call T)) ≡ true → OperatesOnTwo post Equal T T ty.Bool
  operates_same : (T : Ty) → OperatesOnTwo post Same (ty.Ref T) (ty.Ref T) ty.Bool
  operates_append_text : OperatesOnTwo post Append ty.Text ty.Text ty.Text
  operates_append_list : (T : Ty) → OperatesOnTwo post Append (ty.List T) (ty.List T) (ty.List T)
  operates_nth : (T : Ty) → OperatesOnTwo post Nth (ty.List T) ty.Int T
  operates_get : (k : KeyTy) (T : Ty) → OperatesOnTwo post Get (ty.Map k T) (key_type k) T
  operates_has : (k : KeyTy) (T : Ty) → OperatesOnTwo post HasKey (ty.Map k T) (key_type k) ty.Bool
  operates_del : (k : KeyTy) (T : Ty) → OperatesOnTwo post Del (ty.Map k T) (key_type k) (ty.Map k T)
  operates_range : OperatesOnTwo post Range ty.Int ty.Int (ty.List ty.Int)

-- ---- expressions

pub data Judgement : Type 0 where
  -- an expression has a type
  Has : Context → Expr → Ty → Judgement
  -- expressions have these types in turn
  Have : Context → List Expr → List Ty → Judgement
  -- expressions all have the type
  AllHave : Context → List Expr → Ty → Judgement
  -- what clauses and a body append has the type
  Builds : Context → List Clause → Expr → Ty → Judgement

-- What is well typed in a mode, by the operations of the items and by the functions of the earlier ones,
-- given the last first.
pub data Typed (items earlier : List Item) (post : Bool) : Judgement → Type 0 where
  typed_int : (G : Context) (n : ℤ) → is_i64 n ≡ true → Typed items earlier post (Has G (expr.Int n) ty.Int)
  typed_bool : (G : Context) (b : Bool) → Typed items earlier post (Has G (expr.Bool b) ty.Bool)
  typed_text : (G : Context) (t : List ℕ) → is_text t ≡ true
      → Typed items earlier post (Has G (expr.Text t) ty.Text)
  typed_name : (G : Context) (x : Name) (T : Ty) → type_named G x ≡ Some T
      → Typed items earlier post (Has G (expr.Name x) T)
  typed_let : (G : Context) (x : Name) (e b : Expr) (S T : Ty)
      → Typed items earlier post (Has G e S) → Typed items earlier post (Has ((x, S) ∷ G) b T)
      → Typed items earlier post (Has G (expr.Let x e b) T)
  typed_if : (G : Context) (c a b : Expr) (T : Ty)
      → Typed items earlier post (Has G c ty.Bool) → Typed items earlier post (Has G a T)
      → Typed items earlier post (Has G b T)
      → Typed items earlier post (Has G (expr.If c a b) T)
  typed_and : (G : Context) (a b : Expr)
      → Typed items earlier post (Has G a ty.Bool) → Typed items earlier post (Has G b ty.Bool)
      → Typed items earlier post (Has G (expr.And a b) ty.Bool)
  typed_or : (G : Context) (a b : Expr)
      → Typed items earlier post (Has G a ty.Bool) → Typed items earlier post (Has G b ty.Bool)
      → Typed items earlier post (Has G (expr.Or a b) ty.Bool)
  typed_unary : (G : Context) (op : Unary) (e : Expr) (S T : Ty) → OperatesOnOne post op S T
      → Typed items earlier post (Has G e S)
      → Typed items earlier post (Has G (expr.Unary op e) T)
  typed_binary : (G : Context) (op : Binary) (a b : Expr) (R S T : Ty) → OperatesOnTwo post op R S T
      → Typed items earlier post (Has G a R) → Typed items earlier post (Has G b S)
      → Typed items earlier post (Has G (expr.Binary op a b) T)
  typed_tuple : (G : Context) (es : List Expr) (Ts : List Ty)
      → Typed items earlier post (Have G es Ts)
      → Typed items earlier post (Has G (expr.Tuple es) (ty.Tuple Ts))
  typed_at : (G : Context) (e : Expr) (place : ℕ) (Ts : List Ty) (T : Ty) → numbered Ts place ≡ Some T
      → Typed items earlier post (Has G e (ty.Tuple Ts))
      → Typed items earlier post (Has G (expr.At e place) T)
  typed_list : (G : Context) (T : Ty) (es : List Expr) → nat_le (length es) limit ≡ true
      → Typed items earlier post (AllHave G es T)
      → Typed items earlier post (Has G (expr.List T es) (ty.List T))
  typed_map : (G : Context) (k : KeyTy) (T : Ty)
      → Typed items earlier post (Has G (expr.Map k T) (ty.Map k T))
  typed_put : (G : Context) (m key e : Expr) (k : KeyTy) (T : Ty)
      → Typed items earlier post (Has G m (ty.Map k T)) → Typed items earlier post (Has G key (key_type k))
      → Typed items earlier post (Has G e T)
      → Typed items earlier post (Has G (expr.Put m key e) (ty.Map k T))
  typed_for : (G : Context) (cs : List Clause) (b : Expr) (T : Ty)
      → Typed items earlier post (Builds G cs b T)
      → Typed items earlier post (Has G (expr.For cs b) (ty.List T))
  typed_fold : (G : Context) (x : Name) (e : Expr) (acc : Name) (i b : Expr) (S T : Ty)
      → Typed items earlier post (Has G e (ty.List S)) → Typed items earlier post (Has G i T)
      → Typed items earlier post (Has ((acc, T) ∷ (x, S) ∷ G) b T)
      → Typed items earlier post (Has G (expr.Fold x e acc i b) T)
  typed_call : (G : Context) (x : Name) (es : List Expr) (n : ℕ) (o : Op)
      → operation_number items x ≡ Some n → nat_lt n (2 ^ 32) ≡ true → operation_of items n ≡ Some o
      → Typed items earlier post (Have G es (types_of o.params))
      → Typed items earlier post (Has G (expr.Call x es) ty.Call)
  typed_apply : (G : Context) (f : Name) (es : List Expr) (g : Fun)
      → signature earlier f ≡ Some g → (post || not g.is_post) ≡ true
      → Typed items earlier post (Have G es (types_of g.params))
      → Typed items earlier post (Has G (expr.Apply f es) g.result)
  typed_none : (G : Context) → Typed items earlier post (Have G [] [])
  typed_more : (G : Context) (e : Expr) (es : List Expr) (T : Ty) (Ts : List Ty)
      → Typed items earlier post (Has G e T) → Typed items earlier post (Have G es Ts)
      → Typed items earlier post (Have G (e ∷ es) (T ∷ Ts))
  typed_empty : (G : Context) (T : Ty) → Typed items earlier post (AllHave G [] T)
  typed_each : (G : Context) (e : Expr) (es : List Expr) (T : Ty)
      → Typed items earlier post (Has G e T) → Typed items earlier post (AllHave G es T)
      → Typed items earlier post (AllHave G (e ∷ es) T)
  typed_body : (G : Context) (b : Expr) (T : Ty)
      → Typed items earlier post (Has G b T)
      → Typed items earlier post (Builds G [] b T)
  typed_in : (G : Context) (x : Name) (e : Expr) (cs : List Clause) (b : Expr) (S T : Ty)
      → Typed items earlier post (Has G e (ty.List S)) → Typed items earlier post (Builds ((x, S) ∷ G) cs b T)
      → Typed items earlier post (Builds G (clause.In x e ∷ cs) b T)
  typed_when : (G : Context) (e : Expr) (cs : List Clause) (b : Expr) (T : Ty)
      → Typed items earlier post (Has G e ty.Bool) → Typed items earlier post (Builds G cs b T)
      → Typed items earlier post (Builds G (clause.When e ∷ cs) b T)
