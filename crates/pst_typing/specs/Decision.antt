-- The type that the rules give an expression, if there is one, form by form.
use Rattle.std.specs.Prelude.{◌&&◌, ◌||◌, not, ℕ, ◌^◌, nat_lt, nat_le, Bool, true, false, if◌then◌else◌, List, [], ◌∷◌, length, Option, Some, None}
use Rattle.pst_model.specs.Kinds.{holds_ref_or_call}
use Rattle.pst_model.specs.Parts.{Name, operation_number, operation_of, types_of}
use Rattle.pst_model.specs.Rules.{Context, type_named, signature, key_type}
use Rattle.pst_model.specs.declared.expr.Binary.{Binary}
use Rattle.pst_model.specs.declared.expr.Binary.TheVariants.{Add, Sub, Mul, Div, Rem, Less, LessEqual, Equal, Same, Append, Nth, Range, Get, Has, Del}
use Rattle.pst_model.specs.declared.expr.Clause.{Clause, Clause-F, fold-Clause}
use Rattle.pst_model.specs.declared.expr.Expr.{Expr, Expr-F, fold-Expr}
use Rattle.pst_model.specs.declared.expr.Unary.{Unary}
use Rattle.pst_model.specs.declared.expr.Unary.TheVariants.{Not, Len, Deref, Keys}
use Rattle.pst_model.specs.declared.model.Item.{Item}
use Rattle.pst_model.specs.declared.model.Op.{Op}
use Rattle.pst_value.specs.Equality.{same_ty}
use Rattle.pst_value.specs.Fits.{is_ty}
use Rattle.pst_value.specs.Subst.{numbered}
use Rattle.pst_value.specs.Text.{is_i64, is_text, limit}
use Rattle.pst_value.specs.declared.ty.Ty.{Ty, out-Ty}
use Rattle.pst_value.specs.declared.ty.Ty.TheOpen.{Ty-F}
use Rattle.pst_value.specs.declared.ty.Ty.TheVariants as ty

infixl 10 ◌>>=◌
-- what is found, and then what is found with it
abbrev pub ◌>>=◌ : {A B : Type 0} → Option A → (A → Option B) → Option B
None >>= f = None
Some a >>= f = f a

-- found only where a test is passed
abbrev pub where_true : {A : Type 0} → Bool → Option A → Option A
where_true b o = if b then o else None

-- ---- parts of types

abbrev pub item_at : Ty-F Ty → Option Ty
item_at (Ty-F.List t) = Some t
item_at _ = None

-- the type of a list's items
abbrev pub item_type : Ty → Option Ty
item_type t = item_at (out-Ty t)

abbrev pub parts_at : Ty-F Ty → Option (List Ty)
parts_at (Ty-F.Tuple ts) = Some ts
parts_at _ = None

-- the types of a tuple's items
abbrev pub part_types : Ty → Option (List Ty)
part_types t = parts_at (out-Ty t)

-- the type of a tuple's item, by its place from 1
abbrev pub part_type : Ty → ℕ → Option Ty
part_type t place = part_types t >>= (λ ts. numbered ts place)

abbrev pub referred_at : Ty-F Ty → Option Ty
referred_at (Ty-F.Ref t) = Some t
referred_at _ = None

-- the type of the result that a reference names
abbrev pub referred_type : Ty → Option Ty
referred_type t = referred_at (out-Ty t)

abbrev pub is_ref_at : Ty-F Ty → Bool
is_ref_at (Ty-F.Ref t) = true
is_ref_at _ = false

-- whether it is a reference type
abbrev pub is_ref : Ty → Bool
is_ref t = is_ref_at (out-Ty t)

abbrev pub is_sequence_at : Ty-F Ty → Bool
is_sequence_at Ty-F.Text = true
is_sequence_at (Ty-F.List t) = true
is_sequence_at _ = false

-- whether it is `text` or a list type
abbrev pub is_sequence : Ty → Bool
is_sequence t = is_sequence_at (out-Ty t)

abbrev pub keys_at : Ty-F Ty → Option Ty
keys_at (Ty-F.Map k t) = Some (key_type k)
keys_at _ = None

-- the type of a map's keys, as values
abbrev pub keys_type : Ty → Option Ty
keys_type t = keys_at (out-Ty t)

abbrev pub values_at : Ty-F Ty → Option Ty
values_at (Ty-F.Map k t) = Some t
values_at _ = None

-- the type of a map's values
abbrev pub values_type : Ty → Option Ty
values_type t = values_at (out-Ty t)

-- ---- operators

-- whether both are `int`
abbrev pub both_int : Ty → Ty → Bool
both_int R S = same_ty R ty.Int && same_ty S ty.Int

-- whether both are `int`, or both `text`
abbrev pub are_ordered : Ty → Ty → Bool
are_ordered R S = same_ty R S && (same_ty R ty.Int || same_ty R ty.Text)

-- whether `=` compares them: in mode post any type, else one without references and calls
abbrev pub are_compared : (post : Bool) → Ty → Ty → Bool
are_compared post R S = same_ty R S && (post || not (holds_ref_or_call R))

abbrev pub unary_type : (post : Bool) → Unary → Ty → Option Ty
unary_type post Not S = where_true (same_ty S ty.Bool) (Some ty.Bool)
unary_type post Len S = where_true (is_sequence S) (Some ty.Int)
unary_type post Deref S = where_true post (referred_type S)
unary_type post Keys S = keys_type S >>= (λ K. Some (ty.List K))

abbrev pub binary_type : (post : Bool) → Binary → Ty → Ty → Option Ty
binary_type post Add R S = where_true (both_int R S) (Some ty.Int)
binary_type post Sub R S = where_true (both_int R S) (Some ty.Int)
binary_type post Mul R S = where_true (both_int R S) (Some ty.Int)
binary_type post Div R S = where_true (both_int R S) (Some ty.Int)
binary_type post Rem R S = where_true (both_int R S) (Some ty.Int)
binary_type post Less R S = where_true (are_ordered R S) (Some ty.Bool)
binary_type post LessEqual R S = where_true (are_ordered R S) (Some ty.Bool)
binary_type post Equal R S = where_true (are_compared post R S) (Some ty.Bool)
binary_type post Same R S = where_true (same_ty R S && is_ref R) (Some ty.Bool)
binary_type post Append R S = where_true (same_ty R S && is_sequence R) (Some R)
binary_type post Nth R S = where_true (same_ty S ty.Int) (item_type R)
binary_type post Get R S = where_true (is_ty (keys_type R) S) (values_type R)
binary_type post Has R S = where_true (is_ty (keys_type R) S) (Some ty.Bool)
binary_type post Del R S = where_true (is_ty (keys_type R) S) (Some R)
binary_type post Range R S = where_true (both_int R S) (Some (ty.List ty.Int))

-- ---- expressions

-- the type of an expression among names, if it has one
abbrev pub Finds : Type 0
Finds = Context → Option Ty

-- a clause, with what its expression finds
abbrev pub Part : Type 0
Part = Clause-F (Unit {0}) Finds

-- the types of expressions in turn
abbrev pub all_types : List Finds → Context → Option (List Ty)
all_types [] G = Some []
all_types (e ∷ es) G = e G >>= (λ T. all_types es G >>= (λ Ts. Some (T ∷ Ts)))

-- whether all have the type
abbrev pub all_have : List Finds → Context → Ty → Bool
all_have [] G T = true
all_have (e ∷ es) G T = is_ty (e G) T && all_have es G T

-- whether each has the type at its place
abbrev pub each_has : List Finds → Context → List Ty → Bool
each_has [] G [] = true
each_has [] G (T ∷ Ts) = false
each_has (e ∷ es) G [] = false
each_has (e ∷ es) G (T ∷ Ts) = is_ty (e G) T && each_has es G Ts

-- the type of what clauses and a body append
abbrev pub built_type : List Part → Finds → Context → Option Ty
built_type [] body G = body G
built_type (Clause-F.In x e ∷ cs) body G = e G >>= item_type >>= (λ S. built_type cs body ((x, S) ∷ G))
built_type (Clause-F.When e ∷ cs) body G = where_true (is_ty (e G) ty.Bool) (built_type cs body G)

-- the operation of a name, whose number has 32 bits
abbrev pub operation_called : List Item → Name → Option Op
operation_called items x = operation_number items x >>= (λ n. where_true (nat_lt n (2 ^ 32)) (operation_of items n))

-- a body that sees a value's name
abbrev pub let_type : Name → Finds → Finds → Finds
let_type x e b G = e G >>= (λ S. b ((x, S) ∷ G))

-- a test, and two of one type
abbrev pub if_type : Finds → Finds → Finds → Finds
if_type c a b G = where_true (is_ty (c G) ty.Bool) (a G >>= (λ T. where_true (is_ty (b G) T) (Some T)))

-- two tests
abbrev pub both_type : Finds → Finds → Finds
both_type a b G = where_true (is_ty (a G) ty.Bool && is_ty (b G) ty.Bool) (Some ty.Bool)

-- an operator of two operands
abbrev pub operation_type : (post : Bool) → Binary → Finds → Finds → Finds
operation_type post op a b G = a G >>= (λ R. b G >>= binary_type post op R)

-- what is built of a list's items
abbrev pub fold_type : Name → Finds → Name → Finds → Finds → Finds
fold_type x e acc i b G =
    e G >>= item_type >>= (λ S. i G >>= (λ T. where_true (is_ty (b ((acc, T) ∷ (x, S) ∷ G)) T) (Some T)))

-- a map with a key and its value
abbrev pub put_type : Finds → Finds → Finds → Finds
put_type m k e G =
    m G >>= (λ R. keys_type R >>= (λ K. where_true (is_ty (k G) K)
    (values_type R >>= (λ T. where_true (is_ty (e G) T) (Some R)))))

-- a call of an operation of the items
abbrev pub call_type : List Item → Name → List Finds → Finds
call_type items x es G =
    operation_called items x >>= (λ o. where_true (each_has es G (types_of o.params)) (Some ty.Call))

-- an application of a function of the earlier items
abbrev pub apply_type : (earlier : List Item) (post : Bool) → Name → List Finds → Finds
apply_type earlier post f es G =
    signature earlier f >>= (λ g.
    where_true ((post || not g.is_post) && each_has es G (types_of g.params)) (Some g.result))

-- one form, in a mode, by the operations of the items and by the functions of the earlier ones, given the
-- last first
abbrev pub type_at : (items earlier : List Item) (post : Bool) → Expr-F Part Finds → Finds
type_at items earlier post (Expr-F.Int n) G = where_true (is_i64 n) (Some ty.Int)
type_at items earlier post (Expr-F.Bool b) G = Some ty.Bool
type_at items earlier post (Expr-F.Text t) G = where_true (is_text t) (Some ty.Text)
type_at items earlier post (Expr-F.Name x) G = type_named G x
type_at items earlier post (Expr-F.Let x e b) G = let_type x e b G
type_at items earlier post (Expr-F.If c a b) G = if_type c a b G
type_at items earlier post (Expr-F.And a b) G = both_type a b G
type_at items earlier post (Expr-F.Or a b) G = both_type a b G
type_at items earlier post (Expr-F.Unary op e) G = e G >>= unary_type post op
type_at items earlier post (Expr-F.Binary op a b) G = operation_type post op a b G
type_at items earlier post (Expr-F.Tuple es) G = all_types es G >>= (λ Ts. Some (ty.Tuple Ts))
type_at items earlier post (Expr-F.At e place) G = e G >>= (λ T. part_type T place)
type_at items earlier post (Expr-F.List T es) G =
    where_true (nat_le (length es) limit && all_have es G T) (Some (ty.List T))
type_at items earlier post (Expr-F.For cs b) G = built_type cs b G >>= (λ T. Some (ty.List T))
type_at items earlier post (Expr-F.Fold x e acc i b) G = fold_type x e acc i b G
type_at items earlier post (Expr-F.Map k T) G = Some (ty.Map k T)
type_at items earlier post (Expr-F.Put m k e) G = put_type m k e G
type_at items earlier post (Expr-F.Call x es) G = call_type items x es G
type_at items earlier post (Expr-F.Apply f es) G = apply_type earlier post f es G

abbrev pub part_at : Clause-F Part Finds → Part
part_at (Clause-F.In x e) = Clause-F.In x e
part_at (Clause-F.When e) = Clause-F.When e

-- the type of an expression
abbrev pub type_of : (items earlier : List Item) (post : Bool) → Expr → Finds
type_of items earlier post = fold-Expr Part Finds part_at (type_at items earlier post)

abbrev pub part_of : (items earlier : List Item) (post : Bool) → Clause → Part
part_of items earlier post = fold-Clause Part Finds part_at (type_at items earlier post)
