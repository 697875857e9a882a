-- The type of an expression by the types of its parts.
use Rattle.std.specs.Prelude.{◌&&◌, ◌||◌, not, ℕ, nat_le, Bool, true, false, List, [], ◌∷◌, length, reverse, slice_get, Option, Some, None}
use Rattle.pst_model.specs.Parts.{Name, types_of}
use Rattle.pst_model.specs.Rules.{Context, type_named, signature}
use Rattle.pst_model.specs.declared.expr.Binary.{Binary}
use Rattle.pst_model.specs.declared.expr.Clause.{Clause, Clause-F, out-Clause}
use Rattle.pst_model.specs.declared.expr.Expr.{Expr, Expr-F, out-Expr}
use Rattle.pst_model.specs.declared.expr.Unary.{Unary}
use Rattle.pst_model.specs.declared.model.Item.{Item}
use Rattle.pst_typing.specs.Decision.{◌>>=◌, where_true, part_type, keys_type, values_type, unary_type, binary_type, operation_called}
use Rattle.pst_typing.specs.declared.scope.Context.{Context as Surroundings}
use Rattle.pst_value.specs.Equality.{same_ty}
use Rattle.pst_value.specs.Text.{is_i64, is_text, limit}
use Rattle.pst_value.specs.declared.ty.Ty.{Ty}
use Rattle.pst_value.specs.declared.ty.Ty.TheVariants as ty

abbrev pub of_if : List Ty → Option Ty
of_if (C ∷ T ∷ U ∷ []) = where_true (same_ty C ty.Bool) (where_true (same_ty U T) (Some T))
of_if _ = None

abbrev pub of_both : List Ty → Option Ty
of_both (S ∷ T ∷ []) = where_true (same_ty S ty.Bool && same_ty T ty.Bool) (Some ty.Bool)
of_both _ = None

abbrev pub of_unary : (post : Bool) → Unary → List Ty → Option Ty
of_unary post op (T ∷ []) = unary_type post op T
of_unary post op _ = None

abbrev pub of_binary : (post : Bool) → Binary → List Ty → Option Ty
of_binary post op (S ∷ T ∷ []) = binary_type post op S T
of_binary post op _ = None

abbrev pub of_at : ℕ → List Ty → Option Ty
of_at place (T ∷ []) = part_type T place
of_at place _ = None

-- whether all are one type
abbrev pub all_are : List Ty → Ty → Bool
all_are [] T = true
all_are (S ∷ Ts) T = same_ty S T && all_are Ts T

-- of so many items
abbrev pub of_list : Ty → ℕ → List Ty → Option Ty
of_list T number Ts = where_true (nat_le number limit && all_are Ts T) (Some (ty.List T))

-- whether a clause may have an expression of the type. One that takes items is followed by others only if it may
abbrev pub fits_at : Clause-F Clause Expr → Ty → Bool
fits_at (Clause-F.In x e) T = true
fits_at (Clause-F.When e) T = same_ty T ty.Bool

abbrev pub fits_clause : Clause → Ty → Bool
fits_clause c T = fits_at (out-Clause c) T

abbrev pub of_for : List Clause → List Ty → Option Ty
of_for cs [] = None
of_for [] (T ∷ Ts) = Some (ty.List T)
of_for (c ∷ cs) (T ∷ Ts) = where_true (fits_clause c T) (of_for cs Ts)

-- the body of a fold has a type only over a list
abbrev pub of_fold : List Ty → Option Ty
of_fold (L ∷ T ∷ U ∷ []) = where_true (same_ty U T) (Some T)
of_fold _ = None

abbrev pub of_put : List Ty → Option Ty
of_put (M ∷ S ∷ U ∷ []) =
    keys_type M >>= (λ K. where_true (same_ty S K) (values_type M >>= (λ T. where_true (same_ty U T) (Some M))))
of_put _ = None

-- whether each is the type at its place
abbrev pub each_is : List Ty → List Ty → Bool
each_is [] [] = true
each_is [] (T ∷ Ts) = false
each_is (S ∷ Ss) [] = false
each_is (S ∷ Ss) (T ∷ Ts) = same_ty S T && each_is Ss Ts

abbrev pub of_call : List Item → Name → List Ty → Option Ty
of_call items x Ts = operation_called items x >>= (λ o. where_true (each_is Ts (types_of o.params)) (Some ty.Call))

abbrev pub of_applied : (earlier : List Item) (post : Bool) → Name → List Ty → Option Ty
of_applied earlier post f Ts =
    signature earlier f >>= (λ g.
    where_true ((post || not g.is_post) && each_is Ts (types_of g.params)) (Some g.result))

abbrev pub by_form : (items earlier : List Item) (post : Bool) → Context → Expr-F Clause Expr → List Ty → Option Ty
by_form items earlier post G (Expr-F.Int n) Ts = where_true (is_i64 n) (Some ty.Int)
by_form items earlier post G (Expr-F.Bool b) Ts = Some ty.Bool
by_form items earlier post G (Expr-F.Text t) Ts = where_true (is_text t) (Some ty.Text)
by_form items earlier post G (Expr-F.Name x) Ts = type_named G x
by_form items earlier post G (Expr-F.Let x e b) Ts = slice_get Ts 1
by_form items earlier post G (Expr-F.If c a b) Ts = of_if Ts
by_form items earlier post G (Expr-F.And a b) Ts = of_both Ts
by_form items earlier post G (Expr-F.Or a b) Ts = of_both Ts
by_form items earlier post G (Expr-F.Unary op e) Ts = of_unary post op Ts
by_form items earlier post G (Expr-F.Binary op a b) Ts = of_binary post op Ts
by_form items earlier post G (Expr-F.Tuple es) Ts = Some (ty.Tuple Ts)
by_form items earlier post G (Expr-F.At e place) Ts = of_at place Ts
by_form items earlier post G (Expr-F.List T es) Ts = of_list T (length es) Ts
by_form items earlier post G (Expr-F.For cs b) Ts = of_for cs Ts
by_form items earlier post G (Expr-F.Fold x e acc i b) Ts = of_fold Ts
by_form items earlier post G (Expr-F.Map k T) Ts = Some (ty.Map k T)
by_form items earlier post G (Expr-F.Put m k e) Ts = of_put Ts
by_form items earlier post G (Expr-F.Call x es) Ts = of_call items x Ts
by_form items earlier post G (Expr-F.Apply f es) Ts = of_applied earlier post f Ts

-- the type of an expression whose parts have types, by these
abbrev pub by_parts : Surroundings → Context → Expr → List Ty → Option Ty
by_parts c G e Ts = by_form c.items.now (reverse c.earlier.now) c.is_post G (out-Expr e) Ts
