-- The type of an expression is that which the types of its parts give.
use Rattle.std.proofs.Common.{◌≡◌, ℕ, nat_le, Bool, true, false, ◌&&◌, not, ◌||◌, List, [], ◌∷◌, length, map, Option, Some, None, slice_get, refl, sym, ap, ◌∙◌}
use Rattle.std.proofs.lemmas.List.{length-map}
use Rattle.pst_model.specs.Parts.{Name, types_of}
use Rattle.pst_model.specs.declared.expr.Binary.{Binary}
use Rattle.pst_model.specs.declared.expr.Clause.{Clause}
use Rattle.pst_model.specs.declared.expr.Clause.TheVariants as clause
use Rattle.pst_model.specs.declared.expr.Expr.{Expr, Expr-F, roll-Expr, out-Expr, map-Expr, fold-roll-Expr}
use Rattle.pst_model.specs.declared.expr.Expr.TheVariants as expr
use Rattle.pst_model.specs.declared.expr.Unary.{Unary}
use Rattle.pst_model.specs.declared.model.Fun.{Fun}
use Rattle.pst_model.specs.declared.model.Item.{Item}
use Rattle.pst_model.specs.declared.model.Op.{Op}
use Rattle.pst_model.specs.Rules.{Context, signature}
use Rattle.pst_typing.specs.Blamed.{Seen, type_seen, let_parts, if_parts, two_parts, one_part, fold_parts, each_part, body_seen, with_name, Parts, parts_int, parts_bool, parts_text, parts_name, parts_let, parts_if, parts_and, parts_or, parts_unary, parts_binary, parts_tuple, parts_at, parts_list, parts_for, parts_fold, parts_map, parts_put, parts_call, parts_apply, ForParts, for_body, for_in, for_ends_in, for_when}
use Rattle.pst_typing.specs.ByParts.{of_if, of_both, of_unary, of_binary, of_at, all_are, fits_clause, fits_at, of_for, of_fold, of_put, each_is, by_form}
use Rattle.pst_typing.specs.Decision.{◌>>=◌, where_true, Finds, Part, item_type, part_type, keys_type, values_type, unary_type, binary_type, all_types, all_have, each_has, built_type, operation_called, type_at, type_of, part_of, part_at}
use Rattle.pst_typing.proofs.Forms.{part_in, part_when}
use Rattle.pst_value.specs.Equality.{same_ty}
use Rattle.pst_value.specs.Fits.{is_ty}
use Rattle.pst_value.specs.Text.{limit}
use Rattle.pst_value.specs.declared.ty.Ty.{Ty}
use Rattle.pst_value.specs.declared.ty.Ty.TheVariants as ty

-- the types of all, if each has one
abbrev pub all_some : List (Option Ty) → Option (List Ty)
all_some [] = Some []
all_some (o ∷ os) = o >>= (λ T. all_some os >>= (λ Ts. Some (T ∷ Ts)))

-- a test of types, if there are types
abbrev holds : Option (List Ty) → (List Ty → Bool) → Bool
holds None p = false
holds (Some Ts) p = p Ts

abbrev no_type : Option Ty
no_type = None

where_none : (b : Bool) → where_true b no_type ≡ no_type
where_none true = refl
where_none false = refl

then_none : {A : Type 0} (o : Option A) → (o >>= (λ x. no_type)) ≡ no_type
then_none None = refl
then_none (Some x) = refl

false_and : (b : Bool) → (b && false) ≡ false
false_and true = refl
false_and false = refl

where_holds : {A : Type 0} (b : Bool) (o : Option (List Ty)) (p : List Ty → Bool) (x : A) → where_true (b && holds o p) (Some x) ≡ (o >>= (λ Ts. where_true (b && p Ts) (Some x)))
where_holds b None p x = ap (λ c. where_true c (Some x)) (false_and b)
where_holds b (Some Ts) p x = refl

-- ---- forms with one, two or three parts

if_parts_type : (oc oa ob : Option Ty) → where_true (is_ty oc ty.Bool) (oa >>= (λ T. where_true (is_ty ob T) (Some T))) ≡ (all_some (oc ∷ oa ∷ ob ∷ []) >>= of_if)
if_parts_type None oa ob = refl
if_parts_type (Some C) None ob = where_none (same_ty C ty.Bool)
if_parts_type (Some C) (Some T) None = where_none (same_ty C ty.Bool)
if_parts_type (Some C) (Some T) (Some U) = refl

both_parts_type : (oa ob : Option Ty) → where_true (is_ty oa ty.Bool && is_ty ob ty.Bool) (Some ty.Bool) ≡ (all_some (oa ∷ ob ∷ []) >>= of_both)
both_parts_type None ob = refl
both_parts_type (Some S) None = ap (λ b. where_true b (Some ty.Bool)) (false_and (same_ty S ty.Bool))
both_parts_type (Some S) (Some T) = refl

unary_part_type : (post : Bool) (op : Unary) (o : Option Ty) → (o >>= unary_type post op) ≡ (all_some (o ∷ []) >>= of_unary post op)
unary_part_type post op None = refl
unary_part_type post op (Some T) = refl

binary_parts_type : (post : Bool) (op : Binary) (oa ob : Option Ty) → (oa >>= (λ S. ob >>= binary_type post op S)) ≡ (all_some (oa ∷ ob ∷ []) >>= of_binary post op)
binary_parts_type post op None ob = refl
binary_parts_type post op (Some S) None = refl
binary_parts_type post op (Some S) (Some T) = refl

at_part_type : (place : ℕ) (o : Option Ty) → (o >>= (λ T. part_type T place)) ≡ (all_some (o ∷ []) >>= of_at place)
at_part_type place None = refl
at_part_type place (Some T) = refl

values_none : (b : Bool) (v : Option Ty) → where_true b (v >>= (λ T. no_type)) ≡ no_type
values_none b v = ap (where_true b) (then_none v) ∙ where_none b

keys_none : (S : Ty) (q v : Option Ty) → (q >>= (λ K. where_true (same_ty S K) (v >>= (λ T. no_type)))) ≡ no_type
keys_none S None v = refl
keys_none S (Some K) v = values_none (same_ty S K) v

put_parts_type : (om ok oe : Option Ty)
    → (om >>= (λ R. keys_type R >>= (λ K. where_true (is_ty ok K) (values_type R >>= (λ T. where_true (is_ty oe T) (Some R)))))) ≡ (all_some (om ∷ ok ∷ oe ∷ []) >>= of_put)
put_parts_type None ok oe = refl
put_parts_type (Some R) None oe = then_none (keys_type R)
put_parts_type (Some R) (Some S) None = keys_none S (keys_type R) (values_type R)
put_parts_type (Some R) (Some S) (Some T) = refl

second_type : (S : Ty) (o : Option Ty) → o ≡ (all_some (Some S ∷ o ∷ []) >>= (λ Ts. slice_get Ts 1))
second_type S None = refl
second_type S (Some T) = refl

body_type : (L T : Ty) (o : Option Ty) → where_true (is_ty o T) (Some T) ≡ (all_some (Some L ∷ Some T ∷ o ∷ []) >>= of_fold)
body_type L T None = refl
body_type L T (Some U) = refl

module _ (f : Expr → Finds) where
  let_parts_type : (x : Name) (b : Expr) (G : Context) (o : Option Ty)
      → (o >>= (λ S. f b ((x, S) ∷ G))) ≡ (all_some (o ∷ map (type_seen f) (body_seen (with_name G x o) b)) >>= (λ Ts. slice_get Ts 1))
  let_parts_type x b G None = refl
  let_parts_type x b G (Some S) = second_type S (f b ((x, S) ∷ G))

  abbrev fold_context : Name → Name → Context → Option Ty → Option Ty → Option Context
  fold_context x acc G m oi = m >>= (λ S. oi >>= (λ T. Some ((acc, T) ∷ (x, S) ∷ G)))

  fold_item_type : (x acc : Name) (b : Expr) (G : Context) (L : Ty) (m oi : Option Ty)
      → (m >>= (λ S. oi >>= (λ T. where_true (is_ty (f b ((acc, T) ∷ (x, S) ∷ G)) T) (Some T))))
      ≡ (all_some (Some L ∷ oi ∷ map (type_seen f) (body_seen (fold_context x acc G m oi) b)) >>= of_fold)
  fold_item_type x acc b G L None None = refl
  fold_item_type x acc b G L None (Some T) = refl
  fold_item_type x acc b G L (Some S) None = refl
  fold_item_type x acc b G L (Some S) (Some T) = body_type L T (f b ((acc, T) ∷ (x, S) ∷ G))

  fold_parts_type : (x acc : Name) (b : Expr) (G : Context) (oe oi : Option Ty)
      → (oe >>= item_type >>= (λ S. oi >>= (λ T. where_true (is_ty (f b ((acc, T) ∷ (x, S) ∷ G)) T) (Some T))))
      ≡ (all_some (oe ∷ oi ∷ map (type_seen f) (body_seen (fold_context x acc G (oe >>= item_type) oi) b)) >>= of_fold)
  fold_parts_type x acc b G None oi = refl
  fold_parts_type x acc b G (Some L) oi = fold_item_type x acc b G L (item_type L) oi

  -- ---- forms with any number of parts

  abbrev found_each : Context → List Expr → Option (List Ty)
  found_each G es = all_some (map (type_seen f) (each_part G es))

  types_each : (G : Context) (es : List Expr) → all_types (map f es) G ≡ found_each G es
  types_each G [] = refl
  types_each G (e ∷ es) = ap (λ o. f e G >>= (λ T. o >>= (λ Ts. Some (T ∷ Ts)))) (types_each G es)

  have_first : (T : Ty) (o : Option Ty) (os : Option (List Ty)) → (is_ty o T && holds os (λ Ts. all_are Ts T)) ≡ holds (o >>= (λ S. os >>= (λ Ts. Some (S ∷ Ts)))) (λ Ts. all_are Ts T)
  have_first T None os = refl
  have_first T (Some S) None = false_and (same_ty S T)
  have_first T (Some S) (Some Ts) = refl

  have_each : (G : Context) (T : Ty) (es : List Expr) → all_have (map f es) G T ≡ holds (found_each G es) (λ Ts. all_are Ts T)
  have_each G T [] = refl
  have_each G T (e ∷ es) = ap (λ b. is_ty (f e G) T && b) (have_each G T es) ∙ have_first T (f e G) (found_each G es)

  fit_first : (U : Ty) (Us : List Ty) (o : Option Ty) (os : Option (List Ty)) → (is_ty o U && holds os (λ Ts. each_is Ts Us)) ≡ holds (o >>= (λ S. os >>= (λ Ts. Some (S ∷ Ts)))) (λ Ts. each_is Ts (U ∷ Us))
  fit_first U Us None os = refl
  fit_first U Us (Some S) None = false_and (same_ty S U)
  fit_first U Us (Some S) (Some Ts) = refl

  too_many : (o : Option Ty) (os : Option (List Ty)) → false ≡ holds (o >>= (λ S. os >>= (λ Ts. Some (S ∷ Ts)))) (λ Ts. each_is Ts [])
  too_many None os = refl
  too_many (Some S) None = refl
  too_many (Some S) (Some Ts) = refl

  fit_each : (G : Context) (es : List Expr) (Us : List Ty) → each_has (map f es) G Us ≡ holds (found_each G es) (λ Ts. each_is Ts Us)
  fit_each G [] [] = refl
  fit_each G [] (U ∷ Us) = refl
  fit_each G (e ∷ es) [] = too_many (f e G) (found_each G es)
  fit_each G (e ∷ es) (U ∷ Us) = ap (λ b. is_ty (f e G) U && b) (fit_each G es Us) ∙ fit_first U Us (f e G) (found_each G es)

  list_parts_type : (T : Ty) (G : Context) (es : List Expr) (n : ℕ) → n ≡ length es
      → where_true (nat_le n limit && all_have (map f es) G T) (Some (ty.List T)) ≡ (found_each G es >>= (λ Ts. where_true (nat_le (length es) limit && all_are Ts T) (Some (ty.List T))))
  list_parts_type T G es n is =
      ap (λ n. where_true (nat_le n limit && all_have (map f es) G T) (Some (ty.List T))) is
      ∙ ap (λ b. where_true (nat_le (length es) limit && b) (Some (ty.List T))) (have_each G T es)
      ∙ where_holds (nat_le (length es) limit) (found_each G es) (λ Ts. all_are Ts T) (ty.List T)

  call_parts_type : (G : Context) (es : List Expr) (q : Option Op)
      → (q >>= (λ o. where_true (each_has (map f es) G (types_of o.params)) (Some ty.Call)))
      ≡ (found_each G es >>= (λ Ts. q >>= (λ o. where_true (each_is Ts (types_of o.params)) (Some ty.Call))))
  call_parts_type G es None = sym (then_none (found_each G es))
  call_parts_type G es (Some o) = ap (λ b. where_true b (Some ty.Call)) (fit_each G es (types_of o.params)) ∙ where_holds true (found_each G es) (λ Ts. each_is Ts (types_of o.params)) ty.Call

  applied_parts_type : (post : Bool) (G : Context) (es : List Expr) (q : Option Fun)
      → (q >>= (λ g. where_true ((post || not g.is_post) && each_has (map f es) G (types_of g.params)) (Some g.result)))
      ≡ (found_each G es >>= (λ Ts. q >>= (λ g. where_true ((post || not g.is_post) && each_is Ts (types_of g.params)) (Some g.result))))
  applied_parts_type post G es None = sym (then_none (found_each G es))
  applied_parts_type post G es (Some g) =
      ap (λ b. where_true ((post || not g.is_post) && b) (Some g.result)) (fit_each G es (types_of g.params))
      ∙ where_holds (post || not g.is_post) (found_each G es) (λ Ts. each_is Ts (types_of g.params)) g.result

-- ---- comprehensions

of_for_none : (cs : List Clause) → of_for cs [] ≡ None
of_for_none [] = refl
of_for_none (c ∷ cs) = refl

abbrev listed : Option Ty → Option Ty
listed o = o >>= (λ T. Some (ty.List T))

for_step : (c : Clause) (cs : List Clause) (L : Ty) (b : Bool) → fits_clause c L ≡ b → (o : Option (List Ty)) → ((o >>= (λ Ts. Some (L ∷ Ts))) >>= of_for (c ∷ cs)) ≡ where_true b (o >>= of_for cs)
for_step c cs L b fits None = sym (where_none b)
for_step c cs L b fits (Some Ts) = ap (λ d. where_true d (of_for cs Ts)) fits

listed_where : (b : Bool) (o : Option Ty) → listed (where_true b o) ≡ where_true b (listed o)
listed_where true o = refl
listed_where false o = refl

body_listed : (o : Option Ty) → listed o ≡ (all_some (o ∷ []) >>= of_for [])
body_listed None = refl
body_listed (Some T) = refl

module _ (items earlier : List Item) (post : Bool) where
  abbrev f : Expr → Finds
  f = type_of items earlier post

  abbrev Pf : Clause → Part
  Pf = part_of items earlier post

  fits_in : (x : Name) (e : Expr) (L : Ty) → fits_clause (clause.In x e) L ≡ true
  fits_in x e L = ap (λ d. fits_at d L) (clause.outs-In x e)

  fits_when : (e : Expr) (C : Ty) → fits_clause (clause.When e) C ≡ same_ty C ty.Bool
  fits_when e C = ap (λ d. fits_at d C) (clause.outs-When e)

  ends_none : (x : Name) (e : Expr) (cs : List Clause) (o : Option Ty) → None ≡ (all_some (o ∷ []) >>= of_for (clause.In x e ∷ cs))
  ends_none x e cs None = refl
  ends_none x e cs (Some L) = sym (for_step (clause.In x e) cs L true (fits_in x e L) (Some []) ∙ of_for_none cs)

  goes_in : (x : Name) (e : Expr) (cs : List Clause) (S : Ty) (o : Option Ty) (os : Option (List Ty)) → (o >>= item_type) ≡ Some S
      → (os >>= of_for cs) ≡ ((o >>= (λ T. os >>= (λ Ts. Some (T ∷ Ts)))) >>= of_for (clause.In x e ∷ cs))
  goes_in x e cs S None os h = absurd (cc)
  goes_in x e cs S (Some L) os h = sym (for_step (clause.In x e) cs L true (fits_in x e L) os)

  goes_when : (e : Expr) (cs : List Clause) (B o : Option Ty) (os : Option (List Ty)) → listed B ≡ (os >>= of_for cs)
      → listed (where_true (is_ty o ty.Bool) B) ≡ ((o >>= (λ T. os >>= (λ Ts. Some (T ∷ Ts)))) >>= of_for (clause.When e ∷ cs))
  goes_when e cs B None os h = refl
  goes_when e cs B (Some C) os h =
      listed_where (same_ty C ty.Bool) B ∙ ap (where_true (same_ty C ty.Bool)) h ∙ sym (for_step (clause.When e) cs C (same_ty C ty.Bool) (fits_when e C) os)

  for_parts_type : (G : Context) (cs : List Clause) (b : Expr) (P : List Seen) → ForParts f G cs b P → listed (built_type (map Pf cs) (f b) G) ≡ (all_some (map (type_seen f) P) >>= of_for cs)
  for_parts_type _ _ _ _ (for_body G b) = body_listed (f b G)
  for_parts_type _ _ _ _ (for_in G x e cs b S P item rest) =
      ap (λ p. listed (built_type (p ∷ map Pf cs) (f b) G)) (part_in items earlier post x e)
      ∙ ap (λ o. listed (o >>= (λ T. built_type (map Pf cs) (f b) ((x, T) ∷ G)))) item
      ∙ for_parts_type _ cs b P rest
      ∙ goes_in x e cs S (f e G) (all_some (map (type_seen f) P)) item
  for_parts_type _ _ _ _ (for_ends_in G x e cs b none) =
      ap (λ p. listed (built_type (p ∷ map Pf cs) (f b) G)) (part_in items earlier post x e)
      ∙ ap (λ o. listed (o >>= (λ T. built_type (map Pf cs) (f b) ((x, T) ∷ G)))) none
      ∙ ends_none x e cs (f e G)
  for_parts_type _ _ _ _ (for_when G e cs b P rest) =
      ap (λ p. listed (built_type (p ∷ map Pf cs) (f b) G)) (part_when items earlier post e)
      ∙ goes_when e cs (built_type (map Pf cs) (f b) G) (f e G) (all_some (map (type_seen f) P)) (for_parts_type G cs b P rest)

  -- ---- every form

  abbrev Given : Context → Expr → List Seen → Type 0
  Given G e P = f e G ≡ (all_some (map (type_seen f) P) >>= by_form items earlier post G (out-Expr e))

  to : (G : Context) (d : Expr-F Clause Expr) (e : Expr) (P : List Seen) → roll-Expr d ≡ e → out-Expr e ≡ d
      → type_at items earlier post (map-Expr Clause Expr Part Finds Pf f d) G ≡ (all_some (map (type_seen f) P) >>= by_form items earlier post G d) → Given G e P
  to G d e P rolls outs h =
      ap (λ x. f x G) (sym rolls) ∙ ap (λ k. k G) (fold-roll-Expr Part Finds part_at (type_at items earlier post) d) ∙ h
      ∙ ap (λ d. all_some (map (type_seen f) P) >>= by_form items earlier post G d) (sym outs)

  pub by_parts_found : (G : Context) (e : Expr) (P : List Seen) → Parts f G e P → f e G ≡ (all_some (map (type_seen f) P) >>= by_form items earlier post G (out-Expr e))
  by_parts_found G _ _ (parts_int n) = to G _ _ [] (expr.rolls-Int n) (expr.outs-Int n) refl
  by_parts_found G _ _ (parts_bool b) = to G _ _ [] (expr.rolls-Bool b) (expr.outs-Bool b) refl
  by_parts_found G _ _ (parts_text t) = to G _ _ [] (expr.rolls-Text t) (expr.outs-Text t) refl
  by_parts_found G _ _ (parts_name x) = to G _ _ [] (expr.rolls-Name x) (expr.outs-Name x) refl
  by_parts_found G _ _ (parts_let x e b) = to G _ _ (let_parts f G x e b) (expr.rolls-Let x e b) (expr.outs-Let x e b) (let_parts_type f x b G (f e G))
  by_parts_found G _ _ (parts_if c a b) = to G _ _ (if_parts G c a b) (expr.rolls-If c a b) (expr.outs-If c a b) (if_parts_type (f c G) (f a G) (f b G))
  by_parts_found G _ _ (parts_and a b) = to G _ _ (two_parts G a b) (expr.rolls-And a b) (expr.outs-And a b) (both_parts_type (f a G) (f b G))
  by_parts_found G _ _ (parts_or a b) = to G _ _ (two_parts G a b) (expr.rolls-Or a b) (expr.outs-Or a b) (both_parts_type (f a G) (f b G))
  by_parts_found G _ _ (parts_unary op e) = to G _ _ (one_part G e) (expr.rolls-Unary op e) (expr.outs-Unary op e) (unary_part_type post op (f e G))
  by_parts_found G _ _ (parts_binary op a b) = to G _ _ (two_parts G a b) (expr.rolls-Binary op a b) (expr.outs-Binary op a b) (binary_parts_type post op (f a G) (f b G))
  by_parts_found G _ _ (parts_tuple es) = to G _ _ (each_part G es) (expr.rolls-Tuple es) (expr.outs-Tuple es) (ap (λ o. o >>= (λ Ts. Some (ty.Tuple Ts))) (types_each f G es))
  by_parts_found G _ _ (parts_at e place) = to G _ _ (one_part G e) (expr.rolls-At e place) (expr.outs-At e place) (at_part_type place (f e G))
  by_parts_found G _ _ (parts_list T es) = to G _ _ (each_part G es) (expr.rolls-List T es) (expr.outs-List T es) (list_parts_type f T G es _ (length-map es f))
  by_parts_found G _ _ (parts_for cs b P p) = to G _ _ P (expr.rolls-For cs b) (expr.outs-For cs b) (for_parts_type G cs b P p)
  by_parts_found G _ _ (parts_fold x e acc i b) = to G _ _ (fold_parts f G x e acc i b) (expr.rolls-Fold x e acc i b) (expr.outs-Fold x e acc i b) (fold_parts_type f x acc b G (f e G) (f i G))
  by_parts_found G _ _ (parts_map k T) = to G _ _ [] (expr.rolls-Map k T) (expr.outs-Map k T) refl
  by_parts_found G _ _ (parts_put m k e) = to G _ _ (if_parts G m k e) (expr.rolls-Put m k e) (expr.outs-Put m k e) (put_parts_type (f m G) (f k G) (f e G))
  by_parts_found G _ _ (parts_call x es) = to G _ _ (each_part G es) (expr.rolls-Call x es) (expr.outs-Call x es) (call_parts_type f G es (operation_called items x))
  by_parts_found G _ _ (parts_apply g es) = to G _ _ (each_part G es) (expr.rolls-Apply g es) (expr.outs-Apply g es) (applied_parts_type f post G es (signature earlier g))
