-- The type that is found is given by the rules.
use Rattle.std.proofs.Common.{◌≡◌, Bool, true, List, [], ◌∷◌, map, Some, refl, sym, ap, ◌∙◌, subst}
use Rattle.std.specs.Prelude.{nat_le}
use Rattle.std.proofs.lemmas.List.{length-map}
use Rattle.pst_model.specs.Parts.{types_of}
use Rattle.pst_model.specs.declared.expr.Clause.{Clause, Clause-F, roll-Clause, map-Clause, fold-roll-Clause}
use Rattle.pst_model.specs.declared.expr.Clause.TheVariants as clause
use Rattle.pst_model.specs.declared.expr.Expr.{Expr, Expr-F, roll-Expr, map-Expr, fold-roll-Expr, ind-Expr}
use Rattle.pst_model.specs.declared.expr.Expr.TheVariants as expr
use Rattle.pst_model.specs.declared.model.Item.{Item}
use Rattle.pst_model.specs.Rules.{Context, key_type, Judgement, Has, Have, AllHave, Builds, Typed, typed_int, typed_bool, typed_text, typed_name, typed_let, typed_if, typed_and, typed_or, typed_unary, typed_binary, typed_tuple, typed_at, typed_list, typed_map, typed_put, typed_for, typed_fold, typed_call, typed_apply, typed_none, typed_more, typed_empty, typed_each, typed_body, typed_in, typed_when}
use Rattle.pst_typing.specs.Decision.{Finds, Part, all_types, all_have, each_has, built_type, type_at, part_at, type_of, part_of}
use Rattle.pst_typing.proofs.Exactly.{then_some, where_some, some_is, is_found, both}
use Rattle.pst_typing.proofs.Operating.{item_is, parts_is, map_is, values_are, unary_some, binary_some}
use Rattle.pst_value.specs.Text.{limit}
use Rattle.pst_value.specs.declared.ty.Ty.{Ty}
use Rattle.pst_value.specs.declared.ty.Ty.TheVariants as ty

module _ (items earlier : List Item) (post : Bool) where
  abbrev Found : Expr → Finds
  Found = type_of items earlier post

  abbrev FoundPart : Clause → Part
  FoundPart = part_of items earlier post

  abbrev Holds : Judgement → Type 0
  Holds = Typed items earlier post

  abbrev Right : Expr → Type 0
  Right e = (G : Context) (T : Ty) → type_of items earlier post e G ≡ Some T → Typed items earlier post (Has G e T)

  abbrev RightPart : Clause → Type 0
  RightPart c = (G : Context) (cs : List Clause) (b : Expr) (T : Ty)
      → ((H : Context) → built_type (map (part_of items earlier post) cs) (type_of items earlier post b) H ≡ Some T → Typed items earlier post (Builds H cs b T))
      → built_type (part_of items earlier post c ∷ map (part_of items earlier post) cs) (type_of items earlier post b) G ≡ Some T → Typed items earlier post (Builds G (c ∷ cs) b T)

  abbrev AnExpr : Type 0
  AnExpr = (e : Expr) × Right e

  abbrev AClause : Type 0
  AClause = (c : Clause) × RightPart c

  have : (es : List AnExpr) (G : Context) (Ts : List Ty) → all_types (map Found (map (λ e. e.0) es)) G ≡ Some Ts → Typed items earlier post (Have G (map (λ e. e.0) es) Ts)
  have [] G Ts h = let q : [] ≡ Ts = some_is _ Ts h in let P : List Ty → Type 0 = λ x. Typed items earlier post (Have G [] x) in subst P q (typed_none G)
  have (e ∷ es) G Ts h =
      let r = then_some _ _ Ts h in
      let s = then_some _ _ Ts r.2 in
      let q : r.0 ∷ s.0 ≡ Ts = some_is _ Ts s.2 in
      let P : List Ty → Type 0 = λ x. Typed items earlier post (Have G (e.0 ∷ map (λ e. e.0) es) x) in
      subst P q (typed_more G e.0 _ r.0 s.0 (e.1 G r.0 r.1) (have es G s.0 s.1))

  have_each : (es : List AnExpr) (G : Context) (Ts : List Ty) → each_has (map Found (map (λ e. e.0) es)) G Ts ≡ true → Typed items earlier post (Have G (map (λ e. e.0) es) Ts)
  have_each [] G [] h = typed_none G
  have_each [] G (T ∷ Ts) h = absurd (cc)
  have_each (e ∷ es) G [] h = absurd (cc)
  have_each (e ∷ es) G (T ∷ Ts) h =
      let b = both _ _ h in
      typed_more G e.0 _ T Ts (e.1 G T (is_found _ T b.0)) (have_each es G Ts b.1)

  have_all : (es : List AnExpr) (G : Context) (T : Ty) → all_have (map Found (map (λ e. e.0) es)) G T ≡ true → Typed items earlier post (AllHave G (map (λ e. e.0) es) T)
  have_all [] G T h = typed_empty G T
  have_all (e ∷ es) G T h =
      let b = both _ _ h in
      typed_each G e.0 _ T (e.1 G T (is_found _ T b.0)) (have_all es G T b.1)

  builds : (cs : List AClause) (b : AnExpr) (G : Context) (T : Ty) → built_type (map FoundPart (map (λ c. c.0) cs)) (Found b.0) G ≡ Some T → Typed items earlier post (Builds G (map (λ c. c.0) cs) b.0 T)
  builds [] b G T h = typed_body G b.0 T (b.1 G T h)
  builds (c ∷ cs) b G T h = c.1 G (map (λ c. c.0) cs) b.0 T (λ H k. builds cs b H T k) h

  abbrev PlainLayer : Expr-F AClause AnExpr → Expr-F Clause Expr
  PlainLayer y = map-Expr AClause AnExpr Clause Expr (λ c. c.0) (λ e. e.0) y

  abbrev LayerRight : Expr-F Clause Expr → Type 0
  LayerRight x = (G : Context) (T : Ty) → type_at items earlier post (map-Expr Clause Expr Part Finds FoundPart Found x) G ≡ Some T → Typed items earlier post (Has G (roll-Expr x) T)

  put : (G : Context) (d : Expr-F Clause Expr) (e : Expr) (S T : Ty) → roll-Expr d ≡ e → S ≡ T → Typed items earlier post (Has G e S) → Typed items earlier post (Has G (roll-Expr d) T)
  put G d e S T r q h =
      let P : Expr → Type 0 = λ x. Typed items earlier post (Has G x T) in
      let Q : Ty → Type 0 = λ x. Typed items earlier post (Has G e x) in
      subst P (sym r) (subst Q q h)

  layer : (y : Expr-F AClause AnExpr) → LayerRight (PlainLayer y)
  layer (Expr-F.Int n) G T h =
      let w = where_some _ _ T h in let q : ty.Int ≡ T = some_is _ T w.1 in
      put G _ _ _ T (expr.rolls-Int n) q (typed_int G n w.0)
  layer (Expr-F.Bool b) G T h = let q : ty.Bool ≡ T = some_is _ T h in put G _ _ _ T (expr.rolls-Bool b) q (typed_bool G b)
  layer (Expr-F.Text t) G T h =
      let w = where_some _ _ T h in let q : ty.Text ≡ T = some_is _ T w.1 in
      put G _ _ _ T (expr.rolls-Text t) q (typed_text G t w.0)
  layer (Expr-F.Name x) G T h = put G _ _ _ T (expr.rolls-Name x) refl (typed_name G x T h)
  layer (Expr-F.Let x e b) G T h =
      let r = then_some _ _ T h in
      put G _ _ _ T (expr.rolls-Let x e.0 b.0) refl (typed_let G x e.0 b.0 r.0 T (e.1 G r.0 r.1) (b.1 ((x, r.0) ∷ G) T r.2))
  layer (Expr-F.If c a b) G T h =
      let w = where_some _ _ T h in
      let s = then_some _ _ T w.1 in
      let v = where_some _ _ T s.2 in
      let q : s.0 ≡ T = some_is _ T v.1 in
      put G _ _ _ T (expr.rolls-If c.0 a.0 b.0) q (typed_if G c.0 a.0 b.0 s.0 (c.1 G ty.Bool (is_found _ _ w.0)) (a.1 G s.0 s.1) (b.1 G s.0 (is_found _ _ v.0)))
  layer (Expr-F.And a b) G T h =
      let w = where_some _ _ T h in
      let p = both _ _ w.0 in
      let q : ty.Bool ≡ T = some_is _ T w.1 in
      put G _ _ _ T (expr.rolls-And a.0 b.0) q (typed_and G a.0 b.0 (a.1 G ty.Bool (is_found _ _ p.0)) (b.1 G ty.Bool (is_found _ _ p.1)))
  layer (Expr-F.Or a b) G T h =
      let w = where_some _ _ T h in
      let p = both _ _ w.0 in
      let q : ty.Bool ≡ T = some_is _ T w.1 in
      put G _ _ _ T (expr.rolls-Or a.0 b.0) q (typed_or G a.0 b.0 (a.1 G ty.Bool (is_found _ _ p.0)) (b.1 G ty.Bool (is_found _ _ p.1)))
  layer (Expr-F.Unary op e) G T h =
      let r = then_some _ _ T h in
      put G _ _ _ T (expr.rolls-Unary op e.0) refl (typed_unary G op e.0 r.0 T (unary_some post op r.0 T r.2) (e.1 G r.0 r.1))
  layer (Expr-F.Binary op a b) G T h =
      let r = then_some _ _ T h in
      let s = then_some _ _ T r.2 in
      put G _ _ _ T (expr.rolls-Binary op a.0 b.0) refl (typed_binary G op a.0 b.0 r.0 s.0 T (binary_some post op r.0 s.0 T s.2) (a.1 G r.0 r.1) (b.1 G s.0 s.1))
  layer (Expr-F.Tuple es) G T h =
      let r = then_some _ _ T h in
      let q : ty.Tuple r.0 ≡ T = some_is _ T r.2 in
      put G _ _ _ T (expr.rolls-Tuple (map (λ e. e.0) es)) q (typed_tuple G _ r.0 (have es G r.0 r.1))
  layer (Expr-F.At e place) G T h =
      let r = then_some _ _ T h in
      let s = then_some _ _ T r.2 in
      put G _ _ _ T (expr.rolls-At e.0 place) refl (typed_at G e.0 place s.0 T s.2 (e.1 G (ty.Tuple s.0) (r.1 ∙ ap Some (parts_is r.0 s.0 s.1))))
  layer (Expr-F.List U es) G T h =
      let w = where_some _ _ T h in
      let p = both _ _ w.0 in
      let q : ty.List U ≡ T = some_is _ T w.1 in
      put G _ _ _ T (expr.rolls-List U (map (λ e. e.0) es)) q (typed_list G U _ (ap (λ n. nat_le n limit) (sym (length-map (map (λ e. e.0) es) Found)) ∙ p.0) (have_all es G U p.1))
  layer (Expr-F.For cs b) G T h =
      let r = then_some _ _ T h in
      let q : ty.List r.0 ≡ T = some_is _ T r.2 in
      put G _ _ _ T (expr.rolls-For (map (λ c. c.0) cs) b.0) q (typed_for G _ b.0 r.0 (builds cs b G r.0 r.1))
  layer (Expr-F.Fold x e acc i b) G T h =
      let r = then_some _ _ T h in
      let s = then_some _ _ r.0 r.1 in
      let u = then_some _ _ T r.2 in
      let v = where_some _ _ T u.2 in
      let q : u.0 ≡ T = some_is _ T v.1 in
      put G _ _ _ T (expr.rolls-Fold x e.0 acc i.0 b.0) q (typed_fold G x e.0 acc i.0 b.0 r.0 u.0 (e.1 G (ty.List r.0) (s.1 ∙ ap Some (item_is s.0 r.0 s.2))) (i.1 G u.0 u.1) (b.1 ((acc, u.0) ∷ (x, r.0) ∷ G) u.0 (is_found _ _ v.0)))
  layer (Expr-F.Map k U) G T h = let q : ty.Map k U ≡ T = some_is _ T h in put G _ _ _ T (expr.rolls-Map k U) q (typed_map G k U)
  layer (Expr-F.Put m k e) G T h =
      let r = then_some _ _ T h in
      let s = then_some _ _ T r.2 in
      let w = where_some _ _ T s.2 in
      let u = then_some _ _ T w.1 in
      let v = where_some _ _ T u.2 in
      let n = map_is r.0 s.0 s.1 in
      let same : n.1 ≡ u.0 = values_are r.0 n.0 n.1 u.0 n.2 u.1 in
      let map_found = r.1 ∙ ap Some n.2 in
      let key_found = is_found _ _ w.0 ∙ ap Some (sym n.3) in
      let value_found = is_found _ _ v.0 ∙ ap Some (sym same) in
      put G _ _ _ T (expr.rolls-Put m.0 k.0 e.0) (sym n.2 ∙ some_is _ T v.1) (typed_put G m.0 k.0 e.0 n.0 n.1 (m.1 G (ty.Map n.0 n.1) map_found) (k.1 G (key_type n.0) key_found) (e.1 G n.1 value_found))
  layer (Expr-F.Call x es) G T h =
      let r = then_some _ _ T h in
      let n = then_some _ _ r.0 r.1 in
      let within = where_some _ _ r.0 n.2 in
      let w = where_some _ _ T r.2 in
      let q : ty.Call ≡ T = some_is _ T w.1 in
      put G _ _ _ T (expr.rolls-Call x (map (λ e. e.0) es)) q (typed_call G x _ n.0 r.0 n.1 within.0 within.1 (have_each es G (types_of r.0.params) w.0))
  layer (Expr-F.Apply f es) G T h =
      let r = then_some _ _ T h in
      let w = where_some _ _ T r.2 in
      let p = both _ _ w.0 in
      let q : r.0.result ≡ T = some_is _ T w.1 in
      put G _ _ _ T (expr.rolls-Apply f (map (λ e. e.0) es)) q (typed_apply G f _ r.0 r.1 p.0 (have_each es G (types_of r.0.params) p.1))

  abbrev PlainPart : Clause-F AClause AnExpr → Clause-F Clause Expr
  PlainPart y = map-Clause AClause AnExpr Clause Expr (λ c. c.0) (λ e. e.0) y

  abbrev PartRight : Clause-F Clause Expr → Type 0
  PartRight x = (G : Context) (cs : List Clause) (b : Expr) (T : Ty)
      → ((H : Context) → built_type (map (part_of items earlier post) cs) (Found b) H ≡ Some T → Typed items earlier post (Builds H cs b T))
      → built_type (part_at (map-Clause Clause Expr Part Finds FoundPart Found x) ∷ map (part_of items earlier post) cs) (Found b) G ≡ Some T → Typed items earlier post (Builds G (roll-Clause x ∷ cs) b T)

  put_clause : (G : Context) (d : Clause-F Clause Expr) (c : Clause) (cs : List Clause) (b : Expr) (T : Ty) → roll-Clause d ≡ c → Typed items earlier post (Builds G (c ∷ cs) b T) → Typed items earlier post (Builds G (roll-Clause d ∷ cs) b T)
  put_clause G d c cs b T r h = let P : Clause → Type 0 = λ x. Typed items earlier post (Builds G (x ∷ cs) b T) in subst P (sym r) h

  part_layer : (y : Clause-F AClause AnExpr) → PartRight (PlainPart y)
  part_layer (Clause-F.In x e) G cs b T k h =
      let r = then_some _ _ T h in
      let s = then_some _ _ r.0 r.1 in
      put_clause G _ _ cs b T (clause.rolls-In x e.0) (typed_in G x e.0 cs b r.0 T (e.1 G (ty.List r.0) (s.1 ∙ ap Some (item_is s.0 r.0 s.2))) (k ((x, r.0) ∷ G) r.2))
  part_layer (Clause-F.When e) G cs b T k h =
      let w = where_some _ _ T h in
      put_clause G _ _ cs b T (clause.rolls-When e.0) (typed_when G e.0 cs b T (e.1 G ty.Bool (is_found _ _ w.0)) (k G w.1))

  pub found_right : (e : Expr) → Right e
  found_right = ind-Expr RightPart Right
      (λ x y is_y G cs b T k h.
      let P : Clause-F Clause Expr → Type 0 = λ z. PartRight z in
      subst P is_y (part_layer y) G cs b T k (ap (λ c. built_type (c ∷ map (part_of items earlier post) cs) (Found b) G) (sym (fold-roll-Clause Part Finds part_at (type_at items earlier post) x)) ∙ h))
      (λ x y is_y G T h.
      let P : Expr-F Clause Expr → Type 0 = λ z. LayerRight z in
      subst P is_y (layer y) G T (ap (λ f. f G) (sym (fold-roll-Expr Part Finds part_at (type_at items earlier post) x)) ∙ h))
