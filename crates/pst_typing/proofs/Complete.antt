-- The type that the rules give is found.
use Rattle.std.proofs.Common.{◌≡◌, Bool, true, List, map, Some, refl, sym, ap, ◌∙◌}
use Rattle.std.proofs.lemmas.Bool.{and_from}
use Rattle.std.proofs.lemmas.List.{length-map}
use Rattle.pst_model.specs.declared.expr.Clause.{Clause}
use Rattle.pst_model.specs.declared.expr.Expr.{Expr, Expr-F, roll-Expr, map-Expr, fold-roll-Expr}
use Rattle.pst_model.specs.declared.expr.Expr.TheVariants as expr
use Rattle.pst_model.specs.declared.model.Item.{Item}
use Rattle.pst_model.specs.Rules.{Context, Judgement, Has, Have, AllHave, Builds, Typed, typed_int, typed_bool, typed_text, typed_name, typed_let, typed_if, typed_and, typed_or, typed_unary, typed_binary, typed_tuple, typed_at, typed_list, typed_map, typed_put, typed_for, typed_fold, typed_call, typed_apply, typed_none, typed_more, typed_empty, typed_each, typed_body, typed_in, typed_when}
use Rattle.pst_typing.specs.Decision.{Finds, Part, all_types, all_have, each_has, built_type, type_at, part_at, type_of, part_of}
use Rattle.pst_typing.proofs.Exactly.{found_is}
use Rattle.pst_typing.proofs.Forms.{part_in, part_when}
use Rattle.pst_typing.proofs.Operating.{item_of, parts_of, keys_of, values_of, unary_of, binary_of}
use Rattle.pst_value.specs.declared.ty.Ty.{Ty}

module _ (items earlier : List Item) (post : Bool) where
  abbrev Found : Expr → Finds
  Found = type_of items earlier post

  -- what the decision gives of each judgement; of expressions in turn both their types and the test
  abbrev Complete : Judgement → Type 0
  Complete (Has G e T) = type_of items earlier post e G ≡ Some T
  Complete (Have G es Ts) = (all_types (map Found es) G ≡ Some Ts) × (each_has (map Found es) G Ts ≡ true)
  Complete (AllHave G es T) = all_have (map Found es) G T ≡ true
  Complete (Builds G cs b T) = built_type (map (part_of items earlier post) cs) (Found b) G ≡ Some T

  to : (G : Context) (T : Ty) (d : Expr-F Clause Expr) (e : Expr) → roll-Expr d ≡ e → type_at items earlier post (map-Expr Clause Expr Part Finds (part_of items earlier post) Found d) G ≡ Some T → type_of items earlier post e G ≡ Some T
  to G T d e r h = ap (λ x. Found x G) (sym r) ∙ ap (λ f. f G) (fold-roll-Expr Part Finds part_at (type_at items earlier post) d) ∙ h

  pub complete : (j : Judgement) → Typed items earlier post j → Complete j
  complete _ (typed_int G n h) = to G _ _ _ (expr.rolls-Int n) (rw h refl)
  complete _ (typed_bool G b) = to G _ _ _ (expr.rolls-Bool b) refl
  complete _ (typed_text G t h) = to G _ _ _ (expr.rolls-Text t) (rw h refl)
  complete _ (typed_name G x T h) = to G _ _ _ (expr.rolls-Name x) h
  complete _ (typed_let G x e b S T he hb) = to G _ _ _ (expr.rolls-Let x e b) (rw (complete _ he) (complete _ hb))
  complete _ (typed_if G c a b T hc ha hb) = to G _ _ _ (expr.rolls-If c a b) (rw (found_is _ _ (complete _ hc), complete _ ha, found_is _ _ (complete _ hb)) refl)
  complete _ (typed_and G a b ha hb) = to G _ _ _ (expr.rolls-And a b) (rw (found_is _ _ (complete _ ha), found_is _ _ (complete _ hb)) refl)
  complete _ (typed_or G a b ha hb) = to G _ _ _ (expr.rolls-Or a b) (rw (found_is _ _ (complete _ ha), found_is _ _ (complete _ hb)) refl)
  complete _ (typed_unary G op e S T o h) = to G _ _ _ (expr.rolls-Unary op e) (rw (complete _ h) (unary_of post op S T o))
  complete _ (typed_binary G op a b R S T o ha hb) = to G _ _ _ (expr.rolls-Binary op a b) (rw (complete _ ha, complete _ hb) (binary_of post op R S T o))
  complete _ (typed_tuple G es Ts h) = to G _ _ _ (expr.rolls-Tuple es) (rw (complete _ h).0 refl)
  complete _ (typed_at G e place Ts T o h) = to G _ _ _ (expr.rolls-At e place) (rw (complete _ h, parts_of Ts) o)
  complete _ (typed_list G T es l h) = to G _ _ _ (expr.rolls-List T es) (rw (length-map es Found, l, complete _ h) refl)
  complete _ (typed_map G k T) = to G _ _ _ (expr.rolls-Map k T) refl
  complete _ (typed_put G m key e k T hm hk he) = to G _ _ _ (expr.rolls-Put m key e) (rw (complete _ hm, keys_of k T, found_is _ _ (complete _ hk), values_of k T, found_is _ _ (complete _ he)) refl)
  complete _ (typed_for G cs b T h) = to G _ _ _ (expr.rolls-For cs b) (rw (complete _ h) refl)
  complete _ (typed_fold G x e acc i b S T he hi hb) = to G _ _ _ (expr.rolls-Fold x e acc i b) (rw (complete _ he, item_of S, complete _ hi, found_is _ _ (complete _ hb)) refl)
  complete _ (typed_call G x es n o hn small ho h) = to G _ _ _ (expr.rolls-Call x es) (rw (hn, small, ho, (complete _ h).1) refl)
  complete _ (typed_apply G f es g o p h) = to G _ _ _ (expr.rolls-Apply f es) (rw (o, p, (complete _ h).1) refl)
  complete _ (typed_none G) = (refl, refl)
  complete _ (typed_more G e es T Ts h hs) = let r = complete _ hs in (rw (complete _ h, r.0) refl, and_from _ _ (found_is _ _ (complete _ h)) r.1)
  complete _ (typed_empty G T) = refl
  complete _ (typed_each G e es T h hs) = and_from _ _ (found_is _ _ (complete _ h)) (complete _ hs)
  complete _ (typed_body G b T h) = complete _ h
  complete _ (typed_in G x e cs b S T he hc) = rw (part_in items earlier post x e, complete _ he, item_of S) (complete _ hc)
  complete _ (typed_when G e cs b T he hc) = rw (part_when items earlier post e, found_is _ _ (complete _ he)) (complete _ hc)
