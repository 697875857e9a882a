-- The types of operators by the decision and by the rules.
use Rattle.std.proofs.Common.{◌≡◌, Bool, true, false, ◌||◌, Some, List, refl, sym, ap, ◌∙◌, subst, inl, inr}
use Rattle.std.proofs.lemmas.Bool.{cases_Bool, and_from}
use Rattle.pst_model.specs.declared.expr.Binary.{Binary}
use Rattle.pst_model.specs.declared.expr.Binary.TheVariants.{Add, Sub, Mul, Div, Rem, Less, LessEqual, Equal, Same, Append, Nth, Range, Get, Has, Del}
use Rattle.pst_model.specs.declared.expr.Unary.{Unary}
use Rattle.pst_model.specs.declared.expr.Unary.TheVariants.{Not, Len, Deref, Keys}
use Rattle.pst_model.specs.Rules.{is_arithmetic, is_order, key_type, OperatesOnOne, operates_not, operates_len_text, operates_len_list, operates_deref, operates_keys, OperatesOnTwo, operates_arithmetic, operates_order_int, operates_order_text, operates_equal, operates_same, operates_append_text, operates_append_list, operates_nth, operates_get, operates_has, operates_del, operates_range}
use Rattle.pst_typing.specs.Decision.{where_true, item_at, item_type, parts_at, part_types, referred_at, referred_type, is_ref_at, is_ref, is_sequence_at, keys_at, keys_type, values_at, values_type, both_int, are_ordered, unary_type, binary_type}
use Rattle.pst_typing.proofs.Exactly.{exact, same_refl, then_some, where_some, some_is, is_found, both}
use Rattle.pst_value.specs.Equality.{same_ty}
use Rattle.pst_value.specs.declared.key.KeyTy.{KeyTy}
use Rattle.pst_value.specs.declared.ty.Ty.{Ty, out-Ty, roll-Ty, roll-out-Ty}
use Rattle.pst_value.specs.declared.ty.Ty.TheOpen.{Ty-F}
use Rattle.pst_value.specs.declared.ty.Ty.TheVariants as ty

-- ---- the form of a type

formed : (t s : Ty) (d : Ty-F Ty) → out-Ty t ≡ d → roll-Ty d ≡ s → t ≡ s
formed t s d e r = sym (roll-out-Ty t) ∙ ap roll-Ty e ∙ r

list_form : (d : Ty-F Ty) (T : Ty) → item_at d ≡ Some T → d ≡ Ty-F.List T
list_form Ty-F.Int T h = absurd (cc)
list_form Ty-F.Bool T h = absurd (cc)
list_form Ty-F.Text T h = absurd (cc)
list_form (Ty-F.Tuple ts) T h = absurd (cc)
list_form (Ty-F.List u) T h = let p : u ≡ T = cc in ap Ty-F.List p
list_form (Ty-F.Map k u) T h = absurd (cc)
list_form (Ty-F.Ref u) T h = absurd (cc)
list_form Ty-F.Call T h = absurd (cc)

tuple_form : (d : Ty-F Ty) (Ts : List Ty) → parts_at d ≡ Some Ts → d ≡ Ty-F.Tuple Ts
tuple_form Ty-F.Int Ts h = absurd (cc)
tuple_form Ty-F.Bool Ts h = absurd (cc)
tuple_form Ty-F.Text Ts h = absurd (cc)
tuple_form (Ty-F.Tuple us) Ts h = let p : us ≡ Ts = cc in ap Ty-F.Tuple p
tuple_form (Ty-F.List u) Ts h = absurd (cc)
tuple_form (Ty-F.Map k u) Ts h = absurd (cc)
tuple_form (Ty-F.Ref u) Ts h = absurd (cc)
tuple_form Ty-F.Call Ts h = absurd (cc)

referred_form : (d : Ty-F Ty) (T : Ty) → referred_at d ≡ Some T → d ≡ Ty-F.Ref T
referred_form Ty-F.Int T h = absurd (cc)
referred_form Ty-F.Bool T h = absurd (cc)
referred_form Ty-F.Text T h = absurd (cc)
referred_form (Ty-F.Tuple ts) T h = absurd (cc)
referred_form (Ty-F.List u) T h = absurd (cc)
referred_form (Ty-F.Map k u) T h = absurd (cc)
referred_form (Ty-F.Ref u) T h = let p : u ≡ T = cc in ap Ty-F.Ref p
referred_form Ty-F.Call T h = absurd (cc)

ref_form : (d : Ty-F Ty) → is_ref_at d ≡ true → (T : Ty) × (d ≡ Ty-F.Ref T)
ref_form Ty-F.Int h = absurd (cc)
ref_form Ty-F.Bool h = absurd (cc)
ref_form Ty-F.Text h = absurd (cc)
ref_form (Ty-F.Tuple ts) h = absurd (cc)
ref_form (Ty-F.List u) h = absurd (cc)
ref_form (Ty-F.Map k u) h = absurd (cc)
ref_form (Ty-F.Ref u) h = (u, refl)
ref_form Ty-F.Call h = absurd (cc)

-- a map type, by the type of its keys
map_form : (d : Ty-F Ty) (K : Ty) → keys_at d ≡ Some K → (k : KeyTy) × (T : Ty) × (d ≡ Ty-F.Map k T) × (key_type k ≡ K)
map_form Ty-F.Int K h = absurd (cc)
map_form Ty-F.Bool K h = absurd (cc)
map_form Ty-F.Text K h = absurd (cc)
map_form (Ty-F.Tuple ts) K h = absurd (cc)
map_form (Ty-F.List u) K h = absurd (cc)
map_form (Ty-F.Map k u) K h = (k, u, refl, some_is (key_type k) K h)
map_form (Ty-F.Ref u) K h = absurd (cc)
map_form Ty-F.Call K h = absurd (cc)

pub item_is : (t T : Ty) → item_type t ≡ Some T → t ≡ ty.List T
item_is t T h = formed t (ty.List T) (Ty-F.List T) (list_form (out-Ty t) T h) (ty.rolls-List T)

pub parts_is : (t : Ty) (Ts : List Ty) → part_types t ≡ Some Ts → t ≡ ty.Tuple Ts
parts_is t Ts h = formed t (ty.Tuple Ts) (Ty-F.Tuple Ts) (tuple_form (out-Ty t) Ts h) (ty.rolls-Tuple Ts)

referred_is : (t T : Ty) → referred_type t ≡ Some T → t ≡ ty.Ref T
referred_is t T h = formed t (ty.Ref T) (Ty-F.Ref T) (referred_form (out-Ty t) T h) (ty.rolls-Ref T)

ref_is : (t : Ty) → is_ref t ≡ true → (T : Ty) × (t ≡ ty.Ref T)
ref_is t h = let r = ref_form (out-Ty t) h in (r.0, formed t (ty.Ref r.0) (Ty-F.Ref r.0) r.1 (ty.rolls-Ref r.0))

pub map_is : (t K : Ty) → keys_type t ≡ Some K → (k : KeyTy) × (T : Ty) × (t ≡ ty.Map k T) × (key_type k ≡ K)
map_is t K h =
    let m = map_form (out-Ty t) K h in
    (m.0, m.1, formed t (ty.Map m.0 m.1) (Ty-F.Map m.0 m.1) m.2 (ty.rolls-Map m.0 m.1), m.3)

pub item_of : (T : Ty) → item_type (ty.List T) ≡ Some T
item_of T = ap item_at (ty.outs-List T)

pub parts_of : (Ts : List Ty) → part_types (ty.Tuple Ts) ≡ Some Ts
parts_of Ts = ap parts_at (ty.outs-Tuple Ts)

pub keys_of : (k : KeyTy) (T : Ty) → keys_type (ty.Map k T) ≡ Some (key_type k)
keys_of k T = ap keys_at (ty.outs-Map k T)

pub values_of : (k : KeyTy) (T : Ty) → values_type (ty.Map k T) ≡ Some T
values_of k T = ap values_at (ty.outs-Map k T)

-- the values of a map type have one type
pub values_are : (t : Ty) (k : KeyTy) (S T : Ty) → t ≡ ty.Map k S → values_type t ≡ Some T → S ≡ T
values_are t k S T e h = some_is S T (sym (values_of k S) ∙ ap values_type (sym e) ∙ h)

-- ---- what is found is given by the rules

module _ (post : Bool) where
  one_at : (op : Unary) (S T S' T' : Ty) → S' ≡ S → T' ≡ T → OperatesOnOne post op S' T' → OperatesOnOne post op S T
  one_at op S T S' T' s t o =
      let P : Ty → Type 0 = λ x. OperatesOnOne post op x T in
      let Q : Ty → Type 0 = λ x. OperatesOnOne post op S' x in
      subst P s (subst Q t o)

  two_at : (op : Binary) (R S T R' S' T' : Ty) → R' ≡ R → S' ≡ S → T' ≡ T → OperatesOnTwo post op R' S' T' → OperatesOnTwo post op R S T
  two_at op R S T R' S' T' r s t o =
      let P : Ty → Type 0 = λ x. OperatesOnTwo post op x S T in
      let Q : Ty → Type 0 = λ x. OperatesOnTwo post op R' x T in
      let U : Ty → Type 0 = λ x. OperatesOnTwo post op R' S' x in
      subst P r (subst Q s (subst U t o))

  len_some : (S : Ty) (d : Ty-F Ty) → out-Ty S ≡ d → is_sequence_at d ≡ true → OperatesOnOne post Len S ty.Int
  len_some S Ty-F.Int e h = absurd (cc)
  len_some S Ty-F.Bool e h = absurd (cc)
  len_some S Ty-F.Text e h = one_at Len S ty.Int ty.Text ty.Int (sym (formed S ty.Text Ty-F.Text e ty.rolls-Text)) refl operates_len_text
  len_some S (Ty-F.Tuple ts) e h = absurd (cc)
  len_some S (Ty-F.List u) e h = one_at Len S ty.Int (ty.List u) ty.Int (sym (formed S (ty.List u) (Ty-F.List u) e (ty.rolls-List u))) refl (operates_len_list u)
  len_some S (Ty-F.Map k u) e h = absurd (cc)
  len_some S (Ty-F.Ref u) e h = absurd (cc)
  len_some S Ty-F.Call e h = absurd (cc)

  pub unary_some : (op : Unary) (S T : Ty) → unary_type post op S ≡ Some T → OperatesOnOne post op S T
  unary_some Not S T h =
      let w = where_some _ _ T h in let t : ty.Bool ≡ T = some_is _ T w.1 in
      one_at Not S T ty.Bool ty.Bool (sym (exact S ty.Bool w.0)) t operates_not
  unary_some Len S T h =
      let w = where_some _ _ T h in let t : ty.Int ≡ T = some_is _ T w.1 in
      one_at Len S T S ty.Int refl t (len_some S (out-Ty S) refl w.0)
  unary_some Deref S T h =
      let w = where_some _ _ T h in
      one_at Deref S T (ty.Ref T) T (sym (referred_is S T w.1)) refl (operates_deref T w.0)
  unary_some Keys S T h =
      let r = then_some _ _ T h in
      let m = map_is S r.0 r.1 in
      let t : ty.List r.0 ≡ T = some_is _ T r.2 in
      one_at Keys S T (ty.Map m.0 m.1) (ty.List (key_type m.0)) (sym m.2) (ap ty.List m.3 ∙ t) (operates_keys m.0 m.1)

  arithmetic_some : (op : Binary) (R S T : Ty) → is_arithmetic op ≡ true → where_true (both_int R S) (Some ty.Int) ≡ Some T → OperatesOnTwo post op R S T
  arithmetic_some op R S T a h =
      let w = where_some _ _ T h in let b = both _ _ w.0 in let t : ty.Int ≡ T = some_is _ T w.1 in
      two_at op R S T ty.Int ty.Int ty.Int (sym (exact R ty.Int b.0)) (sym (exact S ty.Int b.1)) t (operates_arithmetic op a)

  order_some : (op : Binary) (R S T : Ty) → is_order op ≡ true → where_true (are_ordered R S) (Some ty.Bool) ≡ Some T → OperatesOnTwo post op R S T
  order_some op R S T o h =
      let w = where_some _ _ T h in let b = both _ _ w.0 in let t : ty.Bool ≡ T = some_is _ T w.1 in
      let same : R ≡ S = exact R S b.0 in
      elim (cases_Bool (same_ty R ty.Int)) [
        | inl e ↦ let r : ty.Int ≡ R = sym (exact R ty.Int e) in two_at op R S T ty.Int ty.Int ty.Bool r (r ∙ same) t (operates_order_int op o)
        | inr e ↦
            let k = rw e at b.1 in
            let r : ty.Text ≡ R = sym (exact R ty.Text k) in two_at op R S T ty.Text ty.Text ty.Bool r (r ∙ same) t (operates_order_text op o)
      ]

  append_some : (R : Ty) (d : Ty-F Ty) → out-Ty R ≡ d → is_sequence_at d ≡ true → OperatesOnTwo post Append R R R
  append_some R Ty-F.Int e h = absurd (cc)
  append_some R Ty-F.Bool e h = absurd (cc)
  append_some R Ty-F.Text e h = let r : ty.Text ≡ R = sym (formed R ty.Text Ty-F.Text e ty.rolls-Text) in two_at Append R R R ty.Text ty.Text ty.Text r r r operates_append_text
  append_some R (Ty-F.Tuple ts) e h = absurd (cc)
  append_some R (Ty-F.List u) e h = let r : ty.List u ≡ R = sym (formed R (ty.List u) (Ty-F.List u) e (ty.rolls-List u)) in two_at Append R R R (ty.List u) (ty.List u) (ty.List u) r r r (operates_append_list u)
  append_some R (Ty-F.Map k u) e h = absurd (cc)
  append_some R (Ty-F.Ref u) e h = absurd (cc)
  append_some R Ty-F.Call e h = absurd (cc)

  pub binary_some : (op : Binary) (R S T : Ty) → binary_type post op R S ≡ Some T → OperatesOnTwo post op R S T
  binary_some Add R S T h = arithmetic_some Add R S T refl h
  binary_some Sub R S T h = arithmetic_some Sub R S T refl h
  binary_some Mul R S T h = arithmetic_some Mul R S T refl h
  binary_some Div R S T h = arithmetic_some Div R S T refl h
  binary_some Rem R S T h = arithmetic_some Rem R S T refl h
  binary_some Less R S T h = order_some Less R S T refl h
  binary_some LessEqual R S T h = order_some LessEqual R S T refl h
  binary_some Equal R S T h =
      let w = where_some _ _ T h in let b = both _ _ w.0 in let t : ty.Bool ≡ T = some_is _ T w.1 in
      two_at Equal R S T R R ty.Bool refl (exact R S b.0) t (operates_equal R b.1)
  binary_some Same R S T h =
      let w = where_some _ _ T h in let b = both _ _ w.0 in let t : ty.Bool ≡ T = some_is _ T w.1 in
      let u = ref_is R b.1 in
      two_at Same R S T (ty.Ref u.0) (ty.Ref u.0) ty.Bool (sym u.1) (sym u.1 ∙ exact R S b.0) t (operates_same u.0)
  binary_some Append R S T h =
      let w = where_some _ _ T h in let b = both _ _ w.0 in let t : R ≡ T = some_is R T w.1 in
      two_at Append R S T R R R refl (exact R S b.0) t (append_some R (out-Ty R) refl b.1)
  binary_some Nth R S T h =
      let w = where_some _ _ T h in
      two_at Nth R S T (ty.List T) ty.Int T (sym (item_is R T w.1)) (sym (exact S ty.Int w.0)) refl (operates_nth T)
  binary_some Get R S T h =
      let w = where_some _ _ T h in
      let m = map_is R S (is_found _ S w.0) in
      two_at Get R S T (ty.Map m.0 m.1) (key_type m.0) m.1 (sym m.2) m.3 (values_are R m.0 m.1 T m.2 w.1) (operates_get m.0 m.1)
  binary_some Has R S T h =
      let w = where_some _ _ T h in
      let m = map_is R S (is_found _ S w.0) in
      two_at Has R S T (ty.Map m.0 m.1) (key_type m.0) ty.Bool (sym m.2) m.3 (some_is _ T w.1) (operates_has m.0 m.1)
  binary_some Del R S T h =
      let w = where_some _ _ T h in
      let m = map_is R S (is_found _ S w.0) in
      two_at Del R S T (ty.Map m.0 m.1) (key_type m.0) (ty.Map m.0 m.1) (sym m.2) m.3 (sym m.2 ∙ some_is R T w.1) (operates_del m.0 m.1)
  binary_some Range R S T h =
      let w = where_some _ _ T h in let b = both _ _ w.0 in let t : ty.List ty.Int ≡ T = some_is _ T w.1 in
      two_at Range R S T ty.Int ty.Int (ty.List ty.Int) (sym (exact R ty.Int b.0)) (sym (exact S ty.Int b.1)) t operates_range

  -- ---- what the rules give is found

  pub unary_of : (op : Unary) (S T : Ty) → OperatesOnOne post op S T → unary_type post op S ≡ Some T
  unary_of _ _ _ operates_not = rw (same_refl ty.Bool) refl
  unary_of _ _ _ operates_len_text = rw ty.outs-Text refl
  unary_of _ _ _ (operates_len_list T) = rw (ty.outs-List T) refl
  unary_of _ _ _ (operates_deref T p) = rw (p, ty.outs-Ref T) refl
  unary_of _ _ _ (operates_keys k T) = rw (keys_of k T) refl

  arithmetic_of : (op : Binary) → is_arithmetic op ≡ true → binary_type post op ty.Int ty.Int ≡ Some ty.Int
  arithmetic_of Add h = rw (same_refl ty.Int) refl
  arithmetic_of Sub h = rw (same_refl ty.Int) refl
  arithmetic_of Mul h = rw (same_refl ty.Int) refl
  arithmetic_of Div h = rw (same_refl ty.Int) refl
  arithmetic_of Rem h = rw (same_refl ty.Int) refl
  arithmetic_of Less h = absurd (cc)
  arithmetic_of LessEqual h = absurd (cc)
  arithmetic_of Equal h = absurd (cc)
  arithmetic_of Same h = absurd (cc)
  arithmetic_of Append h = absurd (cc)
  arithmetic_of Nth h = absurd (cc)
  arithmetic_of Get h = absurd (cc)
  arithmetic_of Has h = absurd (cc)
  arithmetic_of Del h = absurd (cc)
  arithmetic_of Range h = absurd (cc)

  order_of : (op : Binary) (R : Ty) → is_order op ≡ true → are_ordered R R ≡ true → binary_type post op R R ≡ Some ty.Bool
  order_of Add R h o = absurd (cc)
  order_of Sub R h o = absurd (cc)
  order_of Mul R h o = absurd (cc)
  order_of Div R h o = absurd (cc)
  order_of Rem R h o = absurd (cc)
  order_of Less R h o = ap (λ b. where_true b (Some ty.Bool)) o
  order_of LessEqual R h o = ap (λ b. where_true b (Some ty.Bool)) o
  order_of Equal R h o = absurd (cc)
  order_of Same R h o = absurd (cc)
  order_of Append R h o = absurd (cc)
  order_of Nth R h o = absurd (cc)
  order_of Get R h o = absurd (cc)
  order_of Has R h o = absurd (cc)
  order_of Del R h o = absurd (cc)
  order_of Range R h o = absurd (cc)

  or_second : (a b : Bool) → b ≡ true → (a || b) ≡ true
  or_second true b h = refl
  or_second false b h = h

  pub binary_of : (op : Binary) (R S T : Ty) → OperatesOnTwo post op R S T → binary_type post op R S ≡ Some T
  binary_of _ _ _ _ (operates_arithmetic op h) = arithmetic_of op h
  binary_of _ _ _ _ (operates_order_int op h) = order_of op ty.Int h (and_from _ _ (same_refl ty.Int) (ap (λ b. b || same_ty ty.Int ty.Text) (same_refl ty.Int)))
  binary_of _ _ _ _ (operates_order_text op h) = order_of op ty.Text h (and_from _ _ (same_refl ty.Text) (or_second (same_ty ty.Text ty.Int) _ (same_refl ty.Text)))
  binary_of _ _ _ _ (operates_equal T r) = rw (same_refl T, r) refl
  binary_of _ _ _ _ (operates_same T) = rw (same_refl (ty.Ref T), ty.outs-Ref T) refl
  binary_of _ _ _ _ operates_append_text = rw (same_refl ty.Text, ty.outs-Text) refl
  binary_of _ _ _ _ (operates_append_list T) = rw (same_refl (ty.List T), ty.outs-List T) refl
  binary_of _ _ _ _ (operates_nth T) = rw (same_refl ty.Int) (item_of T)
  binary_of _ _ _ _ (operates_get k T) = rw (keys_of k T, same_refl (key_type k)) (values_of k T)
  binary_of _ _ _ _ (operates_has k T) = rw (keys_of k T, same_refl (key_type k)) refl
  binary_of _ _ _ _ (operates_del k T) = rw (keys_of k T, same_refl (key_type k)) refl
  binary_of _ _ _ _ operates_range = rw (same_refl ty.Int) refl
