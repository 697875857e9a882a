-- Results in place of variables, at each form of a value, and what they leave.
use Rattle.std.proofs.Common.{◌≡◌, ℕ, ℤ, Bool, true, false, ◌||◌, List, [], ◌∷◌, map, Option, Some, None, refl, sym, ap, ◌∙◌, nat_le, length}
use Rattle.std.specs.List.{AllByRecursion, list_all, list_any}
use Rattle.pst_eval.proofs.Fitting.{both}
use Rattle.pst_model.specs.Kinds.{holds_ref_or_call, holds_ref_at}
use Rattle.pst_operators.specs.Maps.{map_of, value_of, keys}
use Rattle.pst_operators.specs.Operators.{int, bool, text, list, tuple, call, number_at, number_of}
use Rattle.pst_value.proofs.Forms.{value_induction}
use Rattle.pst_value.proofs.Substituting.{substituted-Int, substituted-Truth, substituted-Text, substituted-Tuple, substituted-ListOf, substituted-MapOf, substituted-Var, substituted-Ref, substituted-Call}
use Rattle.pst_value.proofs.Typing.{fits-Tuple, fits-ListOf, fits-MapOf, fits-Var, fits-Ref, fits-Call}
use Rattle.pst_value.specs.Fits.{fits, fits_level, fit_each}
use Rattle.pst_value.specs.Keys.{are_keys}
use Rattle.pst_value.specs.Subst.{substituted, known, named}
use Rattle.pst_value.specs.Text.{limit}
use Rattle.pst_value.specs.declared.key.Key.{Key}
use Rattle.pst_value.specs.declared.key.Key.TheVariants as key
use Rattle.pst_value.specs.declared.ty.Ty.{Ty, out-Ty, roll-out-Ty, fold-roll-Ty, map-Ty}
use Rattle.pst_value.specs.declared.ty.Ty.TheOpen.{Ty-F}
use Rattle.pst_value.specs.declared.value.Value.{Value, roll-Value, out-Value, roll-out-Value, out-roll-Value, Tuple, List as ListOf, Map as MapOf}
use Rattle.pst_value.specs.declared.value.Value.TheOpen.{Value-F}
use Rattle.pst_value.specs.declared.value.Value.TheVariants as value

module _ (rs : List (Option Value)) where
  abbrev S : Value → Value
  S = substituted rs

  pub sub_int : (n : ℤ) → S (int n) ≡ int n
  sub_int n = ap S (value.rolls-Int n) ∙ substituted-Int rs n ∙ sym (value.rolls-Int n)

  pub sub_bool : (b : Bool) → S (bool b) ≡ bool b
  sub_bool b = ap S (value.rolls-Bool b) ∙ substituted-Truth rs b ∙ sym (value.rolls-Bool b)

  pub sub_text : (t : List ℕ) → S (text t) ≡ text t
  sub_text t = ap S (value.rolls-Text t) ∙ substituted-Text rs t ∙ sym (value.rolls-Text t)

  pub sub_list : (vs : List Value) → S (list vs) ≡ list (map S vs)
  sub_list vs = ap S (value.rolls-List vs) ∙ substituted-ListOf rs vs ∙ sym (value.rolls-List (map S vs))

  pub sub_tuple : (vs : List Value) → S (tuple vs) ≡ tuple (map S vs)
  sub_tuple vs = ap S (value.rolls-Tuple vs) ∙ substituted-Tuple rs vs ∙ sym (value.rolls-Tuple (map S vs))

  pub sub_map : (ks : List Key) (vs : List Value) → S (map_of ks vs) ≡ map_of ks (map S vs)
  sub_map ks vs =
      ap S (value.rolls-Map ks vs) ∙ substituted-MapOf rs ks vs ∙ sym (value.rolls-Map ks (map S vs))

  -- a key stays, and so do all keys
  pub sub_key : (l : Key) → S (value_of l) ≡ value_of l
  sub_key (key.Int n) = sub_int n
  sub_key (key.Bool b) = sub_bool b
  sub_key (key.Text t) = sub_text t

  sub_each : (ks : List Key) → map S (keys ks) ≡ keys ks
  sub_each [] = refl
  sub_each (l ∷ ls) = ap (λ v. v ∷ map S (keys ls)) (sub_key l) ∙ ap (λ vs. value_of l ∷ vs) (sub_each ls)

  pub sub_keys : (ks : List Key) → S (list (keys ks)) ≡ list (keys ks)
  sub_keys ks = sub_list (keys ks) ∙ ap list (sub_each ks)

  pub sub_call : (n : ℕ) (vs : List Value) → S (call n vs) ≡ call n (map S vs)
  sub_call n vs = ap S (value.rolls-Call n vs) ∙ substituted-Call rs n vs ∙ sym (value.rolls-Call n (map S vs))

  -- ---- numbers of references

  number_is : (d : Value-F Value) (v : Value) → roll-Value d ≡ v → number_of v ≡ number_at d
  number_is d v e = ap number_of (sym e) ∙ ap number_at (out-roll-Value d)

  number_named : (n : ℕ) (o : Option Value) → number_of (named n o) ≡ Some n
  number_named n None = number_is (Value-F.Var n) _ (value.rolls-Var n)
  number_named n (Some v) = number_is (Value-F.Ref n v) _ (value.rolls-Ref n v)

  number_level : (d : Value-F Value) → number_of (S (roll-Value d)) ≡ number_at d
  number_level (Value-F.Int n) = ap number_of (sub_int n) ∙ number_is (Value-F.Int n) _ refl
  number_level (Value-F.Bool b) = ap number_of (sub_bool b) ∙ number_is (Value-F.Bool b) _ refl
  number_level (Value-F.Text t) = ap number_of (sub_text t) ∙ number_is (Value-F.Text t) _ refl
  number_level (Value-F.Tuple vs) = ap number_of (sub_tuple vs) ∙ number_is (Value-F.Tuple (map S vs)) _ refl
  number_level (Value-F.List vs) = ap number_of (sub_list vs) ∙ number_is (Value-F.List (map S vs)) _ refl
  number_level (Value-F.Map ks vs) =
      ap number_of (sub_map ks vs) ∙ number_is (Value-F.Map ks (map S vs)) _ refl
  number_level (Value-F.Var n) = ap (λ v. number_of (S v)) (value.rolls-Var n) ∙ ap number_of (substituted-Var rs n) ∙ number_named n (known rs n)
  number_level (Value-F.Ref n v) = ap (λ v. number_of (S v)) (value.rolls-Ref n v) ∙ ap number_of (substituted-Ref rs n v) ∙ number_is (Value-F.Ref n (S v)) _ (value.rolls-Ref n (S v))
  number_level (Value-F.Call n vs) = ap number_of (sub_call n vs) ∙ number_is (Value-F.Call n (map S vs)) _ refl

  -- a reference keeps its number
  pub number_kept : (v : Value) → number_of (S v) ≡ number_of v
  number_kept v = ap (λ w. number_of (S w)) (sym (roll-out-Value v)) ∙ number_level (out-Value v)

-- ---- types without references

ref_in : Ty-F Ty → Bool
ref_in x = holds_ref_at (map-Ty Ty Bool holds_ref_or_call x)

holds_ref_or_call-out : (t : Ty) → holds_ref_or_call t ≡ ref_in (out-Ty t)
unfolding holds_ref_or_call ref_in
holds_ref_or_call-out t = ap holds_ref_or_call (sym (roll-out-Ty t)) ∙ fold-roll-Ty Bool holds_ref_at (out-Ty t)

or_none : (a b : Bool) → (a || b) ≡ false → (a ≡ false) × (b ≡ false)
or_none true b h = absurd (cc)
or_none false b h = (refl, h)

module _ (rs : List (Option Value)) (free vars : List Ty) (ops : List (List Ty)) where
  abbrev test : Value → Ty → Bool
  test = fits free vars ops

  -- a value of a type without references stays
  abbrev Stays : Value → Type 0
  Stays v = (t : Ty) → test v t ≡ true → holds_ref_or_call t ≡ false → substituted rs v ≡ v

  each_stays : (xs : List Value) (ts : List Ty) → AllByRecursion Stays xs → fit_each (map test xs) ts ≡ true → list_any (λ held. held) (map holds_ref_or_call ts) ≡ false → map (substituted rs) xs ≡ xs
  each_stays [] ts h e r = refl
  each_stays (x ∷ xs) [] h e r = absurd (cc)
  each_stays (x ∷ xs) (t ∷ ts) h e r =
      let p = both (test x t) _ e in
      let q = or_none (holds_ref_or_call t) _ r in
      let first : substituted rs x ≡ x = h.0 t p.0 q.0 in
      let rest : map (substituted rs) xs ≡ xs = each_stays xs ts h.1 p.1 q.1 in
      cc

  all_stay : (xs : List Value) (t : Ty) → AllByRecursion Stays xs → list_all (λ f. f t) (map test xs) ≡ true → holds_ref_or_call t ≡ false → map (substituted rs) xs ≡ xs
  all_stay [] t h e r = refl
  all_stay (x ∷ xs) t h e r =
      let p = both (test x t) _ e in
      let first : substituted rs x ≡ x = h.0 t p.0 r in
      let rest : map (substituted rs) xs ≡ xs = all_stay xs t h.1 p.1 r in
      cc

  tuple_stays : (xs : List Value) → AllByRecursion Stays xs → (x : Ty-F Ty) → fits_level free vars ops (Value-F.Tuple (map test xs)) x ≡ true → ref_in x ≡ false → map (substituted rs) xs ≡ xs
  unfolding ref_in
  tuple_stays xs h (Ty-F.Tuple ts) e r = each_stays xs ts h e r
  tuple_stays xs h Ty-F.Int e r = absurd (cc)
  tuple_stays xs h Ty-F.Bool e r = absurd (cc)
  tuple_stays xs h Ty-F.Text e r = absurd (cc)
  tuple_stays xs h (Ty-F.List t) e r = absurd (cc)
  tuple_stays xs h (Ty-F.Map k t) e r = absurd (cc)
  tuple_stays xs h (Ty-F.Ref t) e r = absurd (cc)
  tuple_stays xs h Ty-F.Call e r = absurd (cc)

  list_stays : (xs : List Value) → AllByRecursion Stays xs → (x : Ty-F Ty) → fits_level free vars ops (Value-F.List (map test xs)) x ≡ true → ref_in x ≡ false → map (substituted rs) xs ≡ xs
  unfolding ref_in
  list_stays xs h (Ty-F.List t) e r = all_stay xs t h (both (nat_le (length (map test xs)) limit) _ e).1 r
  list_stays xs h Ty-F.Int e r = absurd (cc)
  list_stays xs h Ty-F.Bool e r = absurd (cc)
  list_stays xs h Ty-F.Text e r = absurd (cc)
  list_stays xs h (Ty-F.Tuple ts) e r = absurd (cc)
  list_stays xs h (Ty-F.Map k t) e r = absurd (cc)
  list_stays xs h (Ty-F.Ref t) e r = absurd (cc)
  list_stays xs h Ty-F.Call e r = absurd (cc)

  map_stays : (ks : List Key) (xs : List Value) → AllByRecursion Stays xs → (x : Ty-F Ty)
      → fits_level free vars ops (Value-F.Map ks (map test xs)) x ≡ true → ref_in x ≡ false
      → map (substituted rs) xs ≡ xs
  unfolding ref_in
  map_stays ks xs h (Ty-F.Map k t) e r = all_stay xs t h (both (are_keys k (length (map test xs)) ks) _ e).1 r
  map_stays ks xs h Ty-F.Int e r = absurd (cc)
  map_stays ks xs h Ty-F.Bool e r = absurd (cc)
  map_stays ks xs h Ty-F.Text e r = absurd (cc)
  map_stays ks xs h (Ty-F.Tuple ts) e r = absurd (cc)
  map_stays ks xs h (Ty-F.List t) e r = absurd (cc)
  map_stays ks xs h (Ty-F.Ref t) e r = absurd (cc)
  map_stays ks xs h Ty-F.Call e r = absurd (cc)

  var_never : (n : ℕ) (x : Ty-F Ty) → fits_level free vars ops (Value-F.Var n) x ≡ true → ref_in x ≡ false → ⊥
  unfolding ref_in
  var_never n (Ty-F.Ref t) e r = cc
  var_never n Ty-F.Int e r = cc
  var_never n Ty-F.Bool e r = cc
  var_never n Ty-F.Text e r = cc
  var_never n (Ty-F.Tuple ts) e r = cc
  var_never n (Ty-F.List t) e r = cc
  var_never n (Ty-F.Map k t) e r = cc
  var_never n Ty-F.Call e r = cc

  ref_never : (n : ℕ) (v : Value) (x : Ty-F Ty) → fits_level free vars ops (Value-F.Ref n (test v)) x ≡ true → ref_in x ≡ false → ⊥
  unfolding ref_in
  ref_never n v (Ty-F.Ref t) e r = cc
  ref_never n v Ty-F.Int e r = cc
  ref_never n v Ty-F.Bool e r = cc
  ref_never n v Ty-F.Text e r = cc
  ref_never n v (Ty-F.Tuple ts) e r = cc
  ref_never n v (Ty-F.List t) e r = cc
  ref_never n v (Ty-F.Map k t) e r = cc
  ref_never n v Ty-F.Call e r = cc

  call_never : (n : ℕ) (xs : List Value) (x : Ty-F Ty) → fits_level free vars ops (Value-F.Call n (map test xs)) x ≡ true → ref_in x ≡ false → ⊥
  unfolding ref_in
  call_never n xs Ty-F.Call e r = cc
  call_never n xs Ty-F.Int e r = cc
  call_never n xs Ty-F.Bool e r = cc
  call_never n xs Ty-F.Text e r = cc
  call_never n xs (Ty-F.Tuple ts) e r = cc
  call_never n xs (Ty-F.List t) e r = cc
  call_never n xs (Ty-F.Map k t) e r = cc
  call_never n xs (Ty-F.Ref t) e r = cc

  pub stays : (v : Value) → Stays v
  stays = value_induction Stays (record {
    int = λ n t e r. substituted-Int rs n;
    truth = λ b t e r. substituted-Truth rs b;
    text = λ s t e r. substituted-Text rs s;
    tuple = λ xs h t e r. substituted-Tuple rs xs ∙ ap Tuple (tuple_stays xs h (out-Ty t) (sym (fits-Tuple free vars ops xs t) ∙ e) (sym (holds_ref_or_call-out t) ∙ r));
    items = λ xs h t e r. substituted-ListOf rs xs ∙ ap ListOf (list_stays xs h (out-Ty t) (sym (fits-ListOf free vars ops xs t) ∙ e) (sym (holds_ref_or_call-out t) ∙ r));
    maps = λ ks xs h t e r.
        substituted-MapOf rs ks xs
        ∙ ap (MapOf ks)
        (map_stays ks xs h (out-Ty t) (sym (fits-MapOf free vars ops ks xs t) ∙ e)
        (sym (holds_ref_or_call-out t) ∙ r));
    var = λ n t e r. absurd (var_never n (out-Ty t) (sym (fits-Var free vars ops n t) ∙ e) (sym (holds_ref_or_call-out t) ∙ r));
    ref = λ n v h t e r. absurd (ref_never n v (out-Ty t) (sym (fits-Ref free vars ops n v t) ∙ e) (sym (holds_ref_or_call-out t) ∙ r));
    call = λ n xs h t e r. absurd (call_never n xs (out-Ty t) (sym (fits-Call free vars ops n xs t) ∙ e) (sym (holds_ref_or_call-out t) ∙ r));
  })
