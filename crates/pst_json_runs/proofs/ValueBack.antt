-- A value that fits a type is read back from its JSON.
use Rattle.std.proofs.Common.{◌≡◌, ℕ, ◌<◌, ◌^◌, ℤ, pos, Bool, true, false, ◌&&◌, ◌==◌, eqb-true, eq-eqb, nat_le, nat_lt, nat_eq, List, [], ◌∷◌, ◌++◌, map, length, Option, Some, None, option_map, option_and_then, refl, sym, ap, ◌∙◌, arith, append_assoc, append-nil}
use Rattle.std.specs.Prelude.{codes, decimal, if◌then◌else◌}
use Rattle.std.specs.Fmt.{signed_decimal}
use Rattle.std.specs.List.{AllByRecursion, list_any, list_all}
use Rattle.std.proofs.lemmas.Bool.{lt-ltb}
use Rattle.std.proofs.lemmas.List.{length-map, length-append}
use Rattle.json.specs.Json.{Json, number, object, Items, Members, no_members, member}
use Rattle.json.specs.Value.{items_of}
use Rattle.pst_case.proofs.Variables.{reference-Tuple, reference-ListOf, reference-MapOf, reference-Ref}
use Rattle.pst_case.specs.Shape.{holds_reference}
use Rattle.pst_json_runs.proofs.Rising.{AreBefore, one_more, put_end}
use Rattle.pst_json_runs.proofs.ValueLevels.{json-Int, json-Truth, json-Text, json-Tuple, json-ListOf, json-MapOf, json-Var}
use Rattle.pst_json_runs.specs.Reading.{int_or, key_in, put, count, size, tuple_level, tuple_or_list, or_none, item_level, map_level, reference_level, variable_of, reference_in, value_in, values_in, map_in}
use Rattle.pst_json_runs.specs.Writing.{key_name, members_of, variable_json, json_of}
use Rattle.pst_model.specs.Kinds.{holds_call, holds_call_at}
use Rattle.pst_runs.proofs.LevelOf.{call_of, neither, true_is_no_false}
use Rattle.pst_sexpr.proofs.Numbers.{both_hold, integer_of-signed_decimal}
use Rattle.pst_value.proofs.Forms.{value_induction}
use Rattle.pst_value.proofs.Typing.{fits-Int, fits-Tuple, fits-ListOf, fits-MapOf, fits-Var, fits-Call}
use Rattle.pst_value.specs.Fits.{fits, fits_level, fit_each, is_ty}
use Rattle.pst_value.specs.Keys.{are_keys, is_key, is_first, rising, most}
use Rattle.pst_value.specs.Subst.{numbered}
use Rattle.pst_value.specs.Text.{is_i64, limit}
use Rattle.pst_value.specs.declared.key.Key.{Key}
use Rattle.pst_value.specs.declared.key.Key.TheVariants as key
use Rattle.pst_value.specs.declared.key.KeyTy.{KeyTy}
use Rattle.pst_value.specs.declared.key.KeyTy.TheVariants as kind
use Rattle.pst_value.specs.declared.ty.Ty.TheOpen.{Ty-F}
use Rattle.pst_value.specs.declared.ty.Ty.{Ty, out-Ty, map-Ty}
use Rattle.pst_value.specs.declared.value.Value.TheOpen.{Value-F}
use Rattle.pst_value.specs.declared.value.Value.{Value, Int, Tuple, List as ListOf, Map as MapOf, Var}

pub count_of : (js : List Json) → count (items_of js) ≡ length js
count_of [] = refl
count_of (j ∷ js) = let e = count_of js in omega arith

size_of : (ks : List Key) (js : List Json) → length ks ≡ length js → size (members_of ks js) ≡ length ks
size_of [] [] h = refl
size_of [] (j ∷ js) h = absurd (omega arith)
size_of (k ∷ ks) [] h = absurd (omega arith)
size_of (k ∷ ks) (j ∷ js) h = let e = size_of ks js (omega arith) in omega arith

key_back : (t : KeyTy) (k : Key) → is_key t k ≡ true → key_in t (key_name k) ≡ k
key_back kind.Int (key.Int n) e = ap (λ o. int_or o (signed_decimal n)) (integer_of-signed_decimal n e)
key_back kind.Int (key.Bool b) e = absurd (cc)
key_back kind.Int (key.Text bytes) e = absurd (cc)
key_back kind.Bool (key.Int n) e = absurd (cc)
key_back kind.Bool (key.Bool true) e = refl
key_back kind.Bool (key.Bool false) e = refl
key_back kind.Bool (key.Text bytes) e = absurd (cc)
key_back kind.Text (key.Int n) e = absurd (cc)
key_back kind.Text (key.Bool b) e = absurd (cc)
key_back kind.Text (key.Text bytes) e = refl

none_before : (ks : List Key) → AreBefore [] ks
none_before [] = tt
none_before (k ∷ ks) = tt

fit_length : (fs : List (Ty → Bool)) (ts : List Ty) → fit_each fs ts ≡ true → length ts ≡ length fs
fit_length [] [] e = refl
fit_length [] (t ∷ ts) e = absurd (cc)
fit_length (f ∷ fs) [] e = absurd (cc)
fit_length (f ∷ fs) (t ∷ ts) e = let p = both_hold (f t) (fit_each fs ts) e in let n = fit_length fs ts p.1 in omega arith

small : (n : ℕ) → n < 10000 → is_i64 (pos n) ≡ true
small n h = lt-ltb n (2 ^ 63) (omega arith)

variable_back : (n : ℕ) → n < 10000 → reference_in (variable_json n) ≡ Some (Var n)
variable_back n h =
    let e : nat_lt n 10000 ≡ true = lt-ltb n 10000 h in
    ap (option_and_then variable_of) (integer_of-signed_decimal (pos n) (small n h)) ∙ ap (λ b. if b then Some (Var n) else None) e

module _ (free vars : List Ty) (ops : List (List Ty)) (open_variables : (n : ℕ) (t : Ty) → is_ty (numbered free n) t ≡ true → n < 10000) where
  -- what is shown by induction
  abbrev pub Back : Value → Type 0
  Back v = (t : Ty) → holds_call t ≡ false → holds_reference v ≡ false → fits free vars ops v t ≡ true → value_in (Some t) (json_of v) ≡ Some v

  abbrev Callless : Ty-F Ty → Type 0
  Callless x = holds_call_at (map-Ty Ty Bool holds_call x) ≡ false

  int_fits : (n : ℤ) (x : Ty-F Ty) → fits_level free vars ops (Value-F.Int n) x ≡ true → is_i64 n ≡ true
  int_fits n Ty-F.Int e = e
  int_fits n _ e = absurd (cc)

  -- ---- the parts of tuples and lists

  pub tuple_back : (vs : List Value) (ts : List Ty) → AllByRecursion Back vs → list_any (λ held. held) (map holds_call ts) ≡ false
      → list_any holds_reference vs ≡ false → fit_each (map (fits free vars ops) vs) ts ≡ true → values_in ts None (items_of (map json_of vs)) ≡ Some vs
  tuple_back [] ts back c r e = refl
  tuple_back (v ∷ vs) [] back c r e = absurd (cc)
  tuple_back (v ∷ vs) (t ∷ ts) back c r e =
      let p = neither (holds_call t) (list_any (λ held. held) (map holds_call ts)) c in
      let q = neither (holds_reference v) (list_any holds_reference vs) r in
      let f = both_hold (fits free vars ops v t) (fit_each (map (fits free vars ops) vs) ts) e in
      ap (option_and_then (λ v. option_map (λ vs. v ∷ vs) (values_in ts None (items_of (map json_of vs))))) (back.0 t p.0 q.0 f.0)
      ∙ ap (option_map (λ vs. v ∷ vs)) (tuple_back vs ts back.1 p.1 q.1 f.1)

  list_back : (vs : List Value) (t : Ty) → AllByRecursion Back vs → holds_call t ≡ false
      → list_any holds_reference vs ≡ false → list_all (λ f. f t) (map (fits free vars ops) vs) ≡ true → values_in [] (Some t) (items_of (map json_of vs)) ≡ Some vs
  list_back [] t back c r e = refl
  list_back (v ∷ vs) t back c r e =
      let q = neither (holds_reference v) (list_any holds_reference vs) r in
      let f = both_hold (fits free vars ops v t) (list_all (λ f. f t) (map (fits free vars ops) vs)) e in
      ap (option_and_then (λ v. option_map (λ vs. v ∷ vs) (values_in [] (Some t) (items_of (map json_of vs))))) (back.0 t c q.0 f.0)
      ∙ ap (option_map (λ vs. v ∷ vs)) (list_back vs t back.1 c q.1 f.1)

  -- ---- maps

  map_back : (k : KeyTy) (t : Ty) (ls : List Key) (ws : List Value) (ks : List Key) (vs : List Value) → length ls ≡ length ws → AreBefore ls ks → rising ks ≡ true
      → list_all (is_key k) ks ≡ true → length ks ≡ length vs → AllByRecursion Back vs → holds_call t ≡ false
      → list_any holds_reference vs ≡ false → list_all (λ f. f t) (map (fits free vars ops) vs) ≡ true
      → map_in k (Some t) ls ws (members_of ks (map json_of vs)) ≡ Some (MapOf (ls ++ ks) (ws ++ vs))
  map_back k t ls ws [] [] same before up keys many back c r e =
      ap (λ ys. Some (MapOf ys ws)) (sym (append-nil ls)) ∙ ap (λ bs. Some (MapOf (ls ++ []) bs)) (sym (append-nil ws))
  map_back k t ls ws [] (v ∷ vs) same before up keys many back c r e = absurd (omega arith)
  map_back k t ls ws (l ∷ ks) [] same before up keys many back c r e = absurd (omega arith)
  map_back k t ls ws (l ∷ ks) (v ∷ vs) same before up keys many back c r e =
      let q = neither (holds_reference v) (list_any holds_reference vs) r in
      let f = both_hold (fits free vars ops v t) (list_all (λ f. f t) (map (fits free vars ops) vs)) e in
      let u = both_hold (is_first l ks) (rising ks) up in
      let y = both_hold (is_key k l) (list_all (is_key k) ks) keys in
      let rest = members_of ks (map json_of vs) in
      let named = key_in k (key_name l) in
      let n : length (ls ++ l ∷ []) ≡ length (ws ++ v ∷ []) = omega (arith, length-append ls (l ∷ []), length-append ws (v ∷ [])) in
      ap (option_and_then (λ v. map_in k (Some t) (put ls named ls named) (put ls named ws v) rest)) (back.0 t c q.0 f.0)
      ∙ ap (λ m. map_in k (Some t) (put ls m ls m) (put ls m ws v) rest) (key_back k l y.0)
      ∙ ap (λ ys. map_in k (Some t) ys (put ls l ws v) rest) (put_end ls l ls l before refl)
      ∙ ap (λ bs. map_in k (Some t) (ls ++ l ∷ []) bs rest) (put_end ls l ws v before same)
      ∙ map_back k t (ls ++ l ∷ []) (ws ++ v ∷ []) ks vs n (one_more ls l ks before u.0) u.1 y.1 (omega arith) back.1 c q.1 f.1
      ∙ ap (λ ys. Some (MapOf ys ((ws ++ v ∷ []) ++ vs))) (append_assoc ls (l ∷ []) ks)
      ∙ ap (λ bs. Some (MapOf (ls ++ l ∷ ks) bs)) (append_assoc ws (v ∷ []) vs)

  -- ---- one level

  -- what the JSON of an array, an object and a variable is where one level of the type is known
  abbrev array_in : Ty-F Ty → Items → Option Value
  array_in x js = option_map (tuple_or_list (tuple_level x (count js))) (values_in (or_none (tuple_level x (count js))) (item_level x) js)

  abbrev object_in : Ty-F Ty → Members → Option Value
  object_in x ms =
      if reference_level x then reference_in (object ms)
      else if nat_le (size ms) most then map_in (map_level x).0 (map_level x).1 [] [] ms else None

  tuple_at : (vs : List Value) (x : Ty-F Ty) → AllByRecursion Back vs → Callless x → list_any holds_reference vs ≡ false
      → fits_level free vars ops (Value-F.Tuple (map (fits free vars ops) vs)) x ≡ true → array_in x (items_of (map json_of vs)) ≡ Some (Tuple vs)
  tuple_at vs (Ty-F.Tuple ts) back c r e =
      let js = items_of (map json_of vs) in
      let n : length ts ≡ count js = fit_length (map (fits free vars ops) vs) ts e ∙ length-map vs (fits free vars ops) ∙ sym (length-map vs json_of) ∙ sym (count_of (map json_of vs)) in
      let same : nat_eq (length ts) (count js) ≡ true = eq-eqb (length ts) (count js) n in
      ap (λ b. option_map (tuple_or_list (if b then Some ts else None)) (values_in (or_none (if b then Some ts else None)) None js)) same
      ∙ ap (option_map (tuple_or_list (Some ts))) (tuple_back vs ts back c r e)
  tuple_at vs _ back c r e = absurd (cc)

  list_at : (vs : List Value) (x : Ty-F Ty) → AllByRecursion Back vs → Callless x → list_any holds_reference vs ≡ false
      → fits_level free vars ops (Value-F.List (map (fits free vars ops) vs)) x ≡ true → array_in x (items_of (map json_of vs)) ≡ Some (ListOf vs)
  list_at vs (Ty-F.List t) back c r e =
      let f = both_hold (nat_le (length (map (fits free vars ops) vs)) limit) (list_all (λ f. f t) (map (fits free vars ops) vs)) e in
      ap (option_map (tuple_or_list None)) (list_back vs t back c r f.1)
  list_at vs _ back c r e = absurd (cc)

  map_at : (ks : List Key) (vs : List Value) (x : Ty-F Ty) → AllByRecursion Back vs → Callless x → list_any holds_reference vs ≡ false
      → fits_level free vars ops (Value-F.Map ks (map (fits free vars ops) vs)) x ≡ true → object_in x (members_of ks (map json_of vs)) ≡ Some (MapOf ks vs)
  map_at ks vs (Ty-F.Map k t) back c r e =
      let f = both_hold (are_keys k (length (map (fits free vars ops) vs)) ks) (list_all (λ f. f t) (map (fits free vars ops) vs)) e in
      let p = both_hold _ (list_all (is_key k) ks && rising ks) f.0 in
      let q = both_hold (list_all (is_key k) ks) (rising ks) p.1 in
      let many = both_hold (nat_le (length ks) most) (length ks == length (map (fits free vars ops) vs)) p.0 in
      let same : length ks ≡ length vs = eqb-true _ _ many.1 ∙ length-map vs (fits free vars ops) in
      let sized : size (members_of ks (map json_of vs)) ≡ length ks = size_of ks (map json_of vs) (same ∙ sym (length-map vs json_of)) in
      let few : nat_le (size (members_of ks (map json_of vs))) most ≡ true = ap (λ n. nat_le n most) sized ∙ many.0 in
      ap (λ b. if b then map_in k (Some t) [] [] (members_of ks (map json_of vs)) else None) few
      ∙ map_back k t [] [] ks vs refl (none_before ks) q.1 q.0 same back c r f.1
  map_at ks vs _ back c r e = absurd (cc)

  var_at : (n : ℕ) (x : Ty-F Ty) → fits_level free vars ops (Value-F.Var n) x ≡ true → object_in x (member (codes "result") (number (decimal n)) no_members) ≡ Some (Var n)
  var_at n (Ty-F.Ref t) e = variable_back n (open_variables n t e)
  var_at n _ e = absurd (cc)

  call_at : (op : ℕ) (vs : List Value) (x : Ty-F Ty) → Callless x → fits_level free vars ops (Value-F.Call op (map (fits free vars ops) vs)) x ≡ true → ⊥
  call_at op vs Ty-F.Call c e = absurd (cc)
  call_at op vs _ c e = absurd (cc)

  callless : (t : Ty) → holds_call t ≡ false → Callless (out-Ty t)
  callless t c = sym (call_of t) ∙ c

  pub value_back : (v : Value) → Back v
  value_back = value_induction Back (record {
    int = λ n t c r e. ap (value_in (Some t)) (json-Int n) ∙ ap (option_map Int) (integer_of-signed_decimal n (int_fits n (out-Ty t) (sym (fits-Int free vars ops n t) ∙ e)));
    truth = λ b t c r e. ap (value_in (Some t)) (json-Truth b);
    text = λ bs t c r e. ap (value_in (Some t)) (json-Text bs);
    tuple = λ vs back t c r e. ap (value_in (Some t)) (json-Tuple vs) ∙ tuple_at vs (out-Ty t) back (callless t c) (sym (reference-Tuple vs) ∙ r) (sym (fits-Tuple free vars ops vs t) ∙ e);
    items = λ vs back t c r e. ap (value_in (Some t)) (json-ListOf vs) ∙ list_at vs (out-Ty t) back (callless t c) (sym (reference-ListOf vs) ∙ r) (sym (fits-ListOf free vars ops vs t) ∙ e);
    maps = λ ks vs back t c r e. ap (value_in (Some t)) (json-MapOf ks vs) ∙ map_at ks vs (out-Ty t) back (callless t c) (sym (reference-MapOf ks vs) ∙ r) (sym (fits-MapOf free vars ops ks vs t) ∙ e);
    var = λ n t c r e. ap (value_in (Some t)) (json-Var n) ∙ var_at n (out-Ty t) (sym (fits-Var free vars ops n t) ∙ e);
    ref = λ n v back t c r e. absurd (true_is_no_false (sym (reference-Ref n v) ∙ r));
    call = λ op vs back t c r e. absurd (call_at op vs (out-Ty t) (callless t c) (sym (fits-Call free vars ops op vs t) ∙ e));
  })

  all_back : (vs : List Value) → AllByRecursion Back vs
  all_back [] = tt
  all_back (v ∷ vs) = (value_back v, all_back vs)
