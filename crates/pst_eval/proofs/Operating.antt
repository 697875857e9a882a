-- An operator on operands of its types gives a value of its type, or a fault.
use Rattle.std.proofs.Common.{◌≡◌, ◌==◌, ◌≤◌, ◌+◌, ◌+ℤ◌, ◌-ℤ◌, ◌*ℤ◌, int_div, int_rem, int_lt, unsigned_abs, ℕ, zero, suc, ℤ, pos, negsuc, Bool, true, false, not, List, [], ◌∷◌, ◌++◌, length, Option, Some, None, refl, sym, ap, ◌∙◌, subst, inl, inr, arith, rules, slice_get}
use Rattle.std.proofs.lemmas.Bool.{cases_Bool, and_from}
use Rattle.std.proofs.lemmas.Bool.Decides.{nat_tests}
use Rattle.std.proofs.lemmas.Int.{ints, rem_below, fits_signed_from_abs}
use Rattle.std.proofs.lemmas.List.{length-append}
use Rattle.std.specs.Prelude.{nat_lt, nat_le, ◌<ℤ◌}
use Rattle.std.specs.List.{list_all}
use Rattle.std.specs.Ordering.{int_eq}
use Rattle.std.specs.Int.RustNames.{FitsSigned}
use Rattle.std.specs.Int.{w64}
use Rattle.pst_model.specs.declared.expr.Binary.{Binary}
use Rattle.pst_model.specs.declared.expr.Binary.TheVariants.{Add, Sub, Mul, Div, Rem, Less, LessEqual, Equal, Same, Append, Nth, Range, Get, Has, Del}
use Rattle.pst_model.specs.declared.expr.Unary.{Unary}
use Rattle.pst_model.specs.declared.expr.Unary.TheVariants.{Deref}
use Rattle.pst_operators.specs.Maps.{beside, with_key, get, has, put_key, put}
use Rattle.pst_operators.specs.Operators.{int, integer, truth_of, truth_at, items_of, items_at, unary, binary, binary_at, divided, joined_texts, joined_lists, nth, range, append}
use Rattle.pst_operators.specs.Outcome.{Outcome, Gives, Faults, Stuck, and_then, or_fault, turn}
use Rattle.pst_model.specs.Rules.{OperatesOnOne, operates_not, operates_len_text, operates_len_list, operates_deref, operates_keys, OperatesOnTwo, operates_arithmetic, operates_order_int, operates_order_text, operates_equal, operates_same, operates_append_text, operates_append_list, operates_nth, operates_get, operates_has, operates_del, operates_range, key_type, is_arithmetic, is_order}
use Rattle.pst_value.specs.Equality.{same_value}
use Rattle.pst_value.specs.Fits.{fits}
use Rattle.pst_value.specs.Keys.{is_key, most}
use Rattle.pst_value.specs.Text.{is_i64, is_text, is_printable, limit, text_less}
use Rattle.pst_value.specs.declared.fault.Fault.TheVariants.{Index, Missing}
use Rattle.pst_value.specs.declared.key.Key.{Key}
use Rattle.pst_value.specs.declared.key.KeyTy.{KeyTy}
use Rattle.pst_value.specs.declared.ty.Ty.{Ty}
use Rattle.pst_value.specs.declared.ty.Ty.TheVariants as ty
use Rattle.pst_value.specs.declared.value.Value.{Value, out-Value, out-roll-Value}
use Rattle.pst_value.specs.declared.value.Value.TheOpen.{Value-F}
use Rattle.pst_eval.proofs.Counting.{fits_from, fits_to, length_count_up, each_count_up}
use Rattle.pst_eval.proofs.Fitting.{both, Fit, EachFits, Built, each_from, fit_int, fit_bool, fit_text, fit_list, each_get, built_append, built_joined}
use Rattle.pst_eval.proofs.Forms.{bool_form, int_form, text_form, list_form, key_form, ref_form, known_form}
use Rattle.pst_eval.proofs.Maps.{AreOf, map_parts, fit_keys, fit_beside, fit_with, fit_without, keys_seen, get_seen, has_seen, del_seen, put_seen}

-- a value with the property, or a fault
abbrev pub By : {A : Type 0} → (A → Type 0) → Outcome (A × ℕ) → Type 0
By P (Gives r) = P r.0
By P (Faults why) = Unit {0}
By P Stuck = ⊥

pub by_then : {A B : Type 0} (P : A → Type 0) (Q : B → Type 0) (o : Outcome (A × ℕ)) (f : A × ℕ → Outcome (B × ℕ)) → By P o → ((a : A) (t : ℕ) → P a → By Q (f (a, t))) → By Q (and_then o f)
by_then P Q (Gives r) f h k = k r.0 r.1 h
by_then P Q (Faults why) f h k = tt
by_then P Q Stuck f h k = h

pub by_path : {A : Type 0} (P : A → Type 0) (o p : Outcome (A × ℕ)) → o ≡ p → By P p → By P o
by_path P o p e h = let C : Outcome _ → Type 0 = λ q. By P q in subst C (sym e) h

pub turn_by : (t : ℕ) → By (λ u. Unit {0}) (turn t)
turn_by zero = tt
turn_by (suc n) = tt

abbrev pub Lifted : Outcome Value → ℕ → Outcome (Value × ℕ)
Lifted o t = and_then o (λ a. Gives (a, t))

remainder_fits : (m n : ℤ) → is_i64 n ≡ true → int_eq n (pos 0) ≡ false → is_i64 (int_rem m n) ≡ true
remainder_fits m n h z = fits_from (int_rem m n) (bound m n (fits_to n h) z)
  where
    bound : (m n : ℤ) → FitsSigned w64 n → int_eq n (pos 0) ≡ false → FitsSigned w64 (int_rem m n)
    bound m (pos zero) h z = absurd (cc)
    bound m (pos (suc k)) h z = let below = rem_below m (pos (suc k)) (omega arith) in fits_signed_from_abs w64 _ (omega (arith, ints, h, below))
    bound m (negsuc k) h z = let below = rem_below m (negsuc k) (omega arith) in fits_signed_from_abs w64 _ (omega (arith, ints, h, below))

printable_joined : (s t : List ℕ) → list_all is_printable s ≡ true → list_all is_printable t ≡ true → list_all is_printable (s ++ t) ≡ true
printable_joined [] t h k = k
printable_joined (b ∷ s) t h k = let p = both _ _ h in and_from _ _ p.0 (printable_joined s t p.1 k)

-- `binary` looks into both operands, but for `=` and `same`
looks_arithmetic : (op : Binary) (v w : Value) → is_arithmetic op ≡ true → binary op v w ≡ binary_at op (out-Value v) (out-Value w)
looks_arithmetic Add v w h = refl
looks_arithmetic Sub v w h = refl
looks_arithmetic Mul v w h = refl
looks_arithmetic Div v w h = refl
looks_arithmetic Rem v w h = refl
looks_arithmetic Less v w h = absurd (cc)
looks_arithmetic LessEqual v w h = absurd (cc)
looks_arithmetic Equal v w h = absurd (cc)
looks_arithmetic Same v w h = absurd (cc)
looks_arithmetic Append v w h = absurd (cc)
looks_arithmetic Nth v w h = absurd (cc)
looks_arithmetic Range v w h = absurd (cc)
looks_arithmetic Get v w h = absurd (cc)
looks_arithmetic Has v w h = absurd (cc)
looks_arithmetic Del v w h = absurd (cc)

looks_order : (op : Binary) (v w : Value) → is_order op ≡ true → binary op v w ≡ binary_at op (out-Value v) (out-Value w)
looks_order Add v w h = absurd (cc)
looks_order Sub v w h = absurd (cc)
looks_order Mul v w h = absurd (cc)
looks_order Div v w h = absurd (cc)
looks_order Rem v w h = absurd (cc)
looks_order Less v w h = refl
looks_order LessEqual v w h = refl
looks_order Equal v w h = absurd (cc)
looks_order Same v w h = absurd (cc)
looks_order Append v w h = absurd (cc)
looks_order Nth v w h = absurd (cc)
looks_order Range v w h = absurd (cc)
looks_order Get v w h = absurd (cc)
looks_order Has v w h = absurd (cc)
looks_order Del v w h = absurd (cc)

module _ (free vars : List Ty) (ops : List (List Ty)) where
  abbrev pub F1 : Value → Ty → Type 0
  F1 v T = Fit free vars ops v T

  integer_by : (n : ℤ) (t : ℕ) → By (λ v. F1 v ty.Int) (Lifted (integer n) t)
  integer_by n t = elim (cases_Bool (is_i64 n)) [ inl e ↦ rw e (fit_int free vars ops n e) | inr e ↦ rw e tt ]

  divided_by : (n : ℤ) (o : Outcome Value) (t : ℕ) → (int_eq n (pos 0) ≡ false → By (λ v. F1 v ty.Int) (Lifted o t)) → By (λ v. F1 v ty.Int) (Lifted (divided n o) t)
  divided_by n o t h = elim (cases_Bool (int_eq n (pos 0))) [ inl e ↦ rw e tt | inr e ↦ rw e (h e) ]

  nth_by : (vs : List Value) (n : ℤ) (T : Ty) (t : ℕ) → EachFits free vars ops vs T → By (λ v. F1 v T) (Lifted (nth vs n) t)
  nth_by vs (pos n) T t h = at (slice_get vs n) refl
    where
      at : (o : Option Value) → slice_get vs n ≡ o → By (λ v. F1 v T) (Lifted (or_fault Index (slice_get vs n)) t)
      at None e = rw e tt
      at (Some v) e = rw e (each_get free vars ops vs T n v h e)
  nth_by vs (negsuc n) T t h = tt

  range_by : (m n : ℤ) (t : ℕ) → is_i64 m ≡ true → is_i64 n ≡ true → By (λ v. F1 v (ty.List ty.Int)) (Lifted (range m n) t)
  range_by m n t hm hn = elim (cases_Bool (int_lt m n)) [
    | inl e ↦
        elim (cases_Bool (nat_lt limit (unsigned_abs (n -ℤ m)))) [
          | inl l ↦ rw (e, l) tt
          | inr l ↦ rw (e, l) (fit_list free vars ops _ ty.Int (record { within = ap (λ k. nat_le k limit) (length_count_up m _) ∙ small (unsigned_abs (n -ℤ m)) l; each = each_count_up free vars ops m n (unsigned_abs (n -ℤ m)) (fits_to m hm) (fits_to n hn) (less m n e) (le_refl (unsigned_abs (n -ℤ m))) }))
        ]
    | inr e ↦ rw e (fit_list free vars ops [] ty.Int (record { within = refl; each = tt }))
  ]
    where
      less : (m n : ℤ) → int_lt m n ≡ true → m <ℤ n
      less m n h = search (rules, nat_tests)

      le_refl : (n : ℕ) → n ≤ n
      le_refl n = omega arith

      small : (n : ℕ) → nat_lt 65536 n ≡ false → nat_le n 65536 ≡ true
      small n h = grind (arith, nat_tests)

  texts_by : (s r : List ℕ) (t : ℕ) → is_text s ≡ true → is_text r ≡ true → By (λ v. F1 v ty.Text) (Lifted (joined_texts s r) t)
  texts_by s r t hs hr = elim (cases_Bool (nat_le (length s + length r) limit)) [
    | inl e ↦ rw e (fit_text free vars ops (s ++ r) (and_from _ _ (ap (λ n. nat_le n limit) (length-append s r) ∙ e) (printable_joined s r (both _ _ hs).1 (both _ _ hr).1)))
    | inr e ↦ rw e tt
  ]

  lists_by : (vs ws : List Value) (T : Ty) (t : ℕ) → EachFits free vars ops vs T → EachFits free vars ops ws T → By (λ v. F1 v (ty.List T)) (Lifted (joined_lists vs ws) t)
  lists_by vs ws T t hv hw = elim (cases_Bool (nat_le (length vs + length ws) limit)) [
    | inl e ↦ rw e (fit_list free vars ops (vs ++ ws) T (built_joined free vars ops vs ws T e hv hw))
    | inr e ↦ rw e tt
  ]

  get_by : (ks : List Key) (vs : List Value) (l : Key) (T : Ty) (t : ℕ)
      → list_all (λ v. fits free vars ops v T) vs ≡ true → By (λ v. F1 v T) (Lifted (get ks vs l) t)
  get_by ks vs l T t h = at (beside ks vs l) refl
    where
      at : (o : Option Value) → beside ks vs l ≡ o
          → By (λ v. F1 v T) (Lifted (or_fault Missing (beside ks vs l)) t)
      at None e = rw e tt
      at (Some v) e = rw e (fit_beside free vars ops T ks vs l v h e)

  put_key-by : (k : KeyTy) (T : Ty) (ks : List Key) (vs : List Value) (l : Key) (v : Value) (t : ℕ)
      → AreOf free vars ops k T ks vs → is_key k l ≡ true → F1 v T
      → By (λ u. F1 u (ty.Map k T)) (Lifted (put_key ks vs v l) t)
  put_key-by k T ks vs l v t h i f = elim (cases_Bool (nat_le (length (with_key ks l)) most)) [
    | inl e ↦ rw e (fit_with free vars ops k T ks vs l v h i f e)
    | inr e ↦ rw e tt
  ]

  -- a map with a key and its value
  pub put_by : (k : KeyTy) (T : Ty) (m y v : Value) (t : ℕ) → F1 m (ty.Map k T) → F1 y (key_type k) → F1 v T
      → By (λ u. F1 u (ty.Map k T)) (Lifted (put m y v) t)
  put_by k T m y v t f g h =
      let p = map_parts free vars ops k T m f in
      let l = key_form free vars ops y k g in
      rw (p.2, l.1, put_seen p.0 p.1 l.0 v) (put_key-by k T p.0 p.1 l.0 v t p.3 l.2 h)

  arithmetic_by : (op : Binary) (m n : ℤ) (t : ℕ) → is_arithmetic op ≡ true → is_i64 n ≡ true → By (λ v. F1 v ty.Int) (Lifted (binary_at op (Value-F.Int m) (Value-F.Int n)) t)
  arithmetic_by Add m n t h hn = integer_by (m +ℤ n) t
  arithmetic_by Sub m n t h hn = integer_by (m -ℤ n) t
  arithmetic_by Mul m n t h hn = integer_by (m *ℤ n) t
  arithmetic_by Div m n t h hn = divided_by n (integer (int_div m n)) t (λ z. integer_by (int_div m n) t)
  arithmetic_by Rem m n t h hn = divided_by n (Gives (int (int_rem m n))) t (λ z. fit_int free vars ops (int_rem m n) (remainder_fits m n hn z))
  arithmetic_by Less m n t h hn = absurd (cc)
  arithmetic_by LessEqual m n t h hn = absurd (cc)
  arithmetic_by Equal m n t h hn = absurd (cc)
  arithmetic_by Same m n t h hn = absurd (cc)
  arithmetic_by Append m n t h hn = absurd (cc)
  arithmetic_by Nth m n t h hn = absurd (cc)
  arithmetic_by Range m n t h hn = absurd (cc)
  arithmetic_by Get m n t h hn = absurd (cc)
  arithmetic_by Has m n t h hn = absurd (cc)
  arithmetic_by Del m n t h hn = absurd (cc)

  order_int_by : (op : Binary) (m n : ℤ) (t : ℕ) → is_order op ≡ true → By (λ v. F1 v ty.Bool) (Lifted (binary_at op (Value-F.Int m) (Value-F.Int n)) t)
  order_int_by Less m n t h = fit_bool free vars ops (int_lt m n)
  order_int_by LessEqual m n t h = fit_bool free vars ops (not (int_lt n m))
  order_int_by Add m n t h = absurd (cc)
  order_int_by Sub m n t h = absurd (cc)
  order_int_by Mul m n t h = absurd (cc)
  order_int_by Div m n t h = absurd (cc)
  order_int_by Rem m n t h = absurd (cc)
  order_int_by Equal m n t h = absurd (cc)
  order_int_by Same m n t h = absurd (cc)
  order_int_by Append m n t h = absurd (cc)
  order_int_by Nth m n t h = absurd (cc)
  order_int_by Range m n t h = absurd (cc)
  order_int_by Get m n t h = absurd (cc)
  order_int_by Has m n t h = absurd (cc)
  order_int_by Del m n t h = absurd (cc)

  order_text_by : (op : Binary) (s r : List ℕ) (t : ℕ) → is_order op ≡ true → By (λ v. F1 v ty.Bool) (Lifted (binary_at op (Value-F.Text s) (Value-F.Text r)) t)
  order_text_by Less s r t h = fit_bool free vars ops (text_less s r)
  order_text_by LessEqual s r t h = fit_bool free vars ops (not (text_less r s))
  order_text_by Add s r t h = absurd (cc)
  order_text_by Sub s r t h = absurd (cc)
  order_text_by Mul s r t h = absurd (cc)
  order_text_by Div s r t h = absurd (cc)
  order_text_by Rem s r t h = absurd (cc)
  order_text_by Equal s r t h = absurd (cc)
  order_text_by Same s r t h = absurd (cc)
  order_text_by Append s r t h = absurd (cc)
  order_text_by Nth s r t h = absurd (cc)
  order_text_by Range s r t h = absurd (cc)
  order_text_by Get s r t h = absurd (cc)
  order_text_by Has s r t h = absurd (cc)
  order_text_by Del s r t h = absurd (cc)

  pub binary_by : (post : Bool) (op : Binary) (R S T : Ty) (v w : Value) (t : ℕ) → OperatesOnTwo post op R S T → F1 v R → F1 w S → By (λ u. F1 u T) (Lifted (binary op v w) t)
  binary_by post _ _ _ _ v w t (operates_arithmetic op h) f g =
      let m = int_form free vars ops v f in
      let n = int_form free vars ops w g in
      rw (looks_arithmetic op v w h, m.1, n.1, out-roll-Value (Value-F.Int m.0), out-roll-Value (Value-F.Int n.0)) (arithmetic_by op m.0 n.0 t h n.2)
  binary_by post _ _ _ _ v w t (operates_order_int op h) f g =
      let m = int_form free vars ops v f in
      let n = int_form free vars ops w g in
      rw (looks_order op v w h, m.1, n.1, out-roll-Value (Value-F.Int m.0), out-roll-Value (Value-F.Int n.0)) (order_int_by op m.0 n.0 t h)
  binary_by post _ _ _ _ v w t (operates_order_text op h) f g =
      let m = text_form free vars ops v f in
      let n = text_form free vars ops w g in
      rw (looks_order op v w h, m.1, n.1, out-roll-Value (Value-F.Text m.0), out-roll-Value (Value-F.Text n.0)) (order_text_by op m.0 n.0 t h)
  binary_by post _ _ _ _ v w t (operates_equal T r) f g = fit_bool free vars ops (same_value v w)
  binary_by post _ _ _ _ v w t (operates_same T) f g =
      let m = ref_form free vars ops v T f in
      let n = ref_form free vars ops w T g in
      rw (m.1, n.1) (fit_bool free vars ops (m.0 == n.0))
  binary_by post _ _ _ _ v w t operates_append_text f g =
      let m = text_form free vars ops v f in
      let n = text_form free vars ops w g in
      rw (m.1, n.1, out-roll-Value (Value-F.Text m.0), out-roll-Value (Value-F.Text n.0)) (texts_by m.0 n.0 t m.2 n.2)
  binary_by post _ _ _ _ v w t (operates_append_list T) f g =
      let m = list_form free vars ops v T f in
      let n = list_form free vars ops w T g in
      rw (m.1, n.1, out-roll-Value (Value-F.List m.0), out-roll-Value (Value-F.List n.0)) (lists_by m.0 n.0 T t (each_from free vars ops m.0 T (both _ _ m.2).1) (each_from free vars ops n.0 T (both _ _ n.2).1))
  binary_by post _ _ _ _ v w t (operates_nth T) f g =
      let m = list_form free vars ops v T f in
      let n = int_form free vars ops w g in
      rw (m.1, n.1, out-roll-Value (Value-F.List m.0), out-roll-Value (Value-F.Int n.0)) (nth_by m.0 n.0 T t (each_from free vars ops m.0 T (both _ _ m.2).1))
  binary_by post _ _ _ _ v w t (operates_get k T) f g =
      let m = map_parts free vars ops k T v f in
      let l = key_form free vars ops w k g in
      rw (m.2, l.1, get_seen m.0 m.1 l.0) (get_by m.0 m.1 l.0 T t m.3.each)
  binary_by post _ _ _ _ v w t (operates_has k T) f g =
      let m = map_parts free vars ops k T v f in
      let l = key_form free vars ops w k g in
      rw (m.2, l.1, has_seen m.0 m.1 l.0) (fit_bool free vars ops (has m.0 l.0))
  binary_by post _ _ _ _ v w t (operates_del k T) f g =
      let m = map_parts free vars ops k T v f in
      let l = key_form free vars ops w k g in
      rw (m.2, l.1, del_seen m.0 m.1 l.0) (fit_without free vars ops k T m.0 m.1 l.0 m.3)
  binary_by post _ _ _ _ v w t operates_range f g =
      let m = int_form free vars ops v f in
      let n = int_form free vars ops w g in
      rw (m.1, n.1, out-roll-Value (Value-F.Int m.0), out-roll-Value (Value-F.Int n.0)) (range_by m.0 n.0 t m.2 n.2)

  -- in mode post no variable stands open, so each reference has its value
  deref_by : (v : Value) (T : Ty) (t : ℕ) → free ≡ [] → F1 v (ty.Ref T) → By (λ u. F1 u T) (Lifted (unary Deref v) t)
  deref_by v T t none f =
      let P : List Ty → Type 0 = λ fs. fits fs vars ops v (ty.Ref T) ≡ true in
      let Q : List Ty → Type 0 = λ fs. By (λ u. fits fs vars ops u T ≡ true) (Lifted (unary Deref v) t) in
      let r = known_form vars ops v T (subst P none f) in
      subst Q (sym none) (rw (r.2, out-roll-Value (Value-F.Ref r.0 r.1)) r.3)

  pub unary_by : (post : Bool) (op : Unary) (S T : Ty) (v : Value) (t : ℕ) → (post ≡ true → free ≡ []) → OperatesOnOne post op S T → F1 v S → By (λ u. F1 u T) (Lifted (unary op v) t)
  unary_by post _ _ _ v t closed operates_not f =
      let m = bool_form free vars ops v f in
      rw (m.1, out-roll-Value (Value-F.Bool m.0)) (fit_bool free vars ops (not m.0))
  unary_by post _ _ _ v t closed operates_len_text f =
      let m = text_form free vars ops v f in
      rw (m.1, out-roll-Value (Value-F.Text m.0)) (integer_by (pos (length m.0)) t)
  unary_by post _ _ _ v t closed (operates_len_list T) f =
      let m = list_form free vars ops v T f in
      rw (m.1, out-roll-Value (Value-F.List m.0)) (integer_by (pos (length m.0)) t)
  unary_by post _ _ _ v t closed (operates_deref T p) f = deref_by v T t (closed p) f
  unary_by post _ _ _ v t closed (operates_keys k T) f =
      let m = map_parts free vars ops k T v f in
      rw (m.2, keys_seen m.0 m.1) (fit_keys free vars ops k T m.0 m.1 m.3)

  pub append_by : (vs : List Value) (v : Value) (T : Ty) (t : ℕ) → Built free vars ops vs T → F1 v T → By (λ ws. Built free vars ops ws T) (and_then (append vs v) (λ a. Gives (a, t)))
  append_by vs v T t f h = elim (cases_Bool (nat_lt (length vs) limit)) [ inl e ↦ rw e (built_append free vars ops vs v T e f.each h) | inr e ↦ rw e tt ]

  -- the items of a list
  pub items_by : (v : Value) (T : Ty) → F1 v (ty.List T) → (vs : List Value) × (items_of v ≡ Gives vs) × Built free vars ops vs T
  items_by v T f =
      let m = list_form free vars ops v T f in
      let h = both _ _ m.2 in
      (m.0, ap items_of m.1 ∙ ap items_at (out-roll-Value (Value-F.List m.0)), record { within = h.0; each = each_from free vars ops m.0 T h.1 })

  pub truth_by : (v : Value) → F1 v ty.Bool → (b : Bool) × (truth_of v ≡ Gives b)
  truth_by v f = let m = bool_form free vars ops v f in (m.0, ap truth_of m.1 ∙ ap truth_at (out-roll-Value (Value-F.Bool m.0)))
