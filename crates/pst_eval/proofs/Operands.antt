-- An operator on operands with results in place of variables.
use Rattle.std.proofs.Common.{◌≡◌, ◌==◌, ◌+◌, ◌+ℤ◌, ◌-ℤ◌, ◌*ℤ◌, int_div, int_rem, int_lt, unsigned_abs, ℕ, zero, suc, ℤ, pos, negsuc, Bool, true, false, not, List, [], ◌∷◌, ◌++◌, length, map, Option, Some, None, option_map, refl, sym, ap, ◌∙◌, inl, inr, slice_get}
use Rattle.std.proofs.lemmas.Bool.{cases_Bool}
use Rattle.std.proofs.lemmas.List.{length-map, map-append}
use Rattle.std.specs.Prelude.{nat_lt, nat_le}
use Rattle.std.specs.Ordering.{int_eq}
use Rattle.pst_eval.proofs.Fitting.{Fit, Built, both, each_from}
use Rattle.pst_eval.proofs.Forms.{bool_form, int_form, text_form, list_form, tuple_form, map_form, key_form, ref_form}
use Rattle.pst_eval.proofs.Maps.{keys_seen, get_seen, has_seen, del_seen, put_seen}
use Rattle.pst_eval.proofs.Operating.{Lifted}
use Rattle.pst_model.specs.declared.expr.Binary.{Binary}
use Rattle.pst_model.specs.declared.expr.Binary.TheVariants.{Add, Sub, Mul, Div, Rem, Less, LessEqual, Equal, Same, Append, Nth, Range, Get, Has, Del}
use Rattle.pst_model.specs.declared.expr.Unary.{Unary}
use Rattle.pst_operators.proofs.Keeping.{with-map, without-map, beside-map}
use Rattle.pst_operators.specs.Maps.{map_of, beside, with_key, with_value, without_key, without_value, get, has, put_key, put, del, keys}
use Rattle.pst_operators.specs.Operators.{int, bool, text, list, integer, truth_of, truth_at, items_of, items_at, unary, item as item_of, binary, binary_at, divided, joined_texts, joined_lists, nth, range, count_up, append}
use Rattle.pst_operators.specs.Outcome.{Outcome, Gives, and_then, or_fault, or_stuck}
use Rattle.pst_model.specs.Kinds.{holds_ref_or_call}
use Rattle.pst_model.specs.Rules.{OperatesOnOne, operates_not, operates_len_text, operates_len_list, operates_deref, operates_keys, OperatesOnTwo, operates_arithmetic, operates_order_int, operates_order_text, operates_equal, operates_same, operates_append_text, operates_append_list, operates_nth, operates_get, operates_has, operates_del, operates_range, key_type, is_arithmetic, is_order}
use Rattle.pst_eval.proofs.Values.{sub_int, sub_bool, sub_text, sub_list, sub_tuple, sub_map, sub_key, sub_keys, number_kept, stays}
use Rattle.pst_eval.specs.Substituted.{mapped}
use Rattle.pst_value.specs.Equality.{same_value}
use Rattle.pst_value.specs.Subst.{substituted, numbered}
use Rattle.pst_value.specs.Keys.{most}
use Rattle.pst_value.specs.Text.{is_i64, limit, text_less}
use Rattle.pst_value.specs.declared.fault.Fault.TheVariants.{Index, Missing}
use Rattle.pst_value.specs.declared.key.Key.{Key}
use Rattle.pst_value.specs.declared.key.KeyTy.{KeyTy}
use Rattle.pst_value.specs.declared.ty.Ty.{Ty}
use Rattle.pst_value.specs.declared.ty.Ty.TheVariants as ty
use Rattle.pst_value.specs.declared.value.Value.{Value, out-roll-Value}
use Rattle.pst_value.specs.declared.value.Value.TheOpen.{Value-F}

-- an operator that looks into both integers
arithmetic_looks : (op : Binary) (m n : ℤ) → is_arithmetic op ≡ true → binary op (int m) (int n) ≡ binary_at op (Value-F.Int m) (Value-F.Int n)
arithmetic_looks Add m n h = rw (out-roll-Value (Value-F.Int m), out-roll-Value (Value-F.Int n)) refl
arithmetic_looks Sub m n h = rw (out-roll-Value (Value-F.Int m), out-roll-Value (Value-F.Int n)) refl
arithmetic_looks Mul m n h = rw (out-roll-Value (Value-F.Int m), out-roll-Value (Value-F.Int n)) refl
arithmetic_looks Div m n h = rw (out-roll-Value (Value-F.Int m), out-roll-Value (Value-F.Int n)) refl
arithmetic_looks Rem m n h = rw (out-roll-Value (Value-F.Int m), out-roll-Value (Value-F.Int n)) refl
arithmetic_looks Less m n h = absurd (cc)
arithmetic_looks LessEqual m n h = absurd (cc)
arithmetic_looks Equal m n h = absurd (cc)
arithmetic_looks Same m n h = absurd (cc)
arithmetic_looks Append m n h = absurd (cc)
arithmetic_looks Nth m n h = absurd (cc)
arithmetic_looks Range m n h = absurd (cc)
arithmetic_looks Get m n h = absurd (cc)
arithmetic_looks Has m n h = absurd (cc)
arithmetic_looks Del m n h = absurd (cc)

module _ (rs : List (Option Value)) where
  abbrev S : Value → Value
  S = substituted rs

  -- an outcome whose value, if there is one, stays
  abbrev Unchanged : Outcome Value → Type 0
  Unchanged o = (t : ℕ) → Lifted o t ≡ mapped S (Lifted o t)

  gives : (v : Value) → S v ≡ v → Unchanged (Gives v)
  gives v e t = ap (λ w. Gives (w, t)) (sym e)

  integer_same : (n : ℤ) → Unchanged (integer n)
  integer_same n t = elim (cases_Bool (is_i64 n)) [ inl e ↦ rw e (gives (int n) (sub_int rs n) t) | inr e ↦ rw e refl ]

  divided_same : (n : ℤ) (o : Outcome Value) → Unchanged o → Unchanged (divided n o)
  divided_same n o h t = elim (cases_Bool (int_eq n (pos 0))) [ inl e ↦ rw e refl | inr e ↦ rw e (h t) ]

  arithmetic_same : (op : Binary) (m n : ℤ) → is_arithmetic op ≡ true → Unchanged (binary_at op (Value-F.Int m) (Value-F.Int n))
  arithmetic_same Add m n h = integer_same (m +ℤ n)
  arithmetic_same Sub m n h = integer_same (m -ℤ n)
  arithmetic_same Mul m n h = integer_same (m *ℤ n)
  arithmetic_same Div m n h = divided_same n (integer (int_div m n)) (integer_same (int_div m n))
  arithmetic_same Rem m n h = divided_same n (Gives (int (int_rem m n))) (gives (int (int_rem m n)) (sub_int rs (int_rem m n)))
  arithmetic_same Less m n h = absurd (cc)
  arithmetic_same LessEqual m n h = absurd (cc)
  arithmetic_same Equal m n h = absurd (cc)
  arithmetic_same Same m n h = absurd (cc)
  arithmetic_same Append m n h = absurd (cc)
  arithmetic_same Nth m n h = absurd (cc)
  arithmetic_same Range m n h = absurd (cc)
  arithmetic_same Get m n h = absurd (cc)
  arithmetic_same Has m n h = absurd (cc)
  arithmetic_same Del m n h = absurd (cc)

  order_int_same : (op : Binary) (m n : ℤ) → is_order op ≡ true → Unchanged (binary op (int m) (int n))
  order_int_same Less m n h = λ t. rw (out-roll-Value (Value-F.Int m), out-roll-Value (Value-F.Int n)) (gives (bool (int_lt m n)) (sub_bool rs (int_lt m n)) t)
  order_int_same LessEqual m n h = λ t. rw (out-roll-Value (Value-F.Int m), out-roll-Value (Value-F.Int n)) (gives (bool (not (int_lt n m))) (sub_bool rs (not (int_lt n m))) t)
  order_int_same Add m n h = absurd (cc)
  order_int_same Sub m n h = absurd (cc)
  order_int_same Mul m n h = absurd (cc)
  order_int_same Div m n h = absurd (cc)
  order_int_same Rem m n h = absurd (cc)
  order_int_same Equal m n h = absurd (cc)
  order_int_same Same m n h = absurd (cc)
  order_int_same Append m n h = absurd (cc)
  order_int_same Nth m n h = absurd (cc)
  order_int_same Range m n h = absurd (cc)
  order_int_same Get m n h = absurd (cc)
  order_int_same Has m n h = absurd (cc)
  order_int_same Del m n h = absurd (cc)

  order_text_same : (op : Binary) (s r : List ℕ) → is_order op ≡ true → Unchanged (binary op (text s) (text r))
  order_text_same Less s r h = λ t. rw (out-roll-Value (Value-F.Text s), out-roll-Value (Value-F.Text r)) (gives (bool (text_less s r)) (sub_bool rs (text_less s r)) t)
  order_text_same LessEqual s r h = λ t. rw (out-roll-Value (Value-F.Text s), out-roll-Value (Value-F.Text r)) (gives (bool (not (text_less r s))) (sub_bool rs (not (text_less r s))) t)
  order_text_same Add s r h = absurd (cc)
  order_text_same Sub s r h = absurd (cc)
  order_text_same Mul s r h = absurd (cc)
  order_text_same Div s r h = absurd (cc)
  order_text_same Rem s r h = absurd (cc)
  order_text_same Equal s r h = absurd (cc)
  order_text_same Same s r h = absurd (cc)
  order_text_same Append s r h = absurd (cc)
  order_text_same Nth s r h = absurd (cc)
  order_text_same Range s r h = absurd (cc)
  order_text_same Get s r h = absurd (cc)
  order_text_same Has s r h = absurd (cc)
  order_text_same Del s r h = absurd (cc)

  texts_same : (s r : List ℕ) → Unchanged (joined_texts s r)
  texts_same s r t = elim (cases_Bool (nat_le (length s + length r) limit)) [ inl e ↦ rw e (gives (text (s ++ r)) (sub_text rs (s ++ r)) t) | inr e ↦ rw e refl ]

  lists_commute : (vs ws : List Value) (t : ℕ) → Lifted (joined_lists (map S vs) (map S ws)) t ≡ mapped S (Lifted (joined_lists vs ws) t)
  lists_commute vs ws t = elim (cases_Bool (nat_le (length vs + length ws) limit)) [
    | inl e ↦ rw (length-map vs S, length-map ws S, e) (ap (λ v. Gives (v, t)) (ap list (sym (map-append S vs ws)) ∙ sym (sub_list rs (vs ++ ws))))
    | inr e ↦ rw (length-map vs S, length-map ws S, e) refl
  ]

  get_commutes : (vs : List Value) (n : ℕ) (t : ℕ) → Lifted (or_fault Index (slice_get (map S vs) n)) t ≡ mapped S (Lifted (or_fault Index (slice_get vs n)) t)
  get_commutes [] n t = refl
  get_commutes (v ∷ vs) zero t = refl
  get_commutes (v ∷ vs) (suc n) t = get_commutes vs n t

  nth_commutes : (vs : List Value) (n : ℤ) (t : ℕ) → Lifted (nth (map S vs) n) t ≡ mapped S (Lifted (nth vs n) t)
  nth_commutes vs (pos n) t = get_commutes vs n t
  nth_commutes vs (negsuc n) t = refl

  count_stays : (a : ℤ) (n : ℕ) → map S (count_up a n) ≡ count_up a n
  count_stays a zero = refl
  count_stays a (suc n) =
      map-append S (count_up a n) (int (a +ℤ pos n) ∷ []) ∙ ap (λ vs. vs ++ S (int (a +ℤ pos n)) ∷ []) (count_stays a n)
      ∙ ap (λ v. count_up a n ++ v ∷ []) (sub_int rs (a +ℤ pos n))

  range_same : (m n : ℤ) → Unchanged (range m n)
  range_same m n t = elim (cases_Bool (int_lt m n)) [
    | inl e ↦
        elim (cases_Bool (nat_lt limit (unsigned_abs (n -ℤ m)))) [
          | inl l ↦ rw (e, l) refl
          | inr l ↦ rw (e, l) (gives (list (count_up m (unsigned_abs (n -ℤ m)))) (sub_list rs (count_up m (unsigned_abs (n -ℤ m))) ∙ ap list (count_stays m (unsigned_abs (n -ℤ m)))) t)
        ]
    | inr e ↦ rw e (gives (list []) (sub_list rs []) t)
  ]

  -- ---- maps

  found_commutes : (o : Option Value) (t : ℕ)
      → Lifted (or_fault Missing (option_map S o)) t ≡ mapped S (Lifted (or_fault Missing o) t)
  found_commutes None t = refl
  found_commutes (Some v) t = refl

  beside_commutes : (ks : List Key) (vs : List Value) (l : Key) (t : ℕ)
      → Lifted (get ks (map S vs) l) t ≡ mapped S (Lifted (get ks vs l) t)
  beside_commutes ks vs l t =
      ap (λ o. Lifted (or_fault Missing o) t) (beside-map S ks vs l) ∙ found_commutes (beside ks vs l) t

  del_commutes : (ks : List Key) (vs : List Value) (l : Key) → del ks (map S vs) l ≡ S (del ks vs l)
  del_commutes ks vs l =
      ap (map_of (without_key ks l)) (without-map S ks vs l)
      ∙ sym (sub_map rs (without_key ks l) (without_value ks vs l))

  with_commutes : (ks : List Key) (vs : List Value) (l : Key) (v : Value)
      → map_of (with_key ks l) (with_value ks (map S vs) l (S v))
      ≡ S (map_of (with_key ks l) (with_value ks vs l v))
  with_commutes ks vs l v =
      ap (map_of (with_key ks l)) (with-map S ks vs l v)
      ∙ sym (sub_map rs (with_key ks l) (with_value ks vs l v))

  put_key-commutes : (ks : List Key) (vs : List Value) (l : Key) (v : Value) (t : ℕ)
      → Lifted (put_key ks (map S vs) (S v) l) t ≡ mapped S (Lifted (put_key ks vs v l) t)
  put_key-commutes ks vs l v t = elim (cases_Bool (nat_le (length (with_key ks l)) most)) [
    | inl e ↦ rw e (ap (λ m. Gives (m, t)) (with_commutes ks vs l v))
    | inr e ↦ rw e refl
  ]

  pub append_commutes : (vs : List Value) (v : Value) (t : ℕ) → and_then (append (map S vs) (S v)) (λ a. Gives (a, t)) ≡ mapped (map S) (and_then (append vs v) (λ a. Gives (a, t)))
  append_commutes vs v t = elim (cases_Bool (nat_lt (length vs) limit)) [
    | inl e ↦ rw (length-map vs S, e) (ap (λ a. Gives (a, t)) (sym (map-append S vs (v ∷ []))))
    | inr e ↦ rw (length-map vs S, e) refl
  ]

  -- ---- operands of their types

  module _ (free vars : List Ty) (ops : List (List Ty)) where
    abbrev F1 : Value → Ty → Type 0
    F1 v T = Fit free vars ops v T

    -- operands that stay
    both_stay : (op : Binary) (v w : Value) (t : ℕ) → S v ≡ v → S w ≡ w → Lifted (binary op v w) t ≡ mapped S (Lifted (binary op v w) t) → Lifted (binary op (S v) (S w)) t ≡ mapped S (Lifted (binary op v w) t)
    both_stay op v w t e f h = ap (λ x. Lifted (binary op x (S w)) t) e ∙ ap (λ x. Lifted (binary op v x) t) f ∙ h

    int_stays : (v : Value) → F1 v ty.Int → S v ≡ v
    int_stays v f = let m = int_form free vars ops v f in ap S m.1 ∙ sub_int rs m.0 ∙ sym m.1

    text_stays : (v : Value) → F1 v ty.Text → S v ≡ v
    text_stays v f = let m = text_form free vars ops v f in ap S m.1 ∙ sub_text rs m.0 ∙ sym m.1

    pub bool_stays : (v : Value) → F1 v ty.Bool → S v ≡ v
    bool_stays v f = let m = bool_form free vars ops v f in ap S m.1 ∙ sub_bool rs m.0 ∙ sym m.1

    pub binary_commutes : (op : Binary) (Q R T : Ty) (v w : Value) (t : ℕ) → OperatesOnTwo false op Q R T → F1 v Q → F1 w R → Lifted (binary op (S v) (S w)) t ≡ mapped S (Lifted (binary op v w) t)
    binary_commutes _ _ _ _ v w t (operates_arithmetic op h) f g =
        let m = int_form free vars ops v f in
        let n = int_form free vars ops w g in
        rw (m.1, n.1, sub_int rs m.0, sub_int rs n.0, arithmetic_looks op m.0 n.0 h) (arithmetic_same op m.0 n.0 h t)
    binary_commutes _ _ _ _ v w t (operates_order_int op h) f g =
        let m = int_form free vars ops v f in
        let n = int_form free vars ops w g in
        rw (m.1, n.1, sub_int rs m.0, sub_int rs n.0) (order_int_same op m.0 n.0 h t)
    binary_commutes _ _ _ _ v w t (operates_order_text op h) f g =
        let m = text_form free vars ops v f in
        let n = text_form free vars ops w g in
        rw (m.1, n.1, sub_text rs m.0, sub_text rs n.0) (order_text_same op m.0 n.0 h t)
    binary_commutes _ _ _ _ v w t (operates_equal T r) f g =
        let none = not_true (holds_ref_or_call T) r in
        rw (stays rs free vars ops v T f none, stays rs free vars ops w T g none) (gives (bool (same_value v w)) (sub_bool rs (same_value v w)) t)
      where
        not_true : (b : Bool) → not b ≡ true → b ≡ false
        not_true true h = absurd (cc)
        not_true false h = refl
    binary_commutes _ _ _ _ v w t (operates_same T) f g =
        let m = ref_form free vars ops v T f in
        let n = ref_form free vars ops w T g in
        rw (number_kept rs v, number_kept rs w, m.1, n.1) (gives (bool (m.0 == n.0)) (sub_bool rs (m.0 == n.0)) t)
    binary_commutes _ _ _ _ v w t operates_append_text f g =
        let m = text_form free vars ops v f in
        let n = text_form free vars ops w g in
        rw (m.1, n.1, sub_text rs m.0, sub_text rs n.0, out-roll-Value (Value-F.Text m.0), out-roll-Value (Value-F.Text n.0)) (texts_same m.0 n.0 t)
    binary_commutes _ _ _ _ v w t (operates_append_list T) f g =
        let m = list_form free vars ops v T f in
        let n = list_form free vars ops w T g in
        rw (m.1, n.1, sub_list rs m.0, sub_list rs n.0, out-roll-Value (Value-F.List m.0), out-roll-Value (Value-F.List n.0), out-roll-Value (Value-F.List (map S m.0)), out-roll-Value (Value-F.List (map S n.0))) (lists_commute m.0 n.0 t)
    binary_commutes _ _ _ _ v w t (operates_nth T) f g =
        let m = list_form free vars ops v T f in
        let n = int_form free vars ops w g in
        rw (m.1, n.1, sub_list rs m.0, sub_int rs n.0, out-roll-Value (Value-F.List m.0), out-roll-Value (Value-F.Int n.0), out-roll-Value (Value-F.List (map S m.0))) (nth_commutes m.0 n.0 t)
    binary_commutes _ _ _ _ v w t (operates_get k T) f g =
        let m = map_form free vars ops v k T f in
        let l = key_form free vars ops w k g in
        rw (m.2, l.1, sub_map rs m.0 m.1, sub_key rs l.0, get_seen m.0 (map S m.1) l.0, get_seen m.0 m.1 l.0)
        (beside_commutes m.0 m.1 l.0 t)
    binary_commutes _ _ _ _ v w t (operates_has k T) f g =
        let m = map_form free vars ops v k T f in
        let l = key_form free vars ops w k g in
        rw (m.2, l.1, sub_map rs m.0 m.1, sub_key rs l.0, has_seen m.0 (map S m.1) l.0, has_seen m.0 m.1 l.0)
        (gives (bool (has m.0 l.0)) (sub_bool rs (has m.0 l.0)) t)
    binary_commutes _ _ _ _ v w t (operates_del k T) f g =
        let m = map_form free vars ops v k T f in
        let l = key_form free vars ops w k g in
        rw (m.2, l.1, sub_map rs m.0 m.1, sub_key rs l.0, del_seen m.0 (map S m.1) l.0, del_seen m.0 m.1 l.0)
        (ap (λ u. Gives (u, t)) (del_commutes m.0 m.1 l.0))
    binary_commutes _ _ _ _ v w t operates_range f g =
        let m = int_form free vars ops v f in
        let n = int_form free vars ops w g in
        rw (m.1, n.1, sub_int rs m.0, sub_int rs n.0, out-roll-Value (Value-F.Int m.0), out-roll-Value (Value-F.Int n.0)) (range_same m.0 n.0 t)

    pub unary_commutes : (op : Unary) (R T : Ty) (v : Value) (t : ℕ) → OperatesOnOne false op R T → F1 v R → Lifted (unary op (S v)) t ≡ mapped S (Lifted (unary op v) t)
    unary_commutes _ _ _ v t operates_not f =
        let m = bool_form free vars ops v f in
        rw (m.1, sub_bool rs m.0, out-roll-Value (Value-F.Bool m.0)) (gives (bool (not m.0)) (sub_bool rs (not m.0)) t)
    unary_commutes _ _ _ v t operates_len_text f =
        let m = text_form free vars ops v f in
        rw (m.1, sub_text rs m.0, out-roll-Value (Value-F.Text m.0)) (integer_same (pos (length m.0)) t)
    unary_commutes _ _ _ v t (operates_len_list T) f =
        let m = list_form free vars ops v T f in
        rw (m.1, sub_list rs m.0, out-roll-Value (Value-F.List m.0), out-roll-Value (Value-F.List (map S m.0)), length-map m.0 S) (integer_same (pos (length m.0)) t)
    unary_commutes _ _ _ v t (operates_deref T p) f = absurd (cc)
    unary_commutes _ _ _ v t (operates_keys k T) f =
        let m = map_form free vars ops v k T f in
        rw (m.2, sub_map rs m.0 m.1, keys_seen m.0 (map S m.1), keys_seen m.0 m.1)
        (gives (list (keys m.0)) (sub_keys rs m.0) t)

    pub put_commutes : (k : KeyTy) (T : Ty) (m y v : Value) (t : ℕ) → F1 m (ty.Map k T) → F1 y (key_type k)
        → Lifted (put (S m) (S y) (S v)) t ≡ mapped S (Lifted (put m y v) t)
    put_commutes k T m y v t f g =
        let p = map_form free vars ops m k T f in
        let l = key_form free vars ops y k g in
        let real = put_seen p.0 (map S p.1) l.0 (S v) in
        rw (p.2, l.1, sub_map rs p.0 p.1, sub_key rs l.0, real, put_seen p.0 p.1 l.0 v)
        (put_key-commutes p.0 p.1 l.0 v t)

    place_commutes : (vs : List Value) (place t : ℕ) → Lifted (or_stuck (numbered (map S vs) place)) t ≡ mapped S (Lifted (or_stuck (numbered vs place)) t)
    place_commutes vs zero t = refl
    place_commutes vs (suc n) t = at vs n
      where
        at : (vs : List Value) (n : ℕ) → Lifted (or_stuck (slice_get (map S vs) n)) t ≡ mapped S (Lifted (or_stuck (slice_get vs n)) t)
        at [] n = refl
        at (v ∷ vs) zero = refl
        at (v ∷ vs) (suc n) = at vs n

    pub item_commutes : (v : Value) (Ts : List Ty) (place t : ℕ) → F1 v (ty.Tuple Ts) → Lifted (item_of place (S v)) t ≡ mapped S (Lifted (item_of place v) t)
    item_commutes v Ts place t f =
        let m = tuple_form free vars ops v Ts f in
        rw (m.1, sub_tuple rs m.0, out-roll-Value (Value-F.Tuple m.0), out-roll-Value (Value-F.Tuple (map S m.0))) (place_commutes m.0 place t)

    -- the items of a list, without results for variables and with them
    pub items_with : (v : Value) (T : Ty) → F1 v (ty.List T) → (vs : List Value) × (items_of v ≡ Gives vs) × (items_of (S v) ≡ Gives (map S vs)) × Built free vars ops vs T
    items_with v T f =
        let m = list_form free vars ops v T f in
        let h = both _ _ m.2 in
        (m.0, ap items_of m.1 ∙ ap items_at (out-roll-Value (Value-F.List m.0)), ap items_of (ap S m.1 ∙ sub_list rs m.0) ∙ ap items_at (out-roll-Value (Value-F.List (map S m.0))), record { within = h.0; each = each_from free vars ops m.0 T h.1 })

    pub truth_with : (v : Value) → F1 v ty.Bool → (b : Bool) × (truth_of v ≡ Gives b) × (truth_of (S v) ≡ Gives b)
    truth_with v f =
        let m = bool_form free vars ops v f in
        let e = ap truth_of m.1 ∙ ap truth_at (out-roll-Value (Value-F.Bool m.0)) in
        (m.0, e, ap truth_of (bool_stays v f) ∙ e)
