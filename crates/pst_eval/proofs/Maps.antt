-- Maps that fit a type, and what the operators on maps make of them.
use Rattle.std.proofs.Common.{◌≡◌, ◌==◌, ◌≤◌, ℕ, Bool, true, ◌&&◌, List, [], ◌∷◌, length, Option, Some, None, refl, ap, ◌∙◌, subst, arith, eq-eqb}
use Rattle.std.specs.Prelude.{nat_le}
use Rattle.std.specs.List.{list_all}
use Rattle.std.proofs.lemmas.Bool.{and_from, le-leb, leb-true}
use Rattle.std.proofs.lemmas.Bool.Decides.{Decides-eqb}
use Rattle.std.proofs.lemmas.List.{length-map}
use Rattle.pst_model.specs.declared.expr.Binary.TheVariants.{Get, Has, Del}
use Rattle.pst_model.specs.declared.expr.Unary.TheVariants.{Keys}
use Rattle.pst_operators.proofs.Keeping.{with-lengths, without-lengths, with-all, without-all, beside-all, without-rising}
use Rattle.pst_operators.proofs.Places.{either}
use Rattle.pst_operators.proofs.Putting.{put-keeps-keys}
use Rattle.pst_operators.specs.Maps.{map_of, key_at, key_of, value_of, beside, with_key, with_value, without_key, without_value, get, has, put_key, put_at, put, del, keys}
use Rattle.pst_operators.specs.Operators.{bool, list, unary, unary_at, binary, binary_at}
use Rattle.pst_operators.specs.Outcome.{Gives, and_then}
use Rattle.pst_model.specs.Rules.{key_type}
use Rattle.pst_value.proofs.Typing.{fits-Map-Map}
use Rattle.pst_value.specs.Equality.{same_key}
use Rattle.pst_value.specs.Fits.{fits}
use Rattle.pst_value.specs.Keys.{is_key, rising, are_keys, most}
use Rattle.pst_value.specs.Text.{limit}
use Rattle.pst_value.specs.declared.key.Key.{Key}
use Rattle.pst_value.specs.declared.key.Key.TheVariants as key
use Rattle.pst_value.specs.declared.key.KeyTy.{KeyTy}
use Rattle.pst_value.specs.declared.key.KeyTy.TheVariants as kind
use Rattle.pst_value.specs.declared.ty.Ty.{Ty}
use Rattle.pst_value.specs.declared.ty.Ty.TheVariants as ty
use Rattle.pst_value.specs.declared.value.Value.{Value, out-Value, out-roll-Value}
use Rattle.pst_value.specs.declared.value.Value.TheOpen.{Value-F}
use Rattle.pst_value.specs.declared.value.Value.TheVariants as value
use Rattle.pst_eval.proofs.Fitting.{both, Fit, EachFits, fit_int, fit_bool, fit_text, fit_list}
use Rattle.pst_eval.proofs.Forms.{map_form}

-- ---- the operators on a map and a key

key_seen : (l : Key) → key_of (value_of l) ≡ Gives l
key_seen (key.Int n) = ap key_at (out-roll-Value (Value-F.Int n))
key_seen (key.Bool b) = ap key_at (out-roll-Value (Value-F.Bool b))
key_seen (key.Text t) = ap key_at (out-roll-Value (Value-F.Text t))

pub keys_seen : (ks : List Key) (vs : List Value) → unary Keys (map_of ks vs) ≡ Gives (list (keys ks))
keys_seen ks vs = ap (unary_at Keys) (out-roll-Value (Value-F.Map ks vs))

pub get_seen : (ks : List Key) (vs : List Value) (l : Key)
    → binary Get (map_of ks vs) (value_of l) ≡ get ks vs l
get_seen ks vs l =
    ap (λ d. binary_at Get d (out-Value (value_of l))) (out-roll-Value (Value-F.Map ks vs))
    ∙ ap (λ o. and_then o (get ks vs)) (key_seen l)

pub has_seen : (ks : List Key) (vs : List Value) (l : Key)
    → binary Has (map_of ks vs) (value_of l) ≡ Gives (bool (has ks l))
has_seen ks vs l =
    ap (λ d. binary_at Has d (out-Value (value_of l))) (out-roll-Value (Value-F.Map ks vs))
    ∙ ap (λ o. and_then o (λ j. Gives (bool (has ks j)))) (key_seen l)

pub del_seen : (ks : List Key) (vs : List Value) (l : Key)
    → binary Del (map_of ks vs) (value_of l) ≡ Gives (del ks vs l)
del_seen ks vs l =
    ap (λ d. binary_at Del d (out-Value (value_of l))) (out-roll-Value (Value-F.Map ks vs))
    ∙ ap (λ o. and_then o (λ j. Gives (del ks vs j))) (key_seen l)

pub put_seen : (ks : List Key) (vs : List Value) (l : Key) (v : Value)
    → put (map_of ks vs) (value_of l) v ≡ put_key ks vs v l
put_seen ks vs l v =
    ap (λ d. put_at d (key_of (value_of l)) v) (out-roll-Value (Value-F.Map ks vs))
    ∙ ap (λ o. and_then o (put_key ks vs v)) (key_seen l)

-- ---- keys

fewer : (ks : List Key) (l : Key) → length (without_key ks l) ≤ length ks
fewer [] l = omega arith
fewer (j ∷ js) l = either (same_key j l) (λ e. rw e (omega arith)) (λ e. rw e (omega (arith, fewer js l)))

still_within : (ks : List Key) (l : Key) → nat_le (length ks) most ≡ true
    → nat_le (length (without_key ks l)) most ≡ true
still_within ks l h =
    le-leb (length (without_key ks l)) 4096 (omega (arith, fewer ks l, leb-true (length ks) 4096 h))

without_key-all : (p : Key → Bool) (ks : List Key) (l : Key) → list_all p ks ≡ true
    → list_all p (without_key ks l) ≡ true
without_key-all p [] l h = h
without_key-all p (j ∷ js) l h =
    let q = both (p j) (list_all p js) h in
    either (same_key j l) (λ e. rw e q.1) (λ e. rw (e, q.0) (without_key-all p js l q.1))

-- a list has room for all keys of a map
room : (n : ℕ) → nat_le n most ≡ true → nat_le n limit ≡ true
room n h = le-leb n 65536 (omega (arith, leb-true n 4096 h))

-- ---- maps of a type

module _ (free vars : List Ty) (ops : List (List Ty)) where
  pub fit_key : (k : KeyTy) (l : Key) → is_key k l ≡ true → Fit free vars ops (value_of l) (key_type k)
  fit_key kind.Int (key.Int n) h = fit_int free vars ops n h
  fit_key kind.Int (key.Bool b) h = absurd (cc)
  fit_key kind.Int (key.Text t) h = absurd (cc)
  fit_key kind.Bool (key.Int n) h = absurd (cc)
  fit_key kind.Bool (key.Bool b) h = fit_bool free vars ops b
  fit_key kind.Bool (key.Text t) h = absurd (cc)
  fit_key kind.Text (key.Int n) h = absurd (cc)
  fit_key kind.Text (key.Bool b) h = absurd (cc)
  fit_key kind.Text (key.Text t) h = fit_text free vars ops t h

  each_key : (k : KeyTy) (ks : List Key) → list_all (is_key k) ks ≡ true
      → EachFits free vars ops (keys ks) (key_type k)
  each_key k [] h = tt
  each_key k (l ∷ ls) h =
      let p = both (is_key k l) (list_all (is_key k) ls) h in
      (fit_key k l p.0, each_key k ls p.1)

  -- the keys and the values of a map of a type
  pub record AreOf (k : KeyTy) (T : Ty) (ks : List Key) (vs : List Value) : Type 0 where
    pub within : nat_le (length ks) most ≡ true
    pub as_many : length ks ≡ length vs
    pub of_kind : list_all (is_key k) ks ≡ true
    pub rise : rising ks ≡ true
    pub each : list_all (λ v. fits free vars ops v T) vs ≡ true

  pub empty_map : (k : KeyTy) (T : Ty) → AreOf k T [] []
  empty_map k T = record { within = refl; as_many = refl; of_kind = refl; rise = refl; each = refl }

  pub fit_map : (k : KeyTy) (T : Ty) (ks : List Key) (vs : List Value) → AreOf k T ks vs
      → Fit free vars ops (map_of ks vs) (ty.Map k T)
  fit_map k T ks vs h =
      let count = and_from _ _ h.within (eq-eqb (length ks) (length vs) h.as_many) in
      ap (λ v. fits free vars ops v (ty.Map k T)) (value.rolls-Map ks vs)
      ∙ fits-Map-Map free vars ops ks vs k T
      ∙ and_from _ _ (and_from _ _ count (and_from _ _ h.of_kind h.rise)) h.each

  -- a value of a type of maps is a map
  pub map_parts : (k : KeyTy) (T : Ty) (v : Value) → Fit free vars ops v (ty.Map k T)
      → (ks : List Key) × (vs : List Value) × (v ≡ map_of ks vs) × AreOf k T ks vs
  map_parts k T v f =
      let m = map_form free vars ops v k T f in
      let p = both (are_keys k (length m.1) m.0) (list_all (λ w. fits free vars ops w T) m.1) m.3 in
      let count = nat_le (length m.0) most && length m.0 == length m.1 in
      let order = list_all (is_key k) m.0 && rising m.0 in
      let q = both count order p.0 in
      let c = both (nat_le (length m.0) most) (length m.0 == length m.1) q.0 in
      let o = both (list_all (is_key k) m.0) (rising m.0) q.1 in (
        m.0,
        m.1,
        m.2,
        record {
          within = c.0;
          as_many = (Decides-eqb (length m.0) (length m.1)).0 c.1;
          of_kind = o.0;
          rise = o.1;
          each = p.1;
        },
      )

  pub fit_keys : (k : KeyTy) (T : Ty) (ks : List Key) (vs : List Value) → AreOf k T ks vs
      → Fit free vars ops (list (keys ks)) (ty.List (key_type k))
  fit_keys k T ks vs h =
      let counted = ap (λ n. nat_le n limit) (length-map ks value_of) ∙ room (length ks) h.within in
      let each = each_key k ks h.of_kind in
      fit_list free vars ops (keys ks) (key_type k) (record { within = counted; each = each })

  -- what stands beside a key
  abbrev Found : Ty → Option Value → Type 0
  Found T None = Unit {0}
  Found T (Some v) = Fit free vars ops v T

  pub fit_beside : (T : Ty) (ks : List Key) (vs : List Value) (l : Key) (v : Value)
      → list_all (λ w. fits free vars ops w T) vs ≡ true → beside ks vs l ≡ Some v → Fit free vars ops v T
  fit_beside T ks vs l v h e =
      let P : Option Value → Type 0 = λ o. Found T o in
      subst P e (beside-all (λ w. fits free vars ops w T) ks vs l h)

  pub fit_with : (k : KeyTy) (T : Ty) (ks : List Key) (vs : List Value) (l : Key) (v : Value)
      → AreOf k T ks vs → is_key k l ≡ true → Fit free vars ops v T
      → nat_le (length (with_key ks l)) most ≡ true
      → Fit free vars ops (map_of (with_key ks l) (with_value ks vs l v)) (ty.Map k T)
  fit_with k T ks vs l v h i f n =
      let kept = put-keeps-keys k ks l h.of_kind i h.rise in
      fit_map k T (with_key ks l) (with_value ks vs l v) (record {
        within = n;
        as_many = with-lengths ks vs l v h.as_many;
        of_kind = kept.0;
        rise = kept.1;
        each = with-all (λ w. fits free vars ops w T) ks vs l v h.each f;
      })

  pub fit_without : (k : KeyTy) (T : Ty) (ks : List Key) (vs : List Value) (l : Key) → AreOf k T ks vs
      → Fit free vars ops (del ks vs l) (ty.Map k T)
  fit_without k T ks vs l h =
      fit_map k T (without_key ks l) (without_value ks vs l) (record {
        within = still_within ks l h.within;
        as_many = without-lengths ks vs l h.as_many;
        of_kind = without_key-all (is_key k) ks l h.of_kind;
        rise = without-rising ks l h.rise;
        each = without-all (λ w. fits free vars ops w T) ks vs l h.each;
      })
