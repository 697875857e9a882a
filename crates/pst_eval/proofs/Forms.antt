-- The form of a value that fits a type.
use Rattle.std.proofs.Common.{◌≡◌, ℕ, zero, suc, ℤ, Bool, true, ◌&&◌, nat_le, length, Some, List, [], map, refl, sym, ap, ◌∙◌}
use Rattle.std.specs.List.{list_all}
use Rattle.std.proofs.lemmas.List.{length-map}
use Rattle.pst_value.proofs.ItemsExact.{both_second}
use Rattle.pst_value.specs.declared.value.Value.{Value, roll-Value, out-Value, roll-out-Value, map-Value}
use Rattle.pst_value.specs.declared.value.Value.TheOpen.{Value-F}
use Rattle.pst_value.specs.declared.value.Value.TheVariants as value
use Rattle.pst_value.specs.declared.ty.Ty.{Ty, out-Ty}
use Rattle.pst_value.specs.declared.ty.Ty.TheOpen.{Ty-F}
use Rattle.pst_value.specs.declared.ty.Ty.TheVariants as ty
use Rattle.pst_value.specs.Fits.{fit_each, fits_level, fits}
use Rattle.pst_value.specs.Keys.{is_key, are_keys}
use Rattle.pst_value.specs.Text.{is_i64, is_text, limit}
use Rattle.pst_value.specs.declared.key.Key.{Key}
use Rattle.pst_value.specs.declared.key.Key.TheVariants as key
use Rattle.pst_value.specs.declared.key.KeyTy.{KeyTy}
use Rattle.pst_value.specs.declared.key.KeyTy.TheVariants as kind
use Rattle.pst_value.proofs.Typing.{list_all-map}
use Rattle.pst_model.proofs.Rolled.{fits-roll}
use Rattle.pst_model.specs.Rules.{key_type}
use Rattle.pst_operators.specs.Maps.{map_of, value_of}
use Rattle.pst_operators.specs.Operators.{int, bool, text, list, tuple, number_at, number_of}

module _ (free vars : List Ty) (ops : List (List Ty)) where
  abbrev test : Value → Ty → Bool
  test = fits free vars ops

  abbrev Level : Value-F Value → Value-F (Ty → Bool)
  Level d = map-Value Value (Ty → Bool) test d

  opened : (v : Value) (t : Ty) (L : Ty-F Ty) → out-Ty t ≡ L → test v t ≡ true → fits_level free vars ops (Level (out-Value v)) L ≡ true
  opened v t L e h = ap (fits_level free vars ops (Level (out-Value v))) (sym e) ∙ sym (fits-roll free vars ops (out-Value v) t) ∙ ap (λ w. test w t) (roll-out-Value v) ∙ h

  bool_at : (d : Value-F Value) → fits_level free vars ops (Level d) Ty-F.Bool ≡ true → (b : Bool) × (d ≡ Value-F.Bool b)
  bool_at (Value-F.Int n) h = absurd (cc)
  bool_at (Value-F.Bool b) h = (b, refl)
  bool_at (Value-F.Text t) h = absurd (cc)
  bool_at (Value-F.Tuple vs) h = absurd (cc)
  bool_at (Value-F.List vs) h = absurd (cc)
  bool_at (Value-F.Map ks vs) h = absurd (cc)
  bool_at (Value-F.Var n) h = absurd (cc)
  bool_at (Value-F.Ref n v) h = absurd (cc)
  bool_at (Value-F.Call n vs) h = absurd (cc)

  int_at : (d : Value-F Value) → fits_level free vars ops (Level d) Ty-F.Int ≡ true → (n : ℤ) × (d ≡ Value-F.Int n) × (is_i64 n ≡ true)
  int_at (Value-F.Int n) h = (n, refl, h)
  int_at (Value-F.Bool b) h = absurd (cc)
  int_at (Value-F.Text t) h = absurd (cc)
  int_at (Value-F.Tuple vs) h = absurd (cc)
  int_at (Value-F.List vs) h = absurd (cc)
  int_at (Value-F.Map ks vs) h = absurd (cc)
  int_at (Value-F.Var n) h = absurd (cc)
  int_at (Value-F.Ref n v) h = absurd (cc)
  int_at (Value-F.Call n vs) h = absurd (cc)

  text_at : (d : Value-F Value) → fits_level free vars ops (Level d) Ty-F.Text ≡ true → (t : List ℕ) × (d ≡ Value-F.Text t) × (is_text t ≡ true)
  text_at (Value-F.Int n) h = absurd (cc)
  text_at (Value-F.Bool b) h = absurd (cc)
  text_at (Value-F.Text t) h = (t, refl, h)
  text_at (Value-F.Tuple vs) h = absurd (cc)
  text_at (Value-F.List vs) h = absurd (cc)
  text_at (Value-F.Map ks vs) h = absurd (cc)
  text_at (Value-F.Var n) h = absurd (cc)
  text_at (Value-F.Ref n v) h = absurd (cc)
  text_at (Value-F.Call n vs) h = absurd (cc)

  list_at : (d : Value-F Value) (s : Ty) → fits_level free vars ops (Level d) (Ty-F.List s) ≡ true → (vs : List Value) × (d ≡ Value-F.List vs) × (fits_level free vars ops (Level (Value-F.List vs)) (Ty-F.List s) ≡ true)
  list_at (Value-F.Int n) s h = absurd (cc)
  list_at (Value-F.Bool b) s h = absurd (cc)
  list_at (Value-F.Text t) s h = absurd (cc)
  list_at (Value-F.Tuple vs) s h = absurd (cc)
  list_at (Value-F.List vs) s h = (vs, refl, h)
  list_at (Value-F.Map ks vs) s h = absurd (cc)
  list_at (Value-F.Var n) s h = absurd (cc)
  list_at (Value-F.Ref n v) s h = absurd (cc)
  list_at (Value-F.Call n vs) s h = absurd (cc)

  tuple_at : (d : Value-F Value) (ts : List Ty) → fits_level free vars ops (Level d) (Ty-F.Tuple ts) ≡ true → (vs : List Value) × (d ≡ Value-F.Tuple vs) × (fit_each (map test vs) ts ≡ true)
  tuple_at (Value-F.Int n) ts h = absurd (cc)
  tuple_at (Value-F.Bool b) ts h = absurd (cc)
  tuple_at (Value-F.Text t) ts h = absurd (cc)
  tuple_at (Value-F.Tuple vs) ts h = (vs, refl, h)
  tuple_at (Value-F.List vs) ts h = absurd (cc)
  tuple_at (Value-F.Map ks vs) ts h = absurd (cc)
  tuple_at (Value-F.Var n) ts h = absurd (cc)
  tuple_at (Value-F.Ref n v) ts h = absurd (cc)
  tuple_at (Value-F.Call n vs) ts h = absurd (cc)

  map_at : (d : Value-F Value) (k : KeyTy) (s : Ty) → fits_level free vars ops (Level d) (Ty-F.Map k s) ≡ true
      → (ks : List Key) × (vs : List Value) × (d ≡ Value-F.Map ks vs)
      × (fits_level free vars ops (Level (Value-F.Map ks vs)) (Ty-F.Map k s) ≡ true)
  map_at (Value-F.Int n) k s h = absurd (cc)
  map_at (Value-F.Bool b) k s h = absurd (cc)
  map_at (Value-F.Text t) k s h = absurd (cc)
  map_at (Value-F.Tuple vs) k s h = absurd (cc)
  map_at (Value-F.List vs) k s h = absurd (cc)
  map_at (Value-F.Map ks vs) k s h = (ks, vs, refl, h)
  map_at (Value-F.Var n) k s h = absurd (cc)
  map_at (Value-F.Ref n v) k s h = absurd (cc)
  map_at (Value-F.Call n vs) k s h = absurd (cc)

  ref_at : (d : Value-F Value) (s : Ty) → fits_level free vars ops (Level d) (Ty-F.Ref s) ≡ true → (n : ℕ) × (number_at d ≡ Some n)
  ref_at (Value-F.Int n) s h = absurd (cc)
  ref_at (Value-F.Bool b) s h = absurd (cc)
  ref_at (Value-F.Text t) s h = absurd (cc)
  ref_at (Value-F.Tuple vs) s h = absurd (cc)
  ref_at (Value-F.List vs) s h = absurd (cc)
  ref_at (Value-F.Map ks vs) s h = absurd (cc)
  ref_at (Value-F.Var n) s h = (n, refl)
  ref_at (Value-F.Ref n v) s h = (n, refl)
  ref_at (Value-F.Call n vs) s h = absurd (cc)

  back : (v : Value) (d : Value-F Value) → out-Value v ≡ d → v ≡ roll-Value d
  back v d e = sym (roll-out-Value v) ∙ ap roll-Value e

  pub bool_form : (v : Value) → test v ty.Bool ≡ true → (b : Bool) × (v ≡ bool b)
  bool_form v h = let r = bool_at (out-Value v) (opened v ty.Bool Ty-F.Bool ty.outs-Bool h) in (r.0, back v _ r.1)

  pub int_form : (v : Value) → test v ty.Int ≡ true → (n : ℤ) × (v ≡ int n) × (is_i64 n ≡ true)
  int_form v h = let r = int_at (out-Value v) (opened v ty.Int Ty-F.Int ty.outs-Int h) in (r.0, back v _ r.1, r.2)

  pub text_form : (v : Value) → test v ty.Text ≡ true → (t : List ℕ) × (v ≡ text t) × (is_text t ≡ true)
  text_form v h = let r = text_at (out-Value v) (opened v ty.Text Ty-F.Text ty.outs-Text h) in (r.0, back v _ r.1, r.2)

  pub list_form : (v : Value) (t : Ty) → test v (ty.List t) ≡ true → (vs : List Value) × (v ≡ list vs) × ((nat_le (length vs) limit && list_all (λ f. f t) (map test vs)) ≡ true)
  list_form v t h =
      let r = list_at (out-Value v) t (opened v (ty.List t) (Ty-F.List t) (ty.outs-List t) h) in
      (r.0, back v _ r.1, ap (λ n. nat_le n limit && list_all (λ f. f t) (map test r.0)) (sym (length-map r.0 test)) ∙ r.2)

  pub tuple_form : (v : Value) (ts : List Ty) → test v (ty.Tuple ts) ≡ true → (vs : List Value) × (v ≡ tuple vs) × (fit_each (map test vs) ts ≡ true)
  tuple_form v ts h = let r = tuple_at (out-Value v) ts (opened v (ty.Tuple ts) (Ty-F.Tuple ts) (ty.outs-Tuple ts) h) in (r.0, back v _ r.1, r.2)

  pub map_form : (v : Value) (k : KeyTy) (t : Ty) → test v (ty.Map k t) ≡ true
      → (ks : List Key) × (vs : List Value) × (v ≡ map_of ks vs)
      × ((are_keys k (length vs) ks && list_all (λ w. test w t) vs) ≡ true)
  map_form v k t h =
      let r = map_at (out-Value v) k t (opened v (ty.Map k t) (Ty-F.Map k t) (ty.outs-Map k t) h) in (
        r.0,
        r.1,
        back v _ r.2,
        ap (λ n. are_keys k n r.0 && list_all (λ w. test w t) r.1) (sym (length-map r.1 test))
            ∙ ap (λ b. are_keys k (length (map test r.1)) r.0 && b)
            (sym (list_all-map free vars ops (λ f. f t) test r.1))
            ∙ r.3,
      )

  -- the key that a value is
  pub key_form : (v : Value) (k : KeyTy) → test v (key_type k) ≡ true
      → (l : Key) × (v ≡ value_of l) × (is_key k l ≡ true)
  key_form v kind.Int h = let r = int_form v h in (key.Int r.0, r.1, r.2)
  key_form v kind.Bool h = let r = bool_form v h in (key.Bool r.0, r.1, refl)
  key_form v kind.Text h = let r = text_form v h in (key.Text r.0, r.1, r.2)

  pub ref_form : (v : Value) (t : Ty) → test v (ty.Ref t) ≡ true → (n : ℕ) × (number_of v ≡ Some n)
  ref_form v t h = ref_at (out-Value v) t (opened v (ty.Ref t) (Ty-F.Ref t) (ty.outs-Ref t) h)

-- where no variable stands open, a reference has its value
module _ (vars : List Ty) (ops : List (List Ty)) where
  abbrev closed : Value → Ty → Bool
  closed = fits [] vars ops

  abbrev ClosedLevel : Value-F Value → Value-F (Ty → Bool)
  ClosedLevel d = map-Value Value (Ty → Bool) closed d

  known_at : (d : Value-F Value) (s : Ty) → fits_level [] vars ops (ClosedLevel d) (Ty-F.Ref s) ≡ true → (n : ℕ) × (v : Value) × (d ≡ Value-F.Ref n v) × (closed v s ≡ true)
  known_at (Value-F.Int n) s h = absurd (cc)
  known_at (Value-F.Bool b) s h = absurd (cc)
  known_at (Value-F.Text t) s h = absurd (cc)
  known_at (Value-F.Tuple vs) s h = absurd (cc)
  known_at (Value-F.List vs) s h = absurd (cc)
  known_at (Value-F.Map ks vs) s h = absurd (cc)
  known_at (Value-F.Var zero) s h = absurd (cc)
  known_at (Value-F.Var (suc n)) s h = absurd (cc)
  known_at (Value-F.Ref n v) s h = (n, v, refl, both_second _ _ h)
  known_at (Value-F.Call n vs) s h = absurd (cc)

  pub known_form : (v : Value) (t : Ty) → closed v (ty.Ref t) ≡ true → (n : ℕ) × (w : Value) × (v ≡ roll-Value (Value-F.Ref n w)) × (closed w t ≡ true)
  known_form v t h =
      let r = known_at (out-Value v) t (opened [] vars ops v (ty.Ref t) (Ty-F.Ref t) (ty.outs-Ref t) h) in
      (r.0, r.1, back [] vars ops v _ r.2, r.3)

-- a value of type bool is a truth value
pub not_bool : (ops : List (List Ty)) (v : Value) → fits [] [] ops v ty.Bool ≡ true → ((b : Bool) → v ≡ value.Bool b → ⊥) → ⊥
not_bool ops v h other = let r = bool_form [] [] ops v h in other r.0 (r.1 ∙ value.rolls-Bool r.0)
