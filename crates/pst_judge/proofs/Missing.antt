-- Arguments in which recorded results stand for variables fit their types, where no result that they need is missing.
use Rattle.std.proofs.Common.{◌≡◌, ℕ, zero, suc, ◌+◌, Bool, true, false, ◌&&◌, nat_eq, nat_le, length, List, [], ◌∷◌, map, refl, sym, ap, ◌∙◌, subst, ℤ, Option, Some, None, slice_get, arith, eq-eqb, true≢false}
use Rattle.std.proofs.lemmas.List.{length-map}
use Rattle.std.specs.List.{AllByRecursion, list_all, list_any}
use Rattle.pst_value.proofs.ItemsExact.{both_first, both_second}
use Rattle.pst_value.proofs.Forms.{value_induction}
use Rattle.pst_value.proofs.Typing.{fits-Int, fits-Truth, fits-Text, fits-Tuple, fits-ListOf, fits-MapOf, fits-Var, fits-Ref, fits-Call}
use Rattle.pst_value.proofs.Substituting.{substituted-Int, substituted-Truth, substituted-Text, substituted-Tuple, substituted-ListOf, substituted-MapOf, substituted-Var, substituted-Ref, substituted-Call}
use Rattle.pst_eval.proofs.Naming.{or_first, or_second}
use Rattle.pst_judge.specs.UnknownCalls.{needs_missing}
use Rattle.pst_value.proofs.ExactTypes.{same_ty-Decides}
use Rattle.pst_value.proofs.Holding.{holds-Tuple, holds-ListOf, holds-MapOf, holds-Var, holds-Ref, holds-Call}
use Rattle.pst_value.specs.Fits.{fits, fits_level, fit_each, fit_params, is_ty}
use Rattle.pst_value.specs.Keys.{are_keys}
use Rattle.pst_value.specs.declared.key.Key.{Key}
use Rattle.pst_value.specs.Holds.{holds}
use Rattle.pst_value.specs.Subst.{substituted, named, known, numbered, flat}
use Rattle.pst_value.specs.Text.{limit}
use Rattle.pst_value.specs.declared.value.Value.{Value, Tuple, List as ListOf, Map as MapOf, Var, Ref, Call}
use Rattle.pst_value.specs.declared.value.Value.TheOpen.{Value-F}
use Rattle.pst_value.specs.declared.ty.Ty.{Ty, out-Ty}
use Rattle.pst_value.specs.declared.ty.Ty.TheOpen.{Ty-F}

-- each result that is there fits the type at its place
abbrev pub SomeKnown : (vars : List Ty) (ops : List (List Ty)) → List (Option Value) → List Ty → Type 0
SomeKnown vars ops [] [] = Unit {0}
SomeKnown vars ops [] (t ∷ ts) = ⊥
SomeKnown vars ops (o ∷ rs) [] = ⊥
SomeKnown vars ops (None ∷ rs) (t ∷ ts) = SomeKnown vars ops rs ts
SomeKnown vars ops (Some r ∷ rs) (t ∷ ts) = (fits [] vars ops r t ≡ true) × SomeKnown vars ops rs ts

-- no argument needs a result that is missing
abbrev pub KnowsAll : List (Option Value) → List Value → Type 0
KnowsAll rs vs = (k : ℕ) → slice_get rs k ≡ Some None → list_any (holds (suc k)) vs ≡ false

none_missing : (number : ℕ) (rs : List (Option Value)) (vs : List Value) → needs_missing number rs vs ≡ false → (k : ℕ) → slice_get rs k ≡ Some None → list_any (holds (number + k)) vs ≡ false
none_missing number [] vs h k e = absurd (cc)
none_missing number (Some v ∷ rs) vs h zero e = absurd (cc)
none_missing number (Some v ∷ rs) vs h (suc k) e =
    let q : number + 1 + k ≡ number + suc k = omega arith in
    subst (λ (n : ℕ). list_any (holds n) vs ≡ false) q (none_missing (number + 1) rs vs h k e)
none_missing number (None ∷ rs) vs h zero e =
    let q : number ≡ number + 0 = omega arith in
    subst (λ (n : ℕ). list_any (holds n) vs ≡ false) q (or_first (list_any (holds number) vs) (needs_missing (number + 1) rs vs) h)
none_missing number (None ∷ rs) vs h (suc k) e =
    let q : number + 1 + k ≡ number + suc k = omega arith in
    subst (λ (n : ℕ). list_any (holds n) vs ≡ false) q (none_missing (number + 1) rs vs (or_second (list_any (holds number) vs) (needs_missing (number + 1) rs vs) h) k e)

pub knows_all : (rs : List (Option Value)) (vs : List Value) → needs_missing 1 rs vs ≡ false → KnowsAll rs vs
knows_all rs vs h k e =
    let q : 1 + k ≡ suc k = omega arith in
    subst (λ (n : ℕ). list_any (holds n) vs ≡ false) q (none_missing 1 rs vs h k e)

module _ (vars : List Ty) (ops : List (List Ty)) (rs : List (Option Value)) (sound : SomeKnown vars ops rs vars) where
  abbrev free : List Ty
  free = vars

  abbrev later : List Ty
  later = []

  abbrev Knows : Value → Type 0
  Knows v = (k : ℕ) → slice_get rs k ≡ Some None → holds (suc k) v ≡ false

  head_knows : (x : Value) (xs : List Value) → KnowsAll rs (x ∷ xs) → Knows x
  head_knows x xs n k e = or_first (holds (suc k) x) (list_any (holds (suc k)) xs) (n k e)

  rest_knows : (x : Value) (xs : List Value) → KnowsAll rs (x ∷ xs) → KnowsAll rs xs
  rest_knows x xs n k e = or_second (holds (suc k) x) (list_any (holds (suc k)) xs) (n k e)

  abbrev Kept : Value → Type 0
  Kept v = Knows v → (t : Ty) → fits free vars ops v t ≡ true → fits later vars ops (substituted rs v) t ≡ true

  -- the type at the place of a result
  a_result : (os : List (Option Value)) (ts : List Ty) (k : ℕ) (s : Ty) → SomeKnown vars ops os ts → (slice_get os k ≡ Some None → ⊥) → is_ty (slice_get ts k) s ≡ true
      → (r : Value) × (flat (slice_get os k) ≡ Some r) × (fits later vars ops r s ≡ true)
  a_result [] [] k s a n h = absurd (cc)
  a_result [] (t ∷ ts) k s a n h = absurd a
  a_result (o ∷ os) [] k s a n h = absurd a
  a_result (None ∷ os) (t ∷ ts) zero s a n h = absurd (n refl)
  a_result (None ∷ os) (t ∷ ts) (suc k) s a n h = a_result os ts k s a n h
  a_result (Some r ∷ os) (t ∷ ts) zero s a n h =
      let q : t ≡ s = (same_ty-Decides t s).0 h in
      let P : Ty → Type 0 = λ u. fits later vars ops r u ≡ true in
      (r, refl, subst P q a.0)
  a_result (Some r ∷ os) (t ∷ ts) (suc k) s a n h = a_result os ts k s a.1 n h

  of_number : (n : ℕ) (s : Ty) → Knows (Var n) → is_ty (numbered vars n) s ≡ true → (r : Value) × (known rs n ≡ Some r) × (fits later vars ops r s ≡ true)
  of_number zero s knows h = absurd (cc)
  of_number (suc k) s knows h =
      a_result rs vars k s sound (λ e. true≢false (sym (holds-Var (suc k) (suc k) ∙ eq-eqb (suc k) (suc k) refl) ∙ knows k e)) h

  var_level : (n : ℕ) (x : Ty-F Ty) → Knows (Var n) → fits_level free vars ops (Value-F.Var n) x ≡ true
      → (r : Value) × (known rs n ≡ Some r) × (fits_level later vars ops (Value-F.Ref n (fits later vars ops r)) x ≡ true)
  var_level n (Ty-F.Ref s) knows h = let a = of_number n s knows h in (a.0, a.1, ap (λ b. b && fits later vars ops a.0 s) h ∙ a.2)
  var_level n Ty-F.Int knows h = absurd (cc)
  var_level n Ty-F.Bool knows h = absurd (cc)
  var_level n Ty-F.Text knows h = absurd (cc)
  var_level n (Ty-F.Tuple t) knows h = absurd (cc)
  var_level n (Ty-F.List t) knows h = absurd (cc)
  var_level n (Ty-F.Map kt t) knows h = absurd (cc)
  var_level n Ty-F.Call knows h = absurd (cc)

  var_kept : (n : ℕ) (t : Ty) → Knows (Var n) → fits free vars ops (Var n) t ≡ true → fits later vars ops (named n (known rs n)) t ≡ true
  var_kept n t knows h =
      let a = var_level n (out-Ty t) knows (sym (fits-Var free vars ops n t) ∙ h) in
      ap (λ o. fits later vars ops (named n o) t) a.1 ∙ fits-Ref later vars ops n a.0 t ∙ a.2

  abbrev test : Value → Ty → Bool
  test = fits free vars ops

  abbrev afterwards : Value → Ty → Bool
  afterwards = fits later vars ops

  each_kept : (xs : List Value) (ts : List Ty) → AllByRecursion Kept xs → KnowsAll rs xs → fit_each (map test xs) ts ≡ true → fit_each (map afterwards (map (substituted rs) xs)) ts ≡ true
  each_kept [] ts h n e = e
  each_kept (x ∷ xs) [] h n e = e
  each_kept (x ∷ xs) (t ∷ ts) h n e =
      let p : afterwards (substituted rs x) t ≡ true = h.0 (head_knows x xs n) t (both_first (test x t) _ e) in
      let q : fit_each (map afterwards (map (substituted rs) xs)) ts ≡ true = each_kept xs ts h.1 (rest_knows x xs n) (both_second (test x t) _ e) in
      ap (λ b. b && fit_each (map afterwards (map (substituted rs) xs)) ts) p ∙ q

  all_kept : (xs : List Value) (t : Ty) → AllByRecursion Kept xs → KnowsAll rs xs → list_all (λ f. f t) (map test xs) ≡ true → list_all (λ f. f t) (map afterwards (map (substituted rs) xs)) ≡ true
  all_kept [] t h n e = e
  all_kept (x ∷ xs) t h n e =
      let p : afterwards (substituted rs x) t ≡ true = h.0 (head_knows x xs n) t (both_first (test x t) _ e) in
      let q : list_all (λ f. f t) (map afterwards (map (substituted rs) xs)) ≡ true = all_kept xs t h.1 (rest_knows x xs n) (both_second (test x t) _ e) in
      ap (λ b. b && list_all (λ f. f t) (map afterwards (map (substituted rs) xs))) p ∙ q

  -- one level
  tuple_kept : (xs : List Value) → AllByRecursion Kept xs → KnowsAll rs xs → (x : Ty-F Ty)
      → fits_level free vars ops (Value-F.Tuple (map test xs)) x ≡ true → fits_level later vars ops (Value-F.Tuple (map afterwards (map (substituted rs) xs))) x ≡ true
  tuple_kept xs h n (Ty-F.Tuple ts) e = each_kept xs ts h n e
  tuple_kept xs h n Ty-F.Int e = e
  tuple_kept xs h n Ty-F.Bool e = e
  tuple_kept xs h n Ty-F.Text e = e
  tuple_kept xs h n (Ty-F.List t) e = e
  tuple_kept xs h n (Ty-F.Map k t) e = e
  tuple_kept xs h n (Ty-F.Ref t) e = e
  tuple_kept xs h n Ty-F.Call e = e

  list_kept : (xs : List Value) → AllByRecursion Kept xs → KnowsAll rs xs → (x : Ty-F Ty)
      → fits_level free vars ops (Value-F.List (map test xs)) x ≡ true → fits_level later vars ops (Value-F.List (map afterwards (map (substituted rs) xs))) x ≡ true
  list_kept xs h n (Ty-F.List t) e =
      let same : length (map afterwards (map (substituted rs) xs)) ≡ length (map test xs) = simp length-map in
      ap (λ l. nat_le l limit && list_all (λ f. f t) (map afterwards (map (substituted rs) xs))) same
      ∙ ap (λ b. b && list_all (λ f. f t) (map afterwards (map (substituted rs) xs))) (both_first (nat_le (length (map test xs)) limit) _ e)
      ∙ all_kept xs t h n (both_second (nat_le (length (map test xs)) limit) _ e)
  list_kept xs h n (Ty-F.Map k t) e = e
  list_kept xs h n Ty-F.Int e = e
  list_kept xs h n Ty-F.Bool e = e
  list_kept xs h n Ty-F.Text e = e
  list_kept xs h n (Ty-F.Tuple t) e = e
  list_kept xs h n (Ty-F.Ref t) e = e
  list_kept xs h n Ty-F.Call e = e

  map_kept : (ks : List Key) (xs : List Value) → AllByRecursion Kept xs → KnowsAll rs xs → (x : Ty-F Ty)
      → fits_level free vars ops (Value-F.Map ks (map test xs)) x ≡ true → fits_level later vars ops (Value-F.Map ks (map afterwards (map (substituted rs) xs))) x ≡ true
  map_kept ks xs h n (Ty-F.Map k t) e =
      let same : length (map afterwards (map (substituted rs) xs)) ≡ length (map test xs) = simp length-map in
      ap (λ l. are_keys k l ks && list_all (λ f. f t) (map afterwards (map (substituted rs) xs))) same
      ∙ ap (λ b. b && list_all (λ f. f t) (map afterwards (map (substituted rs) xs))) (both_first (are_keys k (length (map test xs)) ks) _ e)
      ∙ all_kept xs t h n (both_second (are_keys k (length (map test xs)) ks) _ e)
  map_kept ks xs h n Ty-F.Int e = e
  map_kept ks xs h n Ty-F.Bool e = e
  map_kept ks xs h n Ty-F.Text e = e
  map_kept ks xs h n (Ty-F.Tuple t) e = e
  map_kept ks xs h n (Ty-F.List t) e = e
  map_kept ks xs h n (Ty-F.Ref t) e = e
  map_kept ks xs h n Ty-F.Call e = e

  params_kept : (xs : List Value) → AllByRecursion Kept xs → KnowsAll rs xs → (o : Option (List Ty)) → fit_params (map test xs) o ≡ true → fit_params (map afterwards (map (substituted rs) xs)) o ≡ true
  params_kept xs h n None e = e
  params_kept xs h n (Some ts) e = each_kept xs ts h n e

  call_kept : (op : ℕ) (xs : List Value) → AllByRecursion Kept xs → KnowsAll rs xs → (x : Ty-F Ty)
      → fits_level free vars ops (Value-F.Call op (map test xs)) x ≡ true → fits_level later vars ops (Value-F.Call op (map afterwards (map (substituted rs) xs))) x ≡ true
  call_kept op xs h n Ty-F.Call e = params_kept xs h n (slice_get ops op) e
  call_kept op xs h n Ty-F.Int e = e
  call_kept op xs h n Ty-F.Bool e = e
  call_kept op xs h n Ty-F.Text e = e
  call_kept op xs h n (Ty-F.Tuple t) e = e
  call_kept op xs h n (Ty-F.List t) e = e
  call_kept op xs h n (Ty-F.Map k t) e = e
  call_kept op xs h n (Ty-F.Ref t) e = e

  ref_kept : (n : ℕ) (v : Value) → ((t : Ty) → fits free vars ops v t ≡ true → fits later vars ops (substituted rs v) t ≡ true) → (x : Ty-F Ty)
      → fits_level free vars ops (Value-F.Ref n (test v)) x ≡ true → fits_level later vars ops (Value-F.Ref n (afterwards (substituted rs v))) x ≡ true
  ref_kept n v h (Ty-F.Ref t) e =
      ap (λ b. b && afterwards (substituted rs v) t) (both_first (is_ty (numbered vars n) t) _ e) ∙ h t (both_second (is_ty (numbered vars n) t) _ e)
  ref_kept n v h Ty-F.Int e = e
  ref_kept n v h Ty-F.Bool e = e
  ref_kept n v h Ty-F.Text e = e
  ref_kept n v h (Ty-F.Tuple t) e = e
  ref_kept n v h (Ty-F.List t) e = e
  ref_kept n v h (Ty-F.Map k t) e = e
  ref_kept n v h Ty-F.Call e = e

  -- a value without parts fits the same types, whatever may stand open
  int_same : (n : ℤ) (x : Ty-F Ty) → fits_level later vars ops (Value-F.Int n) x ≡ fits_level free vars ops (Value-F.Int n) x
  int_same n Ty-F.Int = refl
  int_same n Ty-F.Bool = refl
  int_same n Ty-F.Text = refl
  int_same n (Ty-F.Tuple ts) = refl
  int_same n (Ty-F.List s) = refl
  int_same n (Ty-F.Map k s) = refl
  int_same n (Ty-F.Ref s) = refl
  int_same n Ty-F.Call = refl

  truth_same : (b : Bool) (x : Ty-F Ty) → fits_level later vars ops (Value-F.Bool b) x ≡ fits_level free vars ops (Value-F.Bool b) x
  truth_same b Ty-F.Int = refl
  truth_same b Ty-F.Bool = refl
  truth_same b Ty-F.Text = refl
  truth_same b (Ty-F.Tuple ts) = refl
  truth_same b (Ty-F.List s) = refl
  truth_same b (Ty-F.Map k s) = refl
  truth_same b (Ty-F.Ref s) = refl
  truth_same b Ty-F.Call = refl

  text_same : (bs : List ℕ) (x : Ty-F Ty) → fits_level later vars ops (Value-F.Text bs) x ≡ fits_level free vars ops (Value-F.Text bs) x
  text_same bs Ty-F.Int = refl
  text_same bs Ty-F.Bool = refl
  text_same bs Ty-F.Text = refl
  text_same bs (Ty-F.Tuple ts) = refl
  text_same bs (Ty-F.List s) = refl
  text_same bs (Ty-F.Map k s) = refl
  text_same bs (Ty-F.Ref s) = refl
  text_same bs Ty-F.Call = refl

  -- what a whole knows its parts know
  tuple_knows : (xs : List Value) → Knows (Tuple xs) → KnowsAll rs xs
  tuple_knows xs n k e = sym (holds-Tuple (suc k) xs) ∙ n k e

  list_knows : (xs : List Value) → Knows (ListOf xs) → KnowsAll rs xs
  list_knows xs n k e = sym (holds-ListOf (suc k) xs) ∙ n k e

  map_knows : (ks : List Key) (xs : List Value) → Knows (MapOf ks xs) → KnowsAll rs xs
  map_knows ks xs n k e = sym (holds-MapOf (suc k) ks xs) ∙ n k e

  call_knows : (op : ℕ) (xs : List Value) → Knows (Call op xs) → KnowsAll rs xs
  call_knows op xs n k e = sym (holds-Call (suc k) op xs) ∙ n k e

  ref_knows : (m : ℕ) (v : Value) → Knows (Ref m v) → Knows v
  ref_knows m v n k e = or_second (nat_eq m (suc k)) (holds (suc k) v) (sym (holds-Ref (suc k) m v) ∙ n k e)

  fits-substituted : (v : Value) → Kept v
  fits-substituted = value_induction Kept (record {
    int = λ n q t e. ap (λ v. afterwards v t) (substituted-Int rs n) ∙ fits-Int later vars ops n t ∙ int_same n (out-Ty t) ∙ sym (fits-Int free vars ops n t) ∙ e;
    truth = λ b q t e. ap (λ v. afterwards v t) (substituted-Truth rs b) ∙ fits-Truth later vars ops b t ∙ truth_same b (out-Ty t) ∙ sym (fits-Truth free vars ops b t) ∙ e;
    text = λ bs q t e. ap (λ v. afterwards v t) (substituted-Text rs bs) ∙ fits-Text later vars ops bs t ∙ text_same bs (out-Ty t) ∙ sym (fits-Text free vars ops bs t) ∙ e;
    tuple = λ xs h q t e. ap (λ v. afterwards v t) (substituted-Tuple rs xs) ∙ fits-Tuple later vars ops (map (substituted rs) xs) t ∙ tuple_kept xs h (tuple_knows xs q) (out-Ty t) (sym (fits-Tuple free vars ops xs t) ∙ e);
    items = λ xs h q t e. ap (λ v. afterwards v t) (substituted-ListOf rs xs) ∙ fits-ListOf later vars ops (map (substituted rs) xs) t ∙ list_kept xs h (list_knows xs q) (out-Ty t) (sym (fits-ListOf free vars ops xs t) ∙ e);
    maps = λ ks xs h q t e. ap (λ v. afterwards v t) (substituted-MapOf rs ks xs) ∙ fits-MapOf later vars ops ks (map (substituted rs) xs) t ∙ map_kept ks xs h (map_knows ks xs q) (out-Ty t) (sym (fits-MapOf free vars ops ks xs t) ∙ e);
    var = λ n q t e. ap (λ v. afterwards v t) (substituted-Var rs n) ∙ var_kept n t q e;
    ref = λ n v h q t e. ap (λ v. afterwards v t) (substituted-Ref rs n v) ∙ fits-Ref later vars ops n (substituted rs v) t ∙ ref_kept n v (h (ref_knows n v q)) (out-Ty t) (sym (fits-Ref free vars ops n v t) ∙ e);
    call = λ op xs h q t e. ap (λ v. afterwards v t) (substituted-Call rs op xs) ∙ fits-Call later vars ops op (map (substituted rs) xs) t ∙ call_kept op xs h (call_knows op xs q) (out-Ty t) (sym (fits-Call free vars ops op xs t) ∙ e);
  })

  pub arguments_fit : (args : List Value) (ts : List Ty) → KnowsAll rs args → fit_each (map (fits vars vars ops) args) ts ≡ true → fit_each (map (fits [] vars ops) (map (substituted rs) args)) ts ≡ true
  arguments_fit [] ts n h = h
  arguments_fit (v ∷ vs) [] n h = h
  arguments_fit (v ∷ vs) (t ∷ ts) n h =
      let p : fits [] vars ops (substituted rs v) t ≡ true = fits-substituted v (head_knows v vs n) t (both_first (fits vars vars ops v t) _ h) in
      ap (λ b. b && fit_each (map (fits [] vars ops) (map (substituted rs) vs)) ts) p ∙ arguments_fit vs ts (rest_knows v vs n) (both_second (fits vars vars ops v t) _ h)
