-- A command whose variables have results, or that is called, needs no missing result.
use Rattle.std.proofs.Common.{◌≡◌, ◌||◌, ℕ, suc, ◌+◌, ◌<◌, ◌≤◌, nat_eq, Bool, true, false, List, [], ◌∷◌, map, Option, Some, None, slice_get, refl, sym, ap, ◌∙◌, subst, arith, true≢false}
use Rattle.std.specs.Prelude.{◌==◌, ◌&&◌, nat_le, nat_lt}
use Rattle.std.specs.List.{AllByRecursion, list_any}
use Rattle.std.proofs.lemmas.Bool.Decides.{nat_tests}
use Rattle.pst_case.proofs.Variables.{var-Int, var-Truth, var-Text, var-Tuple, var-ListOf, var-MapOf, var-Var, var-Ref, var-Call, reference-Tuple, reference-ListOf, reference-MapOf, reference-Ref, reference-Call}
use Rattle.pst_case.specs.Shape.{holds_var, holds_reference, is_forward, is_cross}
use Rattle.pst_driver.specs.Driven.{real_argument}
use Rattle.pst_judge.specs.UnknownCalls.{needs_missing}
use Rattle.pst_value.proofs.Forms.{value_induction}
use Rattle.pst_value.proofs.Holding.{holds-Int, holds-Truth, holds-Text, holds-Tuple, holds-ListOf, holds-MapOf, holds-Var, holds-Call}
use Rattle.pst_value.proofs.Substituting.{substituted-Tuple, substituted-ListOf, substituted-MapOf, substituted-Var, substituted-Ref, substituted-Call, plain_of-Tuple, plain_of-ListOf, plain_of-MapOf, plain_of-Var, plain_of-Ref, plain_of-Call}
use Rattle.pst_value.specs.Holds.{holds}
use Rattle.pst_value.specs.Subst.{substituted, plain_of, known, named}
use Rattle.pst_value.specs.declared.value.Value.{Value}

pub or_first : (a b : Bool) → (a || b) ≡ false → a ≡ false
or_first true b h = h
or_first false b h = refl

pub or_second : (a b : Bool) → (a || b) ≡ false → b ≡ false
or_second true b h = absurd (cc)
or_second false b h = h

or_is : (a b : Bool) → b ≡ true → (a || b) ≡ true
or_is true b h = refl
or_is false b h = h

pub neither : (a b : Bool) → a ≡ false → b ≡ false → (a || b) ≡ false
neither true b e h = e
neither false b e h = h

-- ---- a value that holds no variable of a test

module _ (Q : ℕ → Bool) (k : ℕ) (is : Q k ≡ true) where
  abbrev Lacks : Value → Type 0
  Lacks v = holds_var Q v ≡ false → holds_reference v ≡ false → holds k v ≡ false

  any_lacks : (xs : List Value) → AllByRecursion Lacks xs → list_any (holds_var Q) xs ≡ false → list_any holds_reference xs ≡ false
      → list_any (holds k) xs ≡ false
  any_lacks [] h q r = refl
  any_lacks (x ∷ xs) h q r =
      neither (holds k x) (list_any (holds k) xs)
      (h.0 (or_first (holds_var Q x) _ q) (or_first (holds_reference x) _ r))
      (any_lacks xs h.1 (or_second (holds_var Q x) _ q) (or_second (holds_reference x) _ r))

  other : (n : ℕ) (same : Bool) → nat_eq n k ≡ same → Q n ≡ false → same ≡ false
  other n true e q =
      let s : n ≡ k = grind (arith, nat_tests) in
      absurd (true≢false (sym is ∙ (ap Q (sym s) ∙ q)))
  other n false e q = refl

  value_lacks : (v : Value) → Lacks v
  value_lacks = value_induction Lacks (record {
    int = λ n q r. holds-Int k n;
    truth = λ b q r. holds-Truth k b;
    text = λ t q r. holds-Text k t;
    tuple = λ xs h q r. holds-Tuple k xs ∙ any_lacks xs h (sym (var-Tuple Q xs) ∙ q) (sym (reference-Tuple xs) ∙ r);
    items = λ xs h q r. holds-ListOf k xs ∙ any_lacks xs h (sym (var-ListOf Q xs) ∙ q) (sym (reference-ListOf xs) ∙ r);
    maps = λ ks xs h q r. holds-MapOf k ks xs ∙ any_lacks xs h (sym (var-MapOf Q ks xs) ∙ q) (sym (reference-MapOf ks xs) ∙ r);
    var = λ n q r. holds-Var k n ∙ other n (nat_eq n k) refl (sym (var-Var Q n) ∙ q);
    ref = λ n v h q r. absurd (true≢false (sym (reference-Ref n v) ∙ r));
    call = λ op xs h q r. holds-Call k op xs ∙ any_lacks xs h (sym (var-Call Q op xs) ∙ q) (sym (reference-Call op xs) ∙ r);
  })

  pub none_held : (args : List Value) → list_any (holds_var Q) args ≡ false → list_any holds_reference args ≡ false → list_any (holds k) args ≡ false
  none_held [] q r = refl
  none_held (x ∷ xs) q r =
      neither (holds k x) (list_any (holds k) xs)
      (value_lacks x (or_first (holds_var Q x) _ q) (or_first (holds_reference x) _ r))
      (none_held xs (or_second (holds_var Q x) _ q) (or_second (holds_reference x) _ r))

-- ---- missing results

abbrev pub is_missing : Option Value → Bool
is_missing None = true
is_missing (Some v) = false

missing_or_not : (o : Option Value) → o ≡ None → is_missing o ≡ true
missing_or_not o e = ap is_missing e

needs_none : (number : ℕ) (results : List (Option Value)) (args : List Value)
    → ((k : ℕ) → slice_get results k ≡ Some None → list_any (holds (number + k)) args ≡ false)
    → needs_missing number results args ≡ false
needs_none number [] args h = refl
needs_none number (Some v ∷ results) args h =
    needs_none (number + 1) results args (λ k e.
    let q : number + suc k ≡ number + 1 + k = omega arith in
    subst (λ (n : ℕ). list_any (holds n) args ≡ false) q (h (suc k) e))
needs_none number (None ∷ results) args h =
    let q : number + 0 ≡ number = omega arith in
    neither (list_any (holds number) args) (needs_missing (number + 1) results args)
    (subst (λ (n : ℕ). list_any (holds n) args ≡ false) q (h 0 refl))
    (needs_none (number + 1) results args (λ k e.
    let q : number + suc k ≡ number + 1 + k = omega arith in
    subst (λ (n : ℕ). list_any (holds n) args ≡ false) q (h (suc k) e)))

-- arguments that hold no variable whose result is missing
needs_none_of : (results : List (Option Value)) (args : List Value)
    → ((k : ℕ) → is_missing (known results (suc k)) ≡ true → list_any (holds (suc k)) args ≡ false)
    → needs_missing 1 results args ≡ false
needs_none_of results args h =
    needs_none 1 results args (λ k e.
    let q : suc k ≡ 1 + k = omega arith in
    subst (λ (n : ℕ). list_any (holds n) args ≡ false) q (h k (rw e refl)))

-- ---- a command that is called

module _ (results : List (Option Value)) where
  abbrev missing : ℕ → Bool
  missing n = is_missing (known results n)

  abbrev any : ℕ → Bool
  any = is_forward 0

  any_is : (n : ℕ) → any n ≡ true
  any_is n = or_is (n == 0) (nat_le 0 n) (grind (arith, nat_tests))

  abbrev Shows : Value → Type 0
  Shows v = holds_var any (real_argument results v) ≡ false → holds_var missing v ≡ false

  any_shows : (xs : List Value) → AllByRecursion Shows xs → list_any (holds_var any) (map plain_of (map (substituted results) xs)) ≡ false
      → list_any (holds_var missing) xs ≡ false
  any_shows [] h q = refl
  any_shows (x ∷ xs) h q =
      neither (holds_var missing x) (list_any (holds_var missing) xs)
      (h.0 (or_first (holds_var any (real_argument results x)) _ q))
      (any_shows xs h.1 (or_second (holds_var any (real_argument results x)) _ q))

  var_shows : (n : ℕ) (o : Option Value) → known results n ≡ o → holds_var any (plain_of (named n o)) ≡ false → is_missing o ≡ false
  var_shows n None e q = absurd (true≢false (sym (ap (holds_var any) (plain_of-Var n) ∙ var-Var any n ∙ any_is n) ∙ q))
  var_shows n (Some v) e q = refl

  value_shows : (v : Value) → Shows v
  value_shows = value_induction Shows (record {
    int = λ n q. var-Int missing n;
    truth = λ b q. var-Truth missing b;
    text = λ t q. var-Text missing t;
    tuple = λ xs h q. var-Tuple missing xs
        ∙ any_shows xs h (sym (ap (holds_var any) (ap plain_of (substituted-Tuple results xs) ∙ plain_of-Tuple (map (substituted results) xs)) ∙ var-Tuple any (map plain_of (map (substituted results) xs))) ∙ q);
    items = λ xs h q. var-ListOf missing xs
        ∙ any_shows xs h (sym (ap (holds_var any) (ap plain_of (substituted-ListOf results xs) ∙ plain_of-ListOf (map (substituted results) xs)) ∙ var-ListOf any (map plain_of (map (substituted results) xs))) ∙ q);
    maps = λ ks xs h q. var-MapOf missing ks xs
        ∙ any_shows xs h (sym (ap (holds_var any) (ap plain_of (substituted-MapOf results ks xs) ∙ plain_of-MapOf ks (map (substituted results) xs)) ∙ var-MapOf any ks (map plain_of (map (substituted results) xs))) ∙ q);
    var = λ n q. var-Var missing n ∙ var_shows n (known results n) refl (sym (ap (λ v. holds_var any (plain_of v)) (substituted-Var results n)) ∙ q);
    ref = λ n v h q. var-Ref missing n v
        ∙ h (sym (ap (holds_var any) (ap plain_of (substituted-Ref results n v) ∙ plain_of-Ref n (substituted results v))) ∙ q);
    call = λ op xs h q. var-Call missing op xs
        ∙ any_shows xs h (sym (ap (holds_var any) (ap plain_of (substituted-Call results op xs) ∙ plain_of-Call op (map (substituted results) xs)) ∙ var-Call any op (map plain_of (map (substituted results) xs))) ∙ q);
  })

  arguments_show : (args : List Value) → list_any (holds_var any) (map (real_argument results) args) ≡ false → list_any (holds_var missing) args ≡ false
  arguments_show [] q = refl
  arguments_show (x ∷ xs) q =
      neither (holds_var missing x) (list_any (holds_var missing) xs)
      (value_shows x (or_first (holds_var any (real_argument results x)) _ q))
      (arguments_show xs (or_second (holds_var any (real_argument results x)) _ q))

  -- a call in whose arguments no variable is left needs no missing result
  pub called_needs_none : (args : List Value) → list_any (holds_var (is_forward 0)) (map (real_argument results) args) ≡ false
      → list_any holds_reference args ≡ false → needs_missing 1 results args ≡ false
  called_needs_none args q r =
      needs_none_of results args (λ k e. none_held missing (suc k) e args (arguments_show args q) r)

-- ---- a command whose earlier commands have results

-- The earlier commands of the prefix and of the own part have results: p commands are in the prefix, b before the part, and
-- the command is the n-th.
pub record Present (p b n : ℕ) (results : List (Option Value)) : Type 0 where
  pub there : (k : ℕ) → 0 < k → k < n → (k ≤ b → k ≤ p) → is_missing (known results k) ≡ false

positive : (k : ℕ) → (k == 0) ≡ false → 0 < k
positive k h = grind (arith, nat_tests)

below : (n k : ℕ) → nat_le n k ≡ false → k < n
below n k h = grind (arith, nat_tests)

near : (p b k : ℕ) → (nat_lt p k && nat_le k b) ≡ false → k ≤ b → k ≤ p
near p b k h l = grind (arith, nat_tests)

module _ (p b n : ℕ) (results : List (Option Value)) (present : Present p b n results) (args : List Value)
    (forward : list_any (holds_var (is_forward n)) args ≡ false) (cross : list_any (holds_var (is_cross p b)) args ≡ false)
    (plain : list_any holds_reference args ≡ false) where
  not_held : (k : ℕ) (late apart : Bool) → is_forward n k ≡ late → is_cross p b k ≡ apart → is_missing (known results k) ≡ true → list_any (holds k) args ≡ false
  not_held k true apart f c gone = none_held (is_forward n) k f args forward plain
  not_held k false true f c gone = none_held (is_cross p b) k c args cross plain
  not_held k false false f c gone =
      let here : is_missing (known results k) ≡ false =
      present.there k (positive k (or_first (k == 0) _ f)) (below n k (or_second (k == 0) _ f)) (near p b k c) in
      absurd (true≢false (sym gone ∙ here))

  pub present_needs_none : needs_missing 1 results args ≡ false
  present_needs_none =
      needs_none_of results args (λ k e. not_held (suc k) (is_forward n (suc k)) (is_cross p b (suc k)) refl refl e)
