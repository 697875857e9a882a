-- No code begins another, so a code tells its value, and where it ends.
use Rattle.std.proofs.Common.{◌≡◌, ℕ, ℤ, pos, negsuc, ◌+◌, nat_lt, Bool, true, false, List, [], ◌∷◌, ◌++◌, length, map, if◌then◌else◌, refl, sym, ap, ◌∙◌, arith, append_assoc}
use Rattle.std.specs.List.{AllByRecursion, flat_map}
use Rattle.pst_value.proofs.Forms.{Cases, value_induction}
use Rattle.pst_value.specs.declared.key.Key.{Key}
use Rattle.pst_value.specs.declared.key.Key.TheVariants as key
use Rattle.pst_value.specs.declared.value.Value.{Value, Int, Text, Tuple, List as ListOf, Map as MapOf, Var, Ref, Call, Bool as Truth, fold-roll-Value, map-Value, roll-Value, out-Value, roll-out-Value}
use Rattle.pst_value.specs.declared.value.Value.TheVariants.{rolls-Int, rolls-Bool, rolls-Text, rolls-Tuple, rolls-List, rolls-Map, rolls-Var, rolls-Ref, rolls-Call}
use Rattle.pst_value.specs.declared.value.Value.TheOpen.{Value-F}
use Rattle.pst_judge.proofs.Coding.{codes_by-map, code-Int, code-Truth, code-Text, code-Tuple, code-ListOf, code-MapOf, code-Var, code-Ref, code-Call}
use Rattle.pst_judge.proofs.Numbers.{number_code-apart}
use Rattle.pst_judge.specs.Codes.{number_code, codes_by, code_of_int, code_of_truth, code_of_text, code_of_key, code_level, code}

-- whatever follows the codes of `a` and of another: where all is the same, both parts are
abbrev pub IsApart : {A : Type 0} → (A → List ℕ) → A → Type 0
IsApart code_of a = (b : _) (x y : List ℕ) → code_of a ++ x ≡ code_of b ++ y → (a ≡ b) × (x ≡ y)

abbrev tail : List ℕ → List ℕ
tail [] = []
tail (b ∷ bytes) = bytes

-- three parts, of which the last two belong together
regrouped : (p q r s t u : List ℕ) → (p ++ q) ++ r ≡ (s ++ t) ++ u → p ++ (q ++ r) ≡ s ++ (t ++ u)
regrouped p q r s t u e = sym (append_assoc p q r) ∙ e ∙ append_assoc s t u

bytes-apart : (a b x y : List ℕ) → length a ≡ length b → a ++ x ≡ b ++ y → (a ≡ b) × (x ≡ y)
bytes-apart [] [] x y long e = (refl, e)
bytes-apart [] (b ∷ others) x y long e = absurd (omega arith)
bytes-apart (a ∷ more) [] x y long e = absurd (omega arith)
bytes-apart (a ∷ more) (b ∷ others) x y long e =
    let p : a ≡ b = cc in
    let t : more ++ x ≡ others ++ y = ap tail e in
    let r : (more ≡ others) × (x ≡ y) = bytes-apart more others x y (omega arith) t in
    let q : more ≡ others = r.0 in
    let whole : a ∷ more ≡ b ∷ others = cc in
    (whole, r.1)

int-apart : (m n : ℤ) (x y : List ℕ) → code_of_int m ++ x ≡ code_of_int n ++ y → (m ≡ n) × (x ≡ y)
int-apart (pos m) (pos n) x y e = let r = number_code-apart m n x y (ap tail e) in (ap pos r.0, r.1)
int-apart (pos m) (negsuc n) x y e = let p : ◌≡◌ {A = ℕ} 0 1 = cc in absurd (omega arith)
int-apart (negsuc m) (pos n) x y e = let p : ◌≡◌ {A = ℕ} 1 0 = cc in absurd (omega arith)
int-apart (negsuc m) (negsuc n) x y e =
    let r = number_code-apart (m + 1) (n + 1) x y (ap tail e) in
    let p : m ≡ n = omega (arith, r.0) in
    (ap negsuc p, r.1)

truth-apart : (b c : Bool) (x y : List ℕ) → code_of_truth b ++ x ≡ code_of_truth c ++ y → (b ≡ c) × (x ≡ y)
truth-apart true true x y e = (refl, ap tail e)
truth-apart true false x y e = let p : ◌≡◌ {A = ℕ} 3 2 = cc in absurd (omega arith)
truth-apart false true x y e = let p : ◌≡◌ {A = ℕ} 2 3 = cc in absurd (omega arith)
truth-apart false false x y e = (refl, ap tail e)

text-apart : (a b x y : List ℕ) → code_of_text a ++ x ≡ code_of_text b ++ y → (a ≡ b) × (x ≡ y)
text-apart a b x y e =
    let r = number_code-apart (length a) (length b) (a ++ x) (b ++ y) (regrouped (number_code (length a)) a x (number_code (length b)) b y (ap tail e)) in
    bytes-apart a b x y r.0 r.1

-- the kind of a value by the first byte of its code
abbrev kind_of : List ℕ → ℕ
kind_of [] = 0
kind_of (tag ∷ bytes) = if nat_lt tag 2 then 0 else (if nat_lt tag 4 then 3 else tag)

abbrev kind_of_key : Key → ℕ
kind_of_key (key.Int n) = 0
kind_of_key (key.Bool b) = 3
kind_of_key (key.Text t) = 4

abbrev kind : {A : Type 0} → Value-F A → ℕ
kind (Value-F.Int n) = 0
kind (Value-F.Bool b) = 3
kind (Value-F.Text t) = 4
kind (Value-F.Tuple xs) = 5
kind (Value-F.List xs) = 6
kind (Value-F.Map ks xs) = 7
kind (Value-F.Var n) = 8
kind (Value-F.Ref n v) = 9
kind (Value-F.Call op xs) = 10

kind-int : (n : ℤ) (x : List ℕ) → kind_of (code_of_int n ++ x) ≡ 0
kind-int (pos n) x = refl
kind-int (negsuc n) x = refl

kind-truth : (b : Bool) (x : List ℕ) → kind_of (code_of_truth b ++ x) ≡ 3
kind-truth true x = refl
kind-truth false x = refl

kind-key : (k : Key) (x : List ℕ) → kind_of (code_of_key k ++ x) ≡ kind_of_key k
kind-key (key.Int n) x = kind-int n x
kind-key (key.Bool b) x = kind-truth b x
kind-key (key.Text t) x = refl

kind-level : (c : Value-F (List ℕ)) (x : List ℕ) → kind_of (code_level c ++ x) ≡ kind c
kind-level (Value-F.Int n) x = kind-int n x
kind-level (Value-F.Bool b) x = kind-truth b x
kind-level (Value-F.Text t) x = refl
kind-level (Value-F.Tuple cs) x = refl
kind-level (Value-F.List cs) x = refl
kind-level (Value-F.Map ks cs) x = refl
kind-level (Value-F.Var n) x = refl
kind-level (Value-F.Ref n c) x = refl
kind-level (Value-F.Call op cs) x = refl

key-step : (a b : Key) (x y : List ℕ) → kind_of_key a ≡ kind_of_key b → code_of_key a ++ x ≡ code_of_key b ++ y → (a ≡ b) × (x ≡ y)
key-step (key.Int m) (key.Int n) x y k e = let r = int-apart m n x y e in (ap key.Int r.0, r.1)
key-step (key.Bool b) (key.Bool c) x y k e = let r = truth-apart b c x y e in (ap key.Bool r.0, r.1)
key-step (key.Text s) (key.Text t) x y k e = let r = text-apart s t x y e in (ap key.Text r.0, r.1)
key-step _ _ x y k e = absurd (omega arith)

key-apart : (a : Key) → IsApart code_of_key a
key-apart a b x y e = key-step a b x y (sym (kind-key a x) ∙ ap kind_of e ∙ kind-key b y) e

each-apart : (ks : List Key) → AllByRecursion (IsApart code_of_key) ks
each-apart [] = tt
each-apart (k ∷ ks) = (key-apart k, each-apart ks)

module _ {A : Type 0} (f : A → List ℕ) where
  all-apart : (xs : List A) → AllByRecursion (IsApart f) xs → (ys : List A) (x y : List ℕ) → length xs ≡ length ys
      → flat_map f xs ++ x ≡ flat_map f ys ++ y → (xs ≡ ys) × (x ≡ y)
  all-apart [] h [] x y long e = (refl, e)
  all-apart [] h (b ∷ others) x y long e = absurd (omega arith)
  all-apart (a ∷ more) h [] x y long e = absurd (omega arith)
  all-apart (a ∷ more) h (b ∷ others) x y long e =
      let r = h.0 b (flat_map f more ++ x) (flat_map f others ++ y) (regrouped (f a) (flat_map f more) x (f b) (flat_map f others) y e) in
      let p : a ≡ b = r.0 in
      let s = all-apart more h.1 others x y (omega arith) r.1 in
      let q : more ≡ others = s.0 in
      let whole : a ∷ more ≡ b ∷ others = cc in
      (whole, s.1)

  codes-apart : (xs : List A) → AllByRecursion (IsApart f) xs → (ys : List A) (x y : List ℕ) → codes_by f xs ++ x ≡ codes_by f ys ++ y → (xs ≡ ys) × (x ≡ y)
  codes-apart xs h ys x y e =
      let r = number_code-apart (length xs) (length ys) (flat_map f xs ++ x) (flat_map f ys ++ y)
      (regrouped (number_code (length xs)) (flat_map f xs) x (number_code (length ys)) (flat_map f ys) y e) in
      all-apart xs h ys x y r.0 r.1

abbrev coded : Value-F Value → List ℕ
coded b = code_level (map-Value Value (List ℕ) code b)

-- `c` is the code of no other value than `a`
abbrev IsCodeOf : List ℕ → Value → Type 0
IsCodeOf c a = (b : Value-F Value) (x y : List ℕ) → kind_of (c ++ x) ≡ kind b → c ++ x ≡ coded b ++ y → (a ≡ roll-Value b) × (x ≡ y)

kind-map : (b : Value-F Value) → kind (map-Value Value (List ℕ) code b) ≡ kind b
kind-map (Value-F.Int n) = refl
kind-map (Value-F.Bool t) = refl
kind-map (Value-F.Text t) = refl
kind-map (Value-F.Tuple xs) = refl
kind-map (Value-F.List xs) = refl
kind-map (Value-F.Map ks xs) = refl
kind-map (Value-F.Var n) = refl
kind-map (Value-F.Ref n v) = refl
kind-map (Value-F.Call op xs) = refl

code-out : (b : Value) → code b ≡ coded (out-Value b)
unfolding code
code-out b = ap code (sym (roll-out-Value b)) ∙ fold-roll-Value (List ℕ) code_level (out-Value b)

of_form : (a : Value) (c : List ℕ) → code a ≡ c → IsCodeOf c a → IsApart code a
of_form a c is h b x y e =
    let whole : c ++ x ≡ coded (out-Value b) ++ y = ap (λ z. z ++ x) (sym is) ∙ e ∙ ap (λ z. z ++ y) (code-out b) in
    let k : kind_of (c ++ x) ≡ kind (out-Value b) = ap kind_of whole ∙ kind-level (map-Value Value (List ℕ) code (out-Value b)) y ∙ kind-map (out-Value b) in
    let r = h (out-Value b) x y k whole in
    (r.0 ∙ roll-out-Value b, r.1)

abbrev AllApart : List Value → Type 0
AllApart xs = AllByRecursion (IsApart code) xs

int-code : (n : ℤ) → IsCodeOf (code_of_int n) (Int n)
int-code n (Value-F.Int m) x y k e = let r = int-apart n m x y e in (ap Int r.0 ∙ sym (rolls-Int m), r.1)
int-code n _ x y k e = let same = sym (kind-int n x) ∙ k in absurd (omega (arith, same))

truth-code : (b : Bool) → IsCodeOf (code_of_truth b) (Truth b)
truth-code b (Value-F.Bool c) x y k e = let r = truth-apart b c x y e in (ap Truth r.0 ∙ sym (rolls-Bool c), r.1)
truth-code b _ x y k e = let same = sym (kind-truth b x) ∙ k in absurd (omega (arith, same))

text-code : (t : List ℕ) → IsCodeOf (code_of_text t) (Text t)
text-code t (Value-F.Text s) x y k e = let r = text-apart t s x y e in (ap Text r.0 ∙ sym (rolls-Text s), r.1)
text-code t _ x y k e = absurd (omega (arith, k))

-- values that stand as their codes in a longer list of bytes
values-apart : (xs : List Value) → AllApart xs → (ys : List Value) (x y : List ℕ)
    → codes_by code xs ++ x ≡ codes_by (λ c. c) (map code ys) ++ y → (xs ≡ ys) × (x ≡ y)
values-apart xs h ys x y e = codes-apart code xs h ys x y (e ∙ ap (λ z. z ++ y) (codes_by-map code ys))

tuple-code : (xs : List Value) → AllApart xs → IsCodeOf (5 ∷ codes_by code xs) (Tuple xs)
tuple-code xs h (Value-F.Tuple ys) x y k e = let r = values-apart xs h ys x y (ap tail e) in (ap Tuple r.0 ∙ sym (rolls-Tuple ys), r.1)
tuple-code xs h _ x y k e = absurd (omega (arith, k))

list-code : (xs : List Value) → AllApart xs → IsCodeOf (6 ∷ codes_by code xs) (ListOf xs)
list-code xs h (Value-F.List ys) x y k e = let r = values-apart xs h ys x y (ap tail e) in (ap ListOf r.0 ∙ sym (rolls-List ys), r.1)
list-code xs h _ x y k e = absurd (omega (arith, k))

map-code : (ks : List Key) (xs : List Value) → AllApart xs → IsCodeOf (7 ∷ (codes_by code_of_key ks ++ codes_by code xs)) (MapOf ks xs)
map-code ks xs h (Value-F.Map ls ys) x y k e =
    let r = codes-apart code_of_key ks (each-apart ks) ls (codes_by code xs ++ x) (codes_by (λ c. c) (map code ys) ++ y)
    (regrouped (codes_by code_of_key ks) (codes_by code xs) x (codes_by code_of_key ls) (codes_by (λ c. c) (map code ys)) y (ap tail e)) in
    let s = values-apart xs h ys x y r.1 in
    ((λ i. MapOf (r.0 i) (s.0 i)) ∙ sym (rolls-Map ls ys), s.1)
map-code ks xs h _ x y k e = absurd (omega (arith, k))

var-code : (n : ℕ) → IsCodeOf (8 ∷ number_code n) (Var n)
var-code n (Value-F.Var m) x y k e = let r = number_code-apart n m x y (ap tail e) in (ap Var r.0 ∙ sym (rolls-Var m), r.1)
var-code n _ x y k e = absurd (omega (arith, k))

ref-code : (n : ℕ) (v : Value) → IsApart code v → IsCodeOf (9 ∷ (number_code n ++ code v)) (Ref n v)
ref-code n v h (Value-F.Ref m w) x y k e =
    let r = number_code-apart n m (code v ++ x) (code w ++ y) (regrouped (number_code n) (code v) x (number_code m) (code w) y (ap tail e)) in
    let s = h w x y r.1 in
    ((λ i. Ref (r.0 i) (s.0 i)) ∙ sym (rolls-Ref m w), s.1)
ref-code n v h _ x y k e = absurd (omega (arith, k))

call-code : (op : ℕ) (xs : List Value) → AllApart xs → IsCodeOf (10 ∷ (number_code op ++ codes_by code xs)) (Call op xs)
call-code op xs h (Value-F.Call other ys) x y k e =
    let r = number_code-apart op other (codes_by code xs ++ x) (codes_by (λ c. c) (map code ys) ++ y)
    (regrouped (number_code op) (codes_by code xs) x (number_code other) (codes_by (λ c. c) (map code ys)) y (ap tail e)) in
    let s = values-apart xs h ys x y r.1 in
    ((λ i. Call (r.0 i) (s.0 i)) ∙ sym (rolls-Call other ys), s.1)
call-code op xs h _ x y k e = absurd (omega (arith, k))

cases : Cases (IsApart code)
cases = record {
  int = λ n. of_form (Int n) (code_of_int n) (code-Int n) (int-code n);
  truth = λ b. of_form (Truth b) (code_of_truth b) (code-Truth b) (truth-code b);
  text = λ t. of_form (Text t) (code_of_text t) (code-Text t) (text-code t);
  tuple = λ xs h. of_form (Tuple xs) (5 ∷ codes_by code xs) (code-Tuple xs) (tuple-code xs h);
  items = λ xs h. of_form (ListOf xs) (6 ∷ codes_by code xs) (code-ListOf xs) (list-code xs h);
  maps = λ ks xs h. of_form (MapOf ks xs) (7 ∷ (codes_by code_of_key ks ++ codes_by code xs)) (code-MapOf ks xs) (map-code ks xs h);
  var = λ n. of_form (Var n) (8 ∷ number_code n) (code-Var n) (var-code n);
  ref = λ n v h. of_form (Ref n v) (9 ∷ (number_code n ++ code v)) (code-Ref n v) (ref-code n v h);
  call = λ op xs h. of_form (Call op xs) (10 ∷ (number_code op ++ codes_by code xs)) (code-Call op xs) (call-code op xs h);
}

-- two values with what follows their codes: where the bytes are the same, the values are, and what follows is
pub code-apart : (a b : Value) (x y : List ℕ) → code a ++ x ≡ code b ++ y → (a ≡ b) × (x ≡ y)
code-apart a = value_induction (IsApart code) cases a
