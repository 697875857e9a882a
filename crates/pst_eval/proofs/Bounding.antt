-- An operator on values that reach so far gives, without a fault, a value that reaches so far, or is stuck.
use Rattle.std.proofs.Common.{◌≡◌, ◌≤◌, ◌<◌, ◌+◌, ◌^◌, ◌+ℤ◌, ◌-ℤ◌, unsigned_abs, ℕ, zero, suc, ℤ, pos, true, not, List, [], ◌∷◌, ◌++◌, length, map, Option, Some, None, refl, sym, ap, ◌∙◌, subst, arith, w64}
use Rattle.std.proofs.lemmas.Bool.{le-leb}
use Rattle.std.proofs.lemmas.Bool.Decides.{nat_tests}
use Rattle.std.proofs.lemmas.Int.{ints}
use Rattle.std.proofs.lemmas.List.{length-append, length-map}
use Rattle.std.specs.Int.RustNames.{FitsSigned}
use Rattle.std.specs.Prelude.{nat_le, nat_lt}
use Rattle.pst_model.specs.declared.expr.Binary.TheVariants.{Add, Sub, Less, LessEqual, Equal, Same, Append, Has, Del}
use Rattle.pst_model.specs.declared.expr.Unary.TheVariants.{Not, Len}
use Rattle.pst_operators.proofs.Places.{either}
use Rattle.pst_operators.specs.Maps.{key_at, with_key, with_value, without_key, without_value, put, put_at, put_key}
use Rattle.pst_operators.specs.Operators.{integer, same_number, number_of, item, item_at, unary, unary_at, binary, binary_at}
use Rattle.pst_operators.specs.Outcome.{Outcome, Gives, Faults, Stuck, and_then, or_stuck}
use Rattle.pst_eval.specs.Reach.{greater, greatest, reach_of_value, extent_at, farthest, NoFault, UpTo}
use Rattle.pst_value.proofs.Typing.{is_i64-fits}
use Rattle.pst_value.specs.Equality.{same_key}
use Rattle.pst_value.specs.Keys.{key_less}
use Rattle.pst_value.specs.Subst.{numbered}
use Rattle.pst_value.specs.Text.{is_i64}
use Rattle.pst_value.specs.declared.key.Key.{Key}
use Rattle.pst_value.specs.declared.value.Value.{Value, out-Value, roll-Value, roll-out-Value, fold-roll-Value, map-Value}
use Rattle.pst_value.specs.declared.value.Value.TheOpen.{Value-F}

abbrev pub Layer : Type 0
Layer = Value-F Value

-- how far a value reaches whose layer this is
abbrev pub far : Layer → ℕ
far d = extent_at (map-Value Value ℕ reach_of_value d)

pub extent_roll : (d : Layer) → reach_of_value (roll-Value d) ≡ far d
unfolding reach_of_value
extent_roll d = fold-roll-Value ℕ extent_at d

pub extent_out : (v : Value) → far (out-Value v) ≡ reach_of_value v
extent_out v = sym (extent_roll (out-Value v)) ∙ ap reach_of_value (roll-out-Value v)

-- of a value that is of this form
pub extent_is : (d : Layer) (v w : Value) → v ≡ w → roll-Value d ≡ w → reach_of_value v ≡ far d
extent_is d v w p q = ap reach_of_value (p ∙ sym q) ∙ extent_roll d

-- ---- the greater of two

pub greater_first : (a b : ℕ) → a ≤ greater a b
greater_first a b = either (nat_lt a b) (λ e. rw e (grind (arith, nat_tests))) (λ e. rw e (omega arith))

pub greater_second : (a b : ℕ) → b ≤ greater a b
greater_second a b = either (nat_lt a b) (λ e. rw e (omega arith)) (λ e. rw e (grind (arith, nat_tests)))

pub greater_least : (a b n : ℕ) → a ≤ n → b ≤ n → greater a b ≤ n
greater_least a b n h k = either (nat_lt a b) (λ e. rw e k) (λ e. rw e h)

pub greatest_extents : (vs : List Value) → greatest (map reach_of_value vs) ≡ farthest vs
greatest_extents [] = refl
greatest_extents (v ∷ vs) = ap (greater (reach_of_value v)) (greatest_extents vs)

-- ---- an outcome without turns

-- no fault
abbrev pub Fine : (Value → Type 0) → Outcome Value → Type 0
Fine P (Gives v) = P v
Fine P (Faults why) = ⊥
Fine P Stuck = Unit {0}

pub lifted : (P : Value → Type 0) (o : Outcome Value) (t : ℕ) → Fine P o → NoFault P (and_then o (λ a. Gives (a, t)))
lifted P (Gives v) t h = h
lifted P (Faults why) t h = h
lifted P Stuck t h = tt

pub fine_by : (P : Value → Type 0) (o p : Outcome Value) → o ≡ p → Fine P p → Fine P o
fine_by P o p e h = let C : Outcome Value → Type 0 = λ q. Fine P q in subst C (sym e) h

pub gives : (d : Layer) (n : ℕ) → far d ≤ n → Fine (UpTo n) (Gives (roll-Value d))
gives d n h = let e = extent_roll d in omega (arith, e, h)

-- ---- one operand

integer_fine : (z : ℤ) (n : ℕ) → unsigned_abs z ≤ n → n < 2 ^ 63 → Fine (UpTo n) (integer z)
integer_fine z n h l =
    let f : FitsSigned w64 z = omega (arith, ints, h, l) in
    let e : is_i64 z ≡ true = is_i64-fits z f in
    rw e (gives (Value-F.Int z) n h)

not_fine : (d : Layer) → Fine (UpTo 0) (unary_at Not d)
not_fine (Value-F.Int n) = tt
not_fine (Value-F.Bool b) = gives (Value-F.Bool (not b)) 0 (omega arith)
not_fine (Value-F.Text t) = tt
not_fine (Value-F.Tuple vs) = tt
not_fine (Value-F.List vs) = tt
not_fine (Value-F.Map ks vs) = tt
not_fine (Value-F.Var n) = tt
not_fine (Value-F.Ref n v) = tt
not_fine (Value-F.Call n vs) = tt

len_fine : (d : Layer) (n : ℕ) → far d ≤ n → n < 2 ^ 63 → Fine (UpTo n) (unary_at Len d)
len_fine (Value-F.Int z) n h l = tt
len_fine (Value-F.Bool b) n h l = tt
len_fine (Value-F.Text t) n h l = integer_fine (pos (length t)) n h l
len_fine (Value-F.Tuple vs) n h l = tt
len_fine (Value-F.List vs) n h l = let e = length-map vs reach_of_value in integer_fine (pos (length vs)) n (omega (arith, e, h)) l
len_fine (Value-F.Map ks vs) n h l = tt
len_fine (Value-F.Var k) n h l = tt
len_fine (Value-F.Ref k v) n h l = tt
len_fine (Value-F.Call k vs) n h l = tt

numbered_fine : (vs : List Value) (place n : ℕ) → farthest vs ≤ n → Fine (UpTo n) (or_stuck (numbered vs place))
numbered_fine [] zero n h = tt
numbered_fine [] (suc place) n h = tt
numbered_fine (v ∷ vs) zero n h = tt
numbered_fine (v ∷ vs) (suc zero) n h = let g = greater_first (reach_of_value v) (farthest vs) in omega (arith, g, h)
numbered_fine (v ∷ vs) (suc (suc place)) n h =
    let g = greater_second (reach_of_value v) (farthest vs) in numbered_fine vs (suc place) n (omega (arith, g, h))

item_fine : (place : ℕ) (d : Layer) (n : ℕ) → far d ≤ n → Fine (UpTo n) (item_at place d)
item_fine place (Value-F.Int z) n h = tt
item_fine place (Value-F.Bool b) n h = tt
item_fine place (Value-F.Text t) n h = tt
item_fine place (Value-F.Tuple vs) n h = let e = greatest_extents vs in numbered_fine vs place n (omega (arith, e, h))
item_fine place (Value-F.List vs) n h = tt
item_fine place (Value-F.Map ks vs) n h = tt
item_fine place (Value-F.Var k) n h = tt
item_fine place (Value-F.Ref k v) n h = tt
item_fine place (Value-F.Call k vs) n h = tt

-- ---- two operands

add_fine : (d e : Layer) (a b n : ℕ) → far d ≤ a → far e ≤ b → a + b ≤ n → n < 2 ^ 63 → Fine (UpTo n) (binary_at Add d e)
add_fine (Value-F.Int x) (Value-F.Int y) a b n h k s l = integer_fine (x +ℤ y) n (omega (arith, ints, h, k, s)) l
add_fine (Value-F.Int x) (Value-F.Bool y) a b n h k s l = tt
add_fine (Value-F.Int x) (Value-F.Text y) a b n h k s l = tt
add_fine (Value-F.Int x) (Value-F.Tuple y) a b n h k s l = tt
add_fine (Value-F.Int x) (Value-F.List y) a b n h k s l = tt
add_fine (Value-F.Int x) (Value-F.Map y z) a b n h k s l = tt
add_fine (Value-F.Int x) (Value-F.Var y) a b n h k s l = tt
add_fine (Value-F.Int x) (Value-F.Ref y z) a b n h k s l = tt
add_fine (Value-F.Int x) (Value-F.Call y z) a b n h k s l = tt
add_fine (Value-F.Bool x) e a b n h k s l = tt
add_fine (Value-F.Text x) e a b n h k s l = tt
add_fine (Value-F.Tuple x) e a b n h k s l = tt
add_fine (Value-F.List x) e a b n h k s l = tt
add_fine (Value-F.Map x y) e a b n h k s l = tt
add_fine (Value-F.Var x) e a b n h k s l = tt
add_fine (Value-F.Ref x y) e a b n h k s l = tt
add_fine (Value-F.Call x y) e a b n h k s l = tt

sub_fine : (d e : Layer) (a b n : ℕ) → far d ≤ a → far e ≤ b → a + b ≤ n → n < 2 ^ 63 → Fine (UpTo n) (binary_at Sub d e)
sub_fine (Value-F.Int x) (Value-F.Int y) a b n h k s l = integer_fine (x -ℤ y) n (omega (arith, ints, h, k, s)) l
sub_fine (Value-F.Int x) (Value-F.Bool y) a b n h k s l = tt
sub_fine (Value-F.Int x) (Value-F.Text y) a b n h k s l = tt
sub_fine (Value-F.Int x) (Value-F.Tuple y) a b n h k s l = tt
sub_fine (Value-F.Int x) (Value-F.List y) a b n h k s l = tt
sub_fine (Value-F.Int x) (Value-F.Map y z) a b n h k s l = tt
sub_fine (Value-F.Int x) (Value-F.Var y) a b n h k s l = tt
sub_fine (Value-F.Int x) (Value-F.Ref y z) a b n h k s l = tt
sub_fine (Value-F.Int x) (Value-F.Call y z) a b n h k s l = tt
sub_fine (Value-F.Bool x) e a b n h k s l = tt
sub_fine (Value-F.Text x) e a b n h k s l = tt
sub_fine (Value-F.Tuple x) e a b n h k s l = tt
sub_fine (Value-F.List x) e a b n h k s l = tt
sub_fine (Value-F.Map x y) e a b n h k s l = tt
sub_fine (Value-F.Var x) e a b n h k s l = tt
sub_fine (Value-F.Ref x y) e a b n h k s l = tt
sub_fine (Value-F.Call x y) e a b n h k s l = tt

texts_fine : (x y : List ℕ) (n : ℕ) → length x + length y ≤ n → n ≤ 65536 → Fine (UpTo n) (binary_at Append (Value-F.Text x) (Value-F.Text y))
texts_fine x y n h l =
    let e : nat_le (length x + length y) 65536 ≡ true = le-leb _ _ (omega (arith, h, l)) in
    rw e (gives (Value-F.Text (x ++ y)) n (let q = length-append x y in omega (arith, q, h)))

lists_fine : (x y : List Value) (n : ℕ) → length x + length y ≤ n → n ≤ 65536 → Fine (UpTo n) (binary_at Append (Value-F.List x) (Value-F.List y))
lists_fine x y n h l =
    let e : nat_le (length x + length y) 65536 ≡ true = le-leb _ _ (omega (arith, h, l)) in
    rw e (gives (Value-F.List (x ++ y)) n (let q = length-append x y in let r = length-map (x ++ y) reach_of_value in omega (arith, q, r, h)))

append_fine : (d e : Layer) (a b n : ℕ) → far d ≤ a → far e ≤ b → a + b ≤ n → n ≤ 65536 → Fine (UpTo n) (binary_at Append d e)
append_fine (Value-F.Text x) (Value-F.Text y) a b n h k s l = texts_fine x y n (omega (arith, h, k, s)) l
append_fine (Value-F.List x) (Value-F.List y) a b n h k s l = let p = length-map x reach_of_value in let q = length-map y reach_of_value in lists_fine x y n (omega (arith, p, q, h, k, s)) l
append_fine (Value-F.Text x) (Value-F.Int y) a b n h k s l = tt
append_fine (Value-F.Text x) (Value-F.Bool y) a b n h k s l = tt
append_fine (Value-F.Text x) (Value-F.Tuple y) a b n h k s l = tt
append_fine (Value-F.Text x) (Value-F.List y) a b n h k s l = tt
append_fine (Value-F.Text x) (Value-F.Map y z) a b n h k s l = tt
append_fine (Value-F.Text x) (Value-F.Var y) a b n h k s l = tt
append_fine (Value-F.Text x) (Value-F.Ref y z) a b n h k s l = tt
append_fine (Value-F.Text x) (Value-F.Call y z) a b n h k s l = tt
append_fine (Value-F.List x) (Value-F.Int y) a b n h k s l = tt
append_fine (Value-F.List x) (Value-F.Bool y) a b n h k s l = tt
append_fine (Value-F.List x) (Value-F.Text y) a b n h k s l = tt
append_fine (Value-F.List x) (Value-F.Tuple y) a b n h k s l = tt
append_fine (Value-F.List x) (Value-F.Map y z) a b n h k s l = tt
append_fine (Value-F.List x) (Value-F.Var y) a b n h k s l = tt
append_fine (Value-F.List x) (Value-F.Ref y z) a b n h k s l = tt
append_fine (Value-F.List x) (Value-F.Call y z) a b n h k s l = tt
append_fine (Value-F.Int x) e a b n h k s l = tt
append_fine (Value-F.Bool x) e a b n h k s l = tt
append_fine (Value-F.Tuple x) e a b n h k s l = tt
append_fine (Value-F.Map x y) e a b n h k s l = tt
append_fine (Value-F.Var x) e a b n h k s l = tt
append_fine (Value-F.Ref x y) e a b n h k s l = tt
append_fine (Value-F.Call x y) e a b n h k s l = tt

-- ---- maps

without_fewer : (ks : List Key) (k : Key) → length (without_key ks k) ≤ length ks
without_fewer [] k = omega arith
without_fewer (l ∷ ls) k = let h = without_fewer ls k in either (same_key l k) (λ e. rw e (omega arith)) (λ e. rw e (omega (arith, h)))

with_one_more : (ks : List Key) (k : Key) → length (with_key ks k) ≤ length ks + 1
with_one_more [] k = omega arith
with_one_more (l ∷ ls) k =
    let h = with_one_more ls k in
    either (key_less l k) (λ e. rw e (omega (arith, h))) (λ e. either (same_key l k) (λ s. rw (e, s) (omega arith)) (λ s. rw (e, s) (omega arith)))

-- what follows a key, if there is one
keyed : (P : Value → Type 0) (d : Layer) (f : Key → Outcome Value) → ((k : Key) → Fine P (f k)) → Fine P (and_then (key_at d) f)
keyed P (Value-F.Int n) f h = h _
keyed P (Value-F.Bool b) f h = h _
keyed P (Value-F.Text t) f h = h _
keyed P (Value-F.Tuple vs) f h = tt
keyed P (Value-F.List vs) f h = tt
keyed P (Value-F.Map ks vs) f h = tt
keyed P (Value-F.Var n) f h = tt
keyed P (Value-F.Ref n v) f h = tt
keyed P (Value-F.Call n vs) f h = tt

del_fine : (d e : Layer) (n : ℕ) → far d ≤ n → Fine (UpTo n) (binary_at Del d e)
del_fine (Value-F.Map ks vs) e n h =
    keyed (UpTo n) e _ (λ k. gives (Value-F.Map (without_key ks k) (without_value ks vs k)) n (let w = without_fewer ks k in omega (arith, w, h)))
del_fine (Value-F.Int x) e n h = tt
del_fine (Value-F.Bool x) e n h = tt
del_fine (Value-F.Text x) e n h = tt
del_fine (Value-F.Tuple x) e n h = tt
del_fine (Value-F.List x) e n h = tt
del_fine (Value-F.Var x) e n h = tt
del_fine (Value-F.Ref x y) e n h = tt
del_fine (Value-F.Call x y) e n h = tt

has_fine : (d e : Layer) → Fine (UpTo 0) (binary_at Has d e)
has_fine (Value-F.Map ks vs) e = keyed (UpTo 0) e _ (λ k. gives (Value-F.Bool _) 0 (omega arith))
has_fine (Value-F.Int x) e = tt
has_fine (Value-F.Bool x) e = tt
has_fine (Value-F.Text x) e = tt
has_fine (Value-F.Tuple x) e = tt
has_fine (Value-F.List x) e = tt
has_fine (Value-F.Var x) e = tt
has_fine (Value-F.Ref x y) e = tt
has_fine (Value-F.Call x y) e = tt

put_fine : (d : Layer) (k v : Value) (a n : ℕ) → far d ≤ a → a + 1 ≤ n → n ≤ 4096 → Fine (UpTo n) (put_at d (key_at (out-Value k)) v)
put_fine (Value-F.Map ks vs) k v a n h s l =
    keyed (UpTo n) (out-Value k) (put_key ks vs v) (λ j.
    let w = with_one_more ks j in
    let e : nat_le (length (with_key ks j)) 4096 ≡ true = le-leb _ _ (omega (arith, w, h, s, l)) in
    rw e (gives (Value-F.Map (with_key ks j) (with_value ks vs j v)) n (omega (arith, w, h, s))))
put_fine (Value-F.Int x) k v a n h s l = tt
put_fine (Value-F.Bool x) k v a n h s l = tt
put_fine (Value-F.Text x) k v a n h s l = tt
put_fine (Value-F.Tuple x) k v a n h s l = tt
put_fine (Value-F.List x) k v a n h s l = tt
put_fine (Value-F.Var x) k v a n h s l = tt
put_fine (Value-F.Ref x y) k v a n h s l = tt
put_fine (Value-F.Call x y) k v a n h s l = tt

-- ---- comparisons

less_fine : (d e : Layer) → Fine (UpTo 0) (binary_at Less d e)
less_fine (Value-F.Int x) (Value-F.Int y) = gives (Value-F.Bool _) 0 (omega arith)
less_fine (Value-F.Int x) (Value-F.Bool y) = tt
less_fine (Value-F.Int x) (Value-F.Text y) = tt
less_fine (Value-F.Int x) (Value-F.Tuple y) = tt
less_fine (Value-F.Int x) (Value-F.List y) = tt
less_fine (Value-F.Int x) (Value-F.Map y z) = tt
less_fine (Value-F.Int x) (Value-F.Var y) = tt
less_fine (Value-F.Int x) (Value-F.Ref y z) = tt
less_fine (Value-F.Int x) (Value-F.Call y z) = tt
less_fine (Value-F.Bool x) e = tt
less_fine (Value-F.Text x) (Value-F.Int y) = tt
less_fine (Value-F.Text x) (Value-F.Bool y) = tt
less_fine (Value-F.Text x) (Value-F.Text y) = gives (Value-F.Bool _) 0 (omega arith)
less_fine (Value-F.Text x) (Value-F.Tuple y) = tt
less_fine (Value-F.Text x) (Value-F.List y) = tt
less_fine (Value-F.Text x) (Value-F.Map y z) = tt
less_fine (Value-F.Text x) (Value-F.Var y) = tt
less_fine (Value-F.Text x) (Value-F.Ref y z) = tt
less_fine (Value-F.Text x) (Value-F.Call y z) = tt
less_fine (Value-F.Tuple x) e = tt
less_fine (Value-F.List x) e = tt
less_fine (Value-F.Map x w) e = tt
less_fine (Value-F.Var x) e = tt
less_fine (Value-F.Ref x w) e = tt
less_fine (Value-F.Call x w) e = tt

less_equal_fine : (d e : Layer) → Fine (UpTo 0) (binary_at LessEqual d e)
less_equal_fine (Value-F.Int x) (Value-F.Int y) = gives (Value-F.Bool _) 0 (omega arith)
less_equal_fine (Value-F.Int x) (Value-F.Bool y) = tt
less_equal_fine (Value-F.Int x) (Value-F.Text y) = tt
less_equal_fine (Value-F.Int x) (Value-F.Tuple y) = tt
less_equal_fine (Value-F.Int x) (Value-F.List y) = tt
less_equal_fine (Value-F.Int x) (Value-F.Map y z) = tt
less_equal_fine (Value-F.Int x) (Value-F.Var y) = tt
less_equal_fine (Value-F.Int x) (Value-F.Ref y z) = tt
less_equal_fine (Value-F.Int x) (Value-F.Call y z) = tt
less_equal_fine (Value-F.Bool x) e = tt
less_equal_fine (Value-F.Text x) (Value-F.Int y) = tt
less_equal_fine (Value-F.Text x) (Value-F.Bool y) = tt
less_equal_fine (Value-F.Text x) (Value-F.Text y) = gives (Value-F.Bool _) 0 (omega arith)
less_equal_fine (Value-F.Text x) (Value-F.Tuple y) = tt
less_equal_fine (Value-F.Text x) (Value-F.List y) = tt
less_equal_fine (Value-F.Text x) (Value-F.Map y z) = tt
less_equal_fine (Value-F.Text x) (Value-F.Var y) = tt
less_equal_fine (Value-F.Text x) (Value-F.Ref y z) = tt
less_equal_fine (Value-F.Text x) (Value-F.Call y z) = tt
less_equal_fine (Value-F.Tuple x) e = tt
less_equal_fine (Value-F.List x) e = tt
less_equal_fine (Value-F.Map x w) e = tt
less_equal_fine (Value-F.Var x) e = tt
less_equal_fine (Value-F.Ref x w) e = tt
less_equal_fine (Value-F.Call x w) e = tt

same_fine : (m n : Option ℕ) → Fine (UpTo 0) (same_number m n)
same_fine None n = tt
same_fine (Some m) None = tt
same_fine (Some m) (Some n) = gives (Value-F.Bool _) 0 (omega arith)

-- ---- operators on values

pub unary_not : (v : Value) → Fine (UpTo 0) (unary Not v)
unary_not v = not_fine (out-Value v)

pub unary_len : (v : Value) (n : ℕ) → UpTo n v → n < 2 ^ 63 → Fine (UpTo n) (unary Len v)
unary_len v n h l = let e = extent_out v in len_fine (out-Value v) n (omega (arith, e, h)) l

pub item_of : (place : ℕ) (v : Value) (n : ℕ) → UpTo n v → Fine (UpTo n) (item place v)
item_of place v n h = let e = extent_out v in item_fine place (out-Value v) n (omega (arith, e, h))

pub binary_add : (v w : Value) (a b n : ℕ) → UpTo a v → UpTo b w → a + b ≤ n → n < 2 ^ 63 → Fine (UpTo n) (binary Add v w)
binary_add v w a b n h k s l = let p = extent_out v in let q = extent_out w in add_fine (out-Value v) (out-Value w) a b n (omega (arith, p, h)) (omega (arith, q, k)) s l

pub binary_sub : (v w : Value) (a b n : ℕ) → UpTo a v → UpTo b w → a + b ≤ n → n < 2 ^ 63 → Fine (UpTo n) (binary Sub v w)
binary_sub v w a b n h k s l = let p = extent_out v in let q = extent_out w in sub_fine (out-Value v) (out-Value w) a b n (omega (arith, p, h)) (omega (arith, q, k)) s l

pub binary_append : (v w : Value) (a b n : ℕ) → UpTo a v → UpTo b w → a + b ≤ n → n ≤ 65536 → Fine (UpTo n) (binary Append v w)
binary_append v w a b n h k s l = let p = extent_out v in let q = extent_out w in append_fine (out-Value v) (out-Value w) a b n (omega (arith, p, h)) (omega (arith, q, k)) s l

pub binary_del : (v w : Value) (n : ℕ) → UpTo n v → Fine (UpTo n) (binary Del v w)
binary_del v w n h = let e = extent_out v in del_fine (out-Value v) (out-Value w) n (omega (arith, e, h))

pub binary_has : (v w : Value) → Fine (UpTo 0) (binary Has v w)
binary_has v w = has_fine (out-Value v) (out-Value w)

pub binary_less : (v w : Value) → Fine (UpTo 0) (binary Less v w)
binary_less v w = less_fine (out-Value v) (out-Value w)

pub binary_less_equal : (v w : Value) → Fine (UpTo 0) (binary LessEqual v w)
binary_less_equal v w = less_equal_fine (out-Value v) (out-Value w)

pub binary_equal : (v w : Value) → Fine (UpTo 0) (binary Equal v w)
binary_equal v w = gives (Value-F.Bool _) 0 (omega arith)

pub binary_same : (v w : Value) → Fine (UpTo 0) (binary Same v w)
binary_same v w = same_fine (number_of v) (number_of w)

pub put_up_to : (x k v : Value) (a n : ℕ) → UpTo a x → a + 1 ≤ n → n ≤ 4096 → Fine (UpTo n) (put x k v)
put_up_to x k v a n h s l = let e = extent_out x in put_fine (out-Value x) k v a n (omega (arith, e, h)) s l
