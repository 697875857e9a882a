-- Keys that rise, put one after another.
use Rattle.std.proofs.Common.{◌≡◌, ◌==◌, ◌&&◌, not, nat_lt, int_lt, ℕ, ◌+◌, Bool, true, false, cond, List, [], ◌∷◌, ◌++◌, length, drop, refl, sym, ap, ◌∙◌, arith, eq-eqb}
use Rattle.std.specs.List.{insert}
use Rattle.std.proofs.lemmas.Bool.{true≢false, lt-ltb, ltb-true}
use Rattle.std.proofs.lemmas.Int.{ints}
use Rattle.std.proofs.lemmas.List.{take_all, drop_all}
use Rattle.std.proofs.lemmas.Bool.Decides.{Decides-eqb}
use Rattle.pst_json_runs.specs.Reading.{place_of, put}
use Rattle.pst_sexpr.proofs.Numbers.{both_hold}
use Rattle.pst_value.specs.Text.{text_less}
use Rattle.pst_value.specs.Keys.{key_less, is_first}
use Rattle.pst_value.specs.declared.key.Key.{Key}
use Rattle.pst_value.specs.declared.key.Key.TheVariants as key

either : {P : Type 0} (b : Bool) → (b ≡ true → P) → (b ≡ false → P) → P
either true f g = f refl
either false f g = g refl

-- ---- the order of keys

truth_after : (a b c : Bool) → (not a && b) ≡ true → (not b && c) ≡ true → (not a && c) ≡ true
truth_after true b c p q = p
truth_after false true c p q = absurd (true≢false (sym q))
truth_after false false c p q = absurd (true≢false (sym p))

text_after : (s t u : List ℕ) → text_less s t ≡ true → text_less t u ≡ true → text_less s u ≡ true
text_after [] [] u p q = absurd (true≢false (sym p))
text_after [] (b ∷ t) [] p q = absurd (true≢false (sym q))
text_after [] (b ∷ t) (c ∷ u) p q = refl
text_after (a ∷ s) [] u p q = absurd (true≢false (sym p))
text_after (a ∷ s) (b ∷ t) [] p q = absurd (true≢false (sym q))
text_after (a ∷ s) (b ∷ t) (c ∷ u) p q = either (nat_lt a b)
    (λ e. either (nat_lt b c)
    (λ f. let g : nat_lt a c ≡ true = lt-ltb a c (omega (arith, ltb-true a b e, ltb-true b c f)) in rw g refl)
    (λ f. let same : b ≡ c = (Decides-eqb b c).0 (both_hold (b == c) _ (rw f at q)).0 in let g : nat_lt a c ≡ true = ap (nat_lt a) (sym same) ∙ e in rw g refl))
    (λ e. let h = rw e at p in let same : a ≡ b = (Decides-eqb a b).0 (both_hold (a == b) _ h).0 in
    let less : text_less s t ≡ true = (both_hold (a == b) _ h).1 in
    either (nat_lt b c)
    (λ f. let g : nat_lt a c ≡ true = ap (λ n. nat_lt n c) same ∙ f in rw g refl)
    (λ f. let k = rw f at q in let next : b ≡ c = (Decides-eqb b c).0 (both_hold (b == c) _ k).0 in
    let rest : text_less s u ≡ true = text_after s t u less (both_hold (b == c) _ k).1 in
    let g : nat_lt a c ≡ false = ap (λ n. nat_lt n c) same ∙ f in
    let i : (a == c) ≡ true = eq-eqb a c (same ∙ next) in rw (g, i) rest))

key_after : (l m n : Key) → key_less l m ≡ true → key_less m n ≡ true → key_less l n ≡ true
key_after (key.Int a) (key.Int b) (key.Int c) p q = either (int_lt a c) (λ e. e) (λ e. absurd (omega (arith, ints, p, q, e)))
key_after (key.Bool a) (key.Bool b) (key.Bool c) p q = truth_after a b c p q
key_after (key.Text a) (key.Text b) (key.Text c) p q = text_after a b c p q
key_after (key.Int a) (key.Int b) (key.Bool c) p q = absurd (true≢false (sym q))
key_after (key.Int a) (key.Int b) (key.Text c) p q = absurd (true≢false (sym q))
key_after (key.Int a) (key.Bool b) n p q = absurd (true≢false (sym p))
key_after (key.Int a) (key.Text b) n p q = absurd (true≢false (sym p))
key_after (key.Bool a) (key.Bool b) (key.Int c) p q = absurd (true≢false (sym q))
key_after (key.Bool a) (key.Bool b) (key.Text c) p q = absurd (true≢false (sym q))
key_after (key.Bool a) (key.Int b) n p q = absurd (true≢false (sym p))
key_after (key.Bool a) (key.Text b) n p q = absurd (true≢false (sym p))
key_after (key.Text a) (key.Text b) (key.Int c) p q = absurd (true≢false (sym q))
key_after (key.Text a) (key.Text b) (key.Bool c) p q = absurd (true≢false (sym q))
key_after (key.Text a) (key.Int b) n p q = absurd (true≢false (sym p))
key_after (key.Text a) (key.Bool b) n p q = absurd (true≢false (sym p))

-- ---- keys before another one

abbrev pub AllBefore : Key → List Key → Type 0
AllBefore k [] = Unit {0}
AllBefore k (l ∷ ls) = (key_less l k ≡ true) × AllBefore k ls

-- the keys come before the first of the others
abbrev pub AreBefore : List Key → List Key → Type 0
AreBefore ls [] = Unit {0}
AreBefore ls (k ∷ ks) = AllBefore k ls

before_next : (ls : List Key) (k m : Key) → AllBefore k ls → key_less k m ≡ true → AllBefore m (ls ++ k ∷ [])
before_next [] k m h e = (e, tt)
before_next (l ∷ ls) k m h e = (key_after l k m h.0 e, before_next ls k m h.1 e)

pub one_more : (ls : List Key) (k : Key) (ks : List Key) → AllBefore k ls → is_first k ks ≡ true → AreBefore (ls ++ k ∷ []) ks
one_more ls k [] h e = tt
one_more ls k (m ∷ ks) h e = before_next ls k m h e

place_end : (k : Key) (ks : List Key) → AllBefore k ks → place_of k ks ≡ length ks
place_end k [] h = refl
place_end k (l ∷ ls) h =
    let e = place_end k ls h.1 in
    ap (λ b. cond b (1 + place_of k ls) 0) h.0 ∙ omega arith

insert_end : {A : Type 0} (xs : List A) (n : ℕ) (x : A) → n ≡ length xs → insert xs n x ≡ xs ++ x ∷ []
insert_end xs n x e =
    ap (λ ys. ys ++ x ∷ drop n xs) (take_all n xs (omega arith)) ∙ ap (λ ys. xs ++ x ∷ ys) (drop_all n xs (omega arith))

-- a key that all others come before is put at the end
pub put_end : {A : Type 0} (ks : List Key) (k : Key) (xs : List A) (x : A) → AllBefore k ks → length ks ≡ length xs → put ks k xs x ≡ xs ++ x ∷ []
put_end ks k xs x h e = insert_end xs (place_of k ks) x (place_end k ks h ∙ e)
