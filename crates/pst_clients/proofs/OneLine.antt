-- What is printed is one line, with no control character in it.
use Rattle.std.proofs.Common.{◌≡◌, ℕ, suc, ◌+◌, ◌/◌, ◌%◌, Bool, true, false, ◌&&◌, ◌||◌, ◌==◌, cond, nat_le, nat_lt, List, [], ◌∷◌, ◌++◌, drop, Option, Some, None, option_and_then, inl, inr, ◌⊎◌, refl, sym, ap, ◌∙◌, arith}
use Rattle.std.proofs.lemmas.Bool.{eqb-true, leb-true, le-leb, and_parts, and_from, or_cases}
use Rattle.std.proofs.lemmas.Bool.Decides.{nat_tests}
use Rattle.std.proofs.lemmas.List.Folds.{list_all-append}
use Rattle.std.specs.Char.{digit_char, is_ascii_digit}
use Rattle.std.specs.List.{prefix_len}
use Rattle.json.specs.Print.{escape, escape_byte, escape_letter, quoted, token_text, begins, ends, separator, print_from, print, IsPrintable, ArePrintable}
use Rattle.json.specs.Token.{Token, begin_object, end_object, begin_array, end_array, key, string, number, boolean, null, bad}
use Rattle.json.specs.Word.{head, after_digits, after_minus, after_sign, after_whole, after_fraction, after_exponent, after_number}
use Rattle.pst_clients.specs.Calling.{is_one_line}

joined : (xs ys : List ℕ) → is_one_line xs ≡ true → is_one_line ys ≡ true → is_one_line (xs ++ ys) ≡ true
joined xs ys p q = list_all-append (nat_le 32) xs ys ∙ and_from _ _ p q

-- ---- numbers

one : (c : ℕ) (t : List ℕ) → nat_le 32 c ≡ true → (head t == c) ≡ true → is_one_line (drop 1 t) ≡ true → is_one_line t ≡ true
one c [] p e h = refl
one c (x ∷ xs) p e h = and_from _ _ (ap (nat_le 32) (eqb-true x c e) ∙ p) h

digit : (x : ℕ) → is_ascii_digit x ≡ true → nat_le 32 x ≡ true
digit x h = let least = leb-true 48 x (and_parts _ _ h).0 in le-leb 32 x (omega arith)

digits_at : (d : Bool) (x : ℕ) (xs : List ℕ) (n : ℕ) → (d ≡ true → nat_le 32 x ≡ true) → (is_one_line (drop n xs) ≡ true → is_one_line xs ≡ true)
    → is_one_line (drop (cond d (1 + n) 0) (x ∷ xs)) ≡ true → is_one_line (x ∷ xs) ≡ true
digits_at false x xs n p ih h = h
digits_at true x xs n p ih h =
    let e : 1 + n ≡ suc n = omega arith in
    and_from _ _ (p refl) (ih (ap (λ k. is_one_line (drop k (x ∷ xs))) (sym e) ∙ h))

digits : (t : List ℕ) → is_one_line (drop (prefix_len is_ascii_digit t) t) ≡ true → is_one_line t ≡ true
digits [] h = refl
digits (x ∷ xs) h = digits_at (is_ascii_digit x) x xs (prefix_len is_ascii_digit xs) (digit x) (digits xs) h

-- what follows a part is one line, if there is such a part
abbrev Then : Option (List ℕ) → Type 0
Then None = ⊥
Then (Some rest) = is_one_line rest ≡ true

by_test : (b : Bool) (x y : Option (List ℕ)) (P : Type 0) → (b ≡ true → Then x → P) → (Then y → P) → Then (cond b x y) → P
by_test true x y P f g h = f refl h
by_test false x y P f g h = g h

by_digits : (t : List ℕ) → Then (after_digits t) → is_one_line t ≡ true
by_digits t = by_test (prefix_len is_ascii_digit t == 0) None _ _ (λ e h. absurd h) (digits t)

either : (a b : ℕ) (t : List ℕ) → nat_le 32 a ≡ true → nat_le 32 b ≡ true → ((head t == a) ≡ true) ⊎ ((head t == b) ≡ true) → is_one_line (drop 1 t) ≡ true
    → is_one_line t ≡ true
either a b t p q (inl e) = one a t p e
either a b t p q (inr e) = one b t q e

skipped : (b : Bool) (t : List ℕ) → (b ≡ true → is_one_line (drop 1 t) ≡ true → is_one_line t ≡ true) → is_one_line (cond b (drop 1 t) t) ≡ true → is_one_line t ≡ true
skipped true t f h = f refl h
skipped false t f h = h

by_exponent : (t : List ℕ) → Then (after_exponent t) → is_one_line t ≡ true
by_exponent t =
    let u = drop 1 t in
    by_test ((head t == 101) || (head t == 69)) _ (Some t) _
    (λ e h. either 101 69 t refl refl (or_cases _ _ e) (skipped _ u (λ s. either 45 43 u refl refl (or_cases _ _ s)) (by_digits (after_sign u) h))) (λ h. h)

by_fraction : (t : List ℕ) → Then (after_fraction t) → is_one_line t ≡ true
by_fraction t = by_test (head t == 46) _ (Some t) _ (λ e h. one 46 t refl e (by_digits (drop 1 t) h)) (λ h. h)

by_whole : (t : List ℕ) → Then (after_whole t) → is_one_line t ≡ true
by_whole t = by_test (head t == 48) (Some (drop 1 t)) _ _ (λ e h. one 48 t refl e h) (by_digits t)

back : (f : List ℕ → Option (List ℕ)) → ((t : List ℕ) → Then (f t) → is_one_line t ≡ true) → (o : Option (List ℕ)) → Then (option_and_then f o) → Then o
back f p None h = h
back f p (Some t) h = p t h

ended : (o : Option (List ℕ)) → o ≡ Some [] → Then o
ended None e = absurd (cc)
ended (Some []) e = refl
ended (Some (x ∷ xs)) e = absurd (cc)

by_number : (t : List ℕ) → after_number t ≡ Some [] → is_one_line t ≡ true
unfolding after_number
by_number t e =
    skipped (head t == 45) t (one 45 t refl)
    (by_whole (after_minus t) (back after_fraction by_fraction _ (back after_exponent by_exponent _ (ended _ e))))

-- ---- texts

digit_shown : (d : ℕ) (b : Bool) → nat_le 32 (cond b (48 + d) (87 + d)) ≡ true
digit_shown d true = le-leb 32 (48 + d) (omega arith)
digit_shown d false = le-leb 32 (87 + d) (omega arith)

abbrev Letter : ℕ → Type 0
Letter n = nat_lt 0 n ≡ true → nat_le 32 n ≡ true

letter_by : (b : Bool) (v w : ℕ) → (b ≡ true → Letter v) → Letter w → Letter (cond b v w)
letter_by true v w p q = p refl
letter_by false v w p q = q

itself : (x : ℕ) → ((x == 34) ≡ true) ⊎ ((x == 92) ≡ true) → Letter x
itself x (inl e) _ = ap (nat_le 32) (eqb-true x 34 e)
itself x (inr e) _ = ap (nat_le 32) (eqb-true x 92 e)

letter : (x : ℕ) → Letter (escape_letter x)
letter x =
    letter_by _ x _ (λ e. itself x (or_cases _ _ e)) (letter_by (x == 8) 98 _ (λ _ _. refl) (letter_by (x == 12) 102 _ (λ _ _. refl)
    (letter_by (x == 10) 110 _ (λ _ _. refl) (letter_by (x == 13) 114 _ (λ _ _. refl) (letter_by (x == 9) 116 0 (λ _ _. refl) (λ h. absurd (cc)))))))

escaped_by : (b c : Bool) (x l : ℕ) → (b ≡ true → nat_le 32 l ≡ true) → (c ≡ false → nat_le 32 x ≡ true)
    → is_one_line (cond b (92 ∷ l ∷ []) (cond c (92 ∷ 117 ∷ 48 ∷ 48 ∷ digit_char (x / 16) ∷ digit_char (x % 16) ∷ []) (x ∷ []))) ≡ true
escaped_by true c x l p q = and_from _ _ (p refl) refl
escaped_by false true x l p q = and_from _ _ (digit_shown (x / 16) (nat_lt (x / 16) 10)) (and_from _ _ (digit_shown (x % 16) (nat_lt (x % 16) 10)) refl)
escaped_by false false x l p q = and_from _ _ (q refl) refl

large : (x : ℕ) → nat_lt x 32 ≡ false → nat_le 32 x ≡ true
large x h = grind (arith, nat_tests)

escaped_byte : (x : ℕ) → is_one_line (escape_byte x) ≡ true
unfolding escape_byte
escaped_byte x = escaped_by (nat_lt 0 (escape_letter x)) (nat_lt x 32) x (escape_letter x) (letter x) (large x)

escaped : (s : List ℕ) → is_one_line (escape s) ≡ true
escaped [] = refl
escaped (x ∷ xs) = joined (escape_byte x) (escape xs) (escaped_byte x) (escaped xs)

in_quotes : (s : List ℕ) → is_one_line (quoted s) ≡ true
in_quotes s = joined (escape s) (34 ∷ []) (escaped s) refl

-- ---- tokens

token_line : (t : Token) → IsPrintable t → is_one_line (token_text t) ≡ true
token_line begin_object h = refl
token_line end_object h = refl
token_line begin_array h = refl
token_line end_array h = refl
token_line (key s) h = joined (quoted s) (58 ∷ []) (in_quotes s) refl
token_line (string s) h = in_quotes s
token_line (number s) h = by_number s h
token_line (boolean true) h = refl
token_line (boolean false) h = refl
token_line null h = refl
token_line bad h = absurd h

comma : (b : Bool) → is_one_line (cond b (44 ∷ []) []) ≡ true
comma true = refl
comma false = refl

printed_from : (b : Bool) (ts : List Token) → ArePrintable ts → is_one_line (print_from b ts) ≡ true
unfolding print_from ArePrintable
printed_from b [] h = refl
printed_from b (t ∷ ts) h =
    joined (separator b t) (token_text t ++ print_from (ends t) ts) (comma (b && begins t)) (joined (token_text t) (print_from (ends t) ts) (token_line t h.0) (printed_from (ends t) ts h.1))

pub printed_line : (ts : List Token) → ArePrintable ts → is_one_line (print ts) ≡ true
printed_line ts h = printed_from false ts h
