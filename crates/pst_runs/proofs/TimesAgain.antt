-- The times of a history are read again from what is written for them.
use Rattle.std.proofs.Common.{◌≡◌, ℕ, zero, suc, ◌+◌, ◌<◌, ◌≤◌, ◌^◌, ◌&&◌, ◌||◌, ◌==◌, not, Bool, true, false, length, get_or, List, [], ◌∷◌, map, Option, Some, None, Result, Ok, Err, refl, sym, ap, ◌∙◌, subst, eq-eqb, eqb-true, arith}
use Rattle.std.specs.Prelude.{codes, decimal, nat_lt, if◌then◌else◌, IfSome}
use Rattle.std.specs.List.{list_all}
use Rattle.std.specs.Option.{option_map}
use Rattle.std.specs.Str.{bytes_eq}
use Rattle.std.proofs.lemmas.Bool.Decides.{nat_tests}
use Rattle.std.proofs.lemmas.Fmt.{digits_decimal, digits_value-decimal, decimal_nonempty, decimal_digit, first_decimal}
use Rattle.std.proofs.lemmas.List.{length-map}
use Rattle.pst_case.specs.Times.{called, is_timely, is_over_by, is_over_by_first, are_in_turn, fit}
use Rattle.pst_case.specs.Unknown.{is_open, are_open, all_open}
use Rattle.pst_case.specs.declared.history.CallTime.{CallTime}
use Rattle.pst_case.specs.declared.history.History.{History}
use Rattle.pst_case.specs.declared.history.Reply.{Reply}
use Rattle.pst_case.specs.declared.history.Reply.TheVariants.{Value as Answered, Misfit, Failed, NotRun, Unknown}
use Rattle.pst_runs.proofs.CommandAgain.{node_is, word_is}
use Rattle.pst_runs.proofs.Sized.{Sized, AllSized, none_sized, more_sized, word_sized, letters_sized, node_sized, headed_sized}
use Rattle.pst_runs.specs.Forms.{is_node, are_nodes}
use Rattle.pst_runs.specs.ReadAgain.{IsSmall, AreSmallCalls, AreSmallTimes}
use Rattle.pst_runs.specs.Replies.{◌>>=◌, then_more, or_number, listed, listed_in}
use Rattle.pst_runs.specs.Times.{has_leading_zero, instant_of, completion_of, time_in, time_of, at_first, is_in_turn, may_have_time, may_follow, time_after, branch_times, times_from, are_times_counted, times_of, timed, timed_history}
use Rattle.pst_runs.specs.Written.{completion_word, time_form, times_form, times_forms}
use Rattle.pst_sexpr.proofs.Digits.{digits_are_word}
use Rattle.pst_sexpr.proofs.Made.{word_is_tree}
use Rattle.pst_sexpr.proofs.Numbers.{both_hold, both_from, digit_is, numerals, some_digits}
use Rattle.pst_sexpr.specs.Bytes.{is_word_byte}
use Rattle.pst_sexpr.specs.Integers.{is_digit, are_digits, magnitude, in_u64}
use Rattle.pst_sexpr.specs.Lawful.{IsTree}
use Rattle.pst_sexpr.specs.Parts.{and_then, where_true, word_of, node_of}
use Rattle.pst_sexpr.specs.declared.form.Form.TheVariants.{Word, Node}
use Rattle.pst_sexpr.specs.declared.form.Form.{Form}

-- ---- one number

no_zero : (ds : List ℕ) → 48 < get_or ds 0 0 → has_leading_zero ds ≡ false
no_zero [] h = refl
no_zero (c ∷ []) h = refl
no_zero (c ∷ d ∷ ds) h = grind (arith, nat_tests)

shortest : (n : ℕ) → n < 2 ^ 64 → has_leading_zero (decimal n) ≡ false
shortest zero h = ap has_leading_zero (decimal_digit 0 (omega arith))
shortest (suc n) h = no_zero (decimal (suc n)) (first_decimal (suc n) (omega arith) h)

in_range : (n : ℕ) → n < 2 ^ 64 → in_u64 n ≡ Some n
in_range n h = let e : nat_lt n (2 ^ 64) ≡ true = grind (arith, nat_tests) in ap (λ b. if b then Some n else None) e

instant_read : (n : ℕ) → n < 2 ^ 64 → instant_of (decimal n) ≡ Some n
instant_read n h =
    let d = digits_decimal numerals n h in
    let s = decimal_nonempty n h in
    let plain : (are_digits (decimal n) && not (has_leading_zero (decimal n))) ≡ true =
    both_from _ _ (some_digits (decimal n) s d) (ap not (shortest n h)) in
    ap (λ b. if b then in_u64 (magnitude 0 (decimal n)) else None) plain
    ∙ ap in_u64 (digits_value-decimal numerals n h) ∙ in_range n h

no_dash : (ds : List ℕ) → 0 < length ds → list_all is_digit ds ≡ true → bytes_eq ds (codes "-") ≡ false
no_dash [] n e = absurd (omega arith)
no_dash (c ∷ cs) n e =
    let d = digit_is c (both_hold (is_digit c) (list_all is_digit cs) e).0 in
    let other : (c == 45) ≡ false = grind (arith, nat_tests) in
    ap (λ b. b && bytes_eq cs []) other

completion_read : (c : Option ℕ) → IfSome c (λ at. at < 2 ^ 64) → completion_of (completion_word c) ≡ Some c
completion_read None h = refl
completion_read (Some n) h =
    ap (λ b. if b then Some None else option_map Some (instant_of (decimal n))) (no_dash (decimal n) (decimal_nonempty n h) (digits_decimal numerals n h))
    ∙ ap (option_map Some) (instant_read n h)

-- ---- one time

time_read : (t : CallTime) → IsSmall t → time_of (time_form t) ≡ Some t
time_read t s =
    let completed = Word (completion_word t.completed) in
    ap (λ o. and_then o time_in) (node_is (Word (decimal t.invoked) ∷ completed ∷ []))
    ∙ ap (λ o. and_then (and_then o instant_of) (λ i. and_then (and_then (word_of completed) completion_of) (λ c. Some (record { invoked = i; completed = c })))) (word_is (decimal t.invoked))
    ∙ ap (λ o. and_then o (λ i. and_then (and_then (word_of completed) completion_of) (λ c. Some (record { invoked = i; completed = c })))) (instant_read t.invoked s.invoked)
    ∙ ap (λ o. and_then (and_then o completion_of) (λ c. Some (record { invoked = t.invoked; completed = c }))) (word_is (completion_word t.completed))
    ∙ ap (λ o. and_then o (λ c. Some (record { invoked = t.invoked; completed = c }))) (completion_read t.completed s.completed)

turn_read : (before t : CallTime) (r : Reply) → IsSmall t → may_follow before r t ≡ true → time_after before r (time_form t) ≡ Some t
turn_read before t r s e =
    ap (λ o. and_then o (λ t. where_true (may_follow before r t) t)) (time_read t s)
    ∙ ap (λ b. where_true b t) e

-- ---- the times of a branch

record InTurn (before : CallTime) (ts : List CallTime) : Type 0 where
  first : is_over_by_first before ts ≡ true
  all : are_in_turn ts ≡ true

-- the first one in its turn, and the others
record Turns (before t : CallTime) (ts : List CallTime) : Type 0 where
  turn : is_in_turn before t ≡ true
  others : InTurn t ts

turns : (before t : CallTime) (ts : List CallTime) → InTurn before (t ∷ ts) → Turns before t ts
turns before t ts h =
    let p = both_hold (is_timely t && is_over_by_first t ts) (are_in_turn ts) h.all in
    let q = both_hold (is_timely t) (is_over_by_first t ts) p.0 in
    record {
      turn = both_from (is_timely t) (is_over_by before.completed t.invoked) q.0 h.first;
      others = record { first = q.1; all = p.1 };
    }

one_again : (before t : CallTime) (r : Reply) (number : ℕ) (ts : List CallTime) (more : CallTime → Result (List CallTime) ℕ) → is_in_turn before t ≡ true
    → may_have_time r t ≡ true → IsSmall t
    → more t ≡ Ok ts → (or_number number (time_after before r (time_form t)) >>= (λ t. then_more t (more t))) ≡ Ok (t ∷ ts)
one_again before t r number ts more e o s h =
    let may = both_from (is_in_turn before t) (may_have_time r t) e o in
    ap (λ o. or_number number o >>= (λ t. then_more t (more t))) (turn_read before t r s may) ∙ ap (then_more t) h

branch_again : (rs : List Reply) (ts : List CallTime) (before : CallTime) (number : ℕ) → length ts ≡ called rs → InTurn before ts → are_open rs ts ≡ true
    → AreSmallCalls ts → branch_times before number rs (map time_form ts) ≡ Ok ts
branch_again [] [] before number l h o s = refl
branch_again [] (t ∷ ts) before number l h o s = absurd (omega (arith, l))
branch_again (r ∷ rs) [] before number l h o s = refl
branch_again (Answered v ∷ rs) (t ∷ ts) before number l h o s =
    let p = turns before t ts h in
    one_again before t (Answered v) number ts (λ t. branch_times t (number + 1) rs (map time_form ts)) p.turn refl s.0 (branch_again rs ts t (number + 1) (omega (arith, l)) p.others o s.1)
branch_again (Misfit ∷ rs) (t ∷ ts) before number l h o s =
    let p = turns before t ts h in
    one_again before t Misfit number ts (λ t. branch_times t (number + 1) rs (map time_form ts)) p.turn refl s.0 (branch_again rs ts t (number + 1) (omega (arith, l)) p.others o s.1)
branch_again (Failed ∷ rs) (t ∷ ts) before number l h o s =
    let p = turns before t ts h in
    one_again before t Failed number ts (λ t. branch_times t (number + 1) rs (map time_form ts)) p.turn refl s.0 (branch_again rs ts t (number + 1) (omega (arith, l)) p.others o s.1)
branch_again (NotRun ∷ rs) (t ∷ ts) before number l h o s = branch_again rs (t ∷ ts) before (number + 1) (omega (arith, l)) h o s
branch_again (Unknown ∷ rs) (t ∷ ts) before number l h o s =
    let p = turns before t ts h in
    let q = both_hold (is_open t) (are_open rs ts) o in
    one_again before t Unknown number ts (λ t. branch_times t (number + 1) rs (map time_form ts)) p.turn q.0 s.0 (branch_again rs ts t (number + 1) (omega (arith, l)) p.others q.1 s.1)

at_first_over : (ts : List CallTime) → is_over_by_first at_first ts ≡ true
at_first_over [] = refl
at_first_over (t ∷ ts) = grind (arith, nat_tests)

listed_is : (ts : List CallTime) → listed (times_form ts) ≡ map time_form ts
listed_is ts = ap listed_in (node_is (map time_form ts))

-- ---- the times of all branches

-- of the first branch, and of the others
record Fits (rs : List Reply) (rss : List (List Reply)) (ts : List CallTime) (times : List (List CallTime)) : Type 0 where
  number : length ts ≡ called rs
  turns : InTurn at_first ts
  others : fit (map called rss) times ≡ true

fits_first : (rs : List Reply) (rss : List (List Reply)) (ts : List CallTime) (times : List (List CallTime)) → fit (map called (rs ∷ rss)) (ts ∷ times) ≡ true → Fits rs rss ts times
unfolding fit
fits_first rs rss ts times e =
    let p = both_hold ((length ts == called rs) && are_in_turn ts) (fit (map called rss) times) e in
    let q = both_hold (length ts == called rs) (are_in_turn ts) p.0 in
    record { number = eqb-true _ _ q.0; turns = record { first = at_first_over ts; all = q.1 }; others = p.1 }

counted_again : (rss : List (List Reply)) (times : List (List CallTime)) → fit (map called rss) times ≡ true → are_times_counted rss (map times_form times) ≡ true
unfolding fit
counted_again [] times e = refl
counted_again (rs ∷ rss) [] e = absurd (cc)
counted_again (rs ∷ rss) (ts ∷ times) e =
    let p = fits_first rs rss ts times e in
    let n : length (listed (times_form ts)) ≡ called rs = ap length (listed_is ts) ∙ length-map ts time_form ∙ p.number in
    both_from _ _ (eq-eqb _ _ n) (counted_again rss times p.others)

from_again : (rss : List (List Reply)) (times : List (List CallTime)) (before : ℕ) → fit (map called rss) times ≡ true → all_open rss times ≡ true
    → AreSmallTimes times → times_from before rss (map times_form times) ≡ Ok times
unfolding fit
from_again [] [] before e o s = refl
from_again [] (ts ∷ times) before e o s = absurd (cc)
from_again (rs ∷ rss) [] before e o s = absurd (cc)
from_again (rs ∷ rss) (ts ∷ times) before e o s =
    let p = fits_first rs rss ts times e in
    let q = both_hold (are_open rs ts) (all_open rss times) o in
    let more = times_from (before + length rs) rss (map times_form times) in
    let one : branch_times at_first (before + 1) rs (listed (times_form ts)) ≡ Ok ts =
    ap (branch_times at_first (before + 1) rs) (listed_is ts) ∙ branch_again rs ts at_first (before + 1) p.number p.turns q.0 s.0 in
    ap (λ r. r >>= (λ ts. then_more ts more)) one
    ∙ ap (then_more ts) (from_again rss times (before + length rs) p.others q.1 s.1)

-- the times are read again
pub times_again : (h : History) (times : List (List CallTime)) → fit (map called h.branches) times ≡ true → all_open h.branches times ≡ true
    → AreSmallTimes times → timed_history h (Some (map times_form times)) ≡ Ok (timed h times)
times_again h times e o s =
    let from = times_from (length h.prefix) h.branches (map times_form times) in
    ap (λ b. (if b then from else Err 0) >>= (λ times. Ok (timed h times))) (counted_again h.branches times e)
    ∙ ap (λ r. r >>= (λ times. Ok (timed h times))) (from_again h.branches times (length h.prefix) e o s)

-- ---- their form

pub number_fits : (rss : List (List Reply)) (times : List (List CallTime)) → fit (map called rss) times ≡ true → length times ≡ length rss
unfolding fit
number_fits [] [] e = refl
number_fits [] (ts ∷ times) e = absurd (cc)
number_fits (rs ∷ rss) [] e = absurd (cc)
number_fits (rs ∷ rss) (ts ∷ times) e = ap suc (number_fits rss times (fits_first rs rss ts times e).others)

pub times_are_nodes : (times : List (List CallTime)) → are_nodes (map times_form times) ≡ true
times_are_nodes [] = refl
times_are_nodes (ts ∷ times) = both_from _ _ (ap is_node (node_is (map time_form ts))) (times_are_nodes times)

instant_sized : (n : ℕ) → n < 2 ^ 64 → Sized 1 (Word (decimal n))
instant_sized n h =
    word_sized 1 (decimal n) (word_is_tree (decimal n) (decimal_nonempty n h) (digits_are_word (decimal n) (digits_decimal numerals n h)))

completion_sized : (c : Option ℕ) → IfSome c (λ at. at < 2 ^ 64) → Sized 1 (Word (completion_word c))
unfolding is_word_byte
completion_sized None h = letters_sized 1 _ _ refl
completion_sized (Some n) h = instant_sized n h

time_sized : (t : CallTime) → IsSmall t → Sized 2 (time_form t)
time_sized t s = node_sized (more_sized (instant_sized t.invoked s.invoked) (more_sized (completion_sized t.completed s.completed) (none_sized 1))) (omega arith)

calls_sized : (ts : List CallTime) → AreSmallCalls ts → AllSized 2 (map time_form ts)
calls_sized [] s = none_sized 2
calls_sized (t ∷ ts) s = more_sized (time_sized t s.0) (calls_sized ts s.1)

lists_sized : (times : List (List CallTime)) → AreSmallTimes times → AllSized 3 (map times_form times)
lists_sized [] s = none_sized 3
lists_sized (ts ∷ times) s = more_sized (node_sized (calls_sized ts s.0) (omega arith)) (lists_sized times s.1)

pub times_sized : (times : Option (List (List CallTime))) → IfSome times AreSmallTimes → AllSized 4 (times_forms times)
unfolding is_word_byte
times_sized None s = none_sized 4
times_sized (Some times) s = more_sized (headed_sized _ _ refl (lists_sized times s) (omega arith)) (none_sized 4)
