-- The times that are read fit the calls of the branches.
use Rattle.std.proofs.Common.{◌≡◌, ℕ, ◌+◌, ◌&&◌, ◌||◌, ◌==◌, not, Bool, true, false, if◌then◌else◌, List, [], ◌∷◌, length, map, Option, Some, None, Result, Ok, Err, refl, sym, ap, ◌∙◌, subst, eqb-true, eq-eqb, arith}
use Rattle.std.specs.Prelude.{IfSome}
use Rattle.pst_case.specs.Matches.{matches}
use Rattle.pst_case.specs.Times.{called, is_timely, is_over_by, is_over_by_first, are_in_turn, fit}
use Rattle.pst_case.specs.Unknown.{is_open, are_open, all_open, times_for, times_of_calls}
use Rattle.pst_case.specs.declared.case.Case.{Case}
use Rattle.pst_case.specs.declared.history.CallTime.{CallTime}
use Rattle.pst_case.specs.declared.history.History.{History}
use Rattle.pst_case.specs.declared.history.Reply.{Reply}
use Rattle.pst_case.specs.declared.history.Reply.TheVariants.{Value as Answered, Misfit, Failed, NotRun, Unknown}
use Rattle.pst_model.specs.declared.model.Source.{Source}
use Rattle.pst_runs.proofs.Bound.{both, joined_true, bound, first_and_more, there}
use Rattle.pst_runs.specs.Replies.{◌>>=◌, then_more, or_number, listed}
use Rattle.pst_runs.specs.Times.{time_of, at_first, is_in_turn, may_have_time, may_follow, time_after, branch_times, times_from, are_times_counted, times_of, timed, timed_history}
use Rattle.pst_sexpr.specs.Parts.{and_then, where_true}
use Rattle.pst_sexpr.specs.declared.form.Form.{Form}

-- ---- one time

kept : (before s t : CallTime) (r : Reply) (b : Bool) → may_follow before r s ≡ b → where_true b s ≡ Some t → may_follow before r t ≡ true
kept before s t r true e h = let same : s ≡ t = cc in let P : CallTime → Type 0 = λ t. may_follow before r t ≡ true in subst P same e
kept before s t r false e h = absurd (cc)

tested : (before t : CallTime) (r : Reply) (o : Option CallTime) → and_then o (λ t. where_true (may_follow before r t) t) ≡ Some t → may_follow before r t ≡ true
tested before t r None h = absurd (cc)
tested before t r (Some s) h = kept before s t r (may_follow before r s) refl h

follows : (before t : CallTime) (r : Reply) (form : Form) → time_after before r form ≡ Some t → may_follow before r t ≡ true
follows before t r form h = tested before t r (time_of form) h

-- ---- the times of a branch

-- so many times, in turn behind a call
record AreRead (before : CallTime) (count : ℕ) (ts : List CallTime) : Type 0 where
  first : is_over_by_first before ts ≡ true
  all : are_in_turn ts ≡ true
  number : length ts ≡ count

abbrev nothing : Result (List CallTime) ℕ
nothing = Ok []

none_read : (before : CallTime) (count : ℕ) (out : List CallTime) → 0 ≡ count → nothing ≡ Ok out → AreRead before count out
none_read before count out l h =
    let same : [] ≡ out = cc in
    subst (AreRead before count) same (record { first = refl; all = refl; number = l })

one_read : (before : CallTime) (r : Reply) (number count : ℕ) (form : Form) (more : CallTime → Result (List CallTime) ℕ) (out : List CallTime)
    → ((t : CallTime) (ts : List CallTime) → more t ≡ Ok ts → AreRead t count ts)
    → (or_number number (time_after before r form) >>= (λ t. then_more t (more t))) ≡ Ok out → AreRead before (1 + count) out
one_read before r number count form more out f h =
    let one = bound (or_number number (time_after before r form)) (λ t. then_more t (more t)) out h in
    let rest = first_and_more one.0 (more one.0) out one.2 in
    let may = follows before one.0 r form (there number (time_after before r form) one.0 one.1) in
    let turn = (both (is_in_turn before one.0) (may_have_time r one.0) may).0 in
    let p = both (is_timely one.0) (is_over_by before.completed one.0.invoked) turn in
    let q = f one.0 rest.0 rest.1 in
    let n = q.number in
    subst (AreRead before (1 + count)) rest.2 (record {
      first = p.1;
      all = joined_true (is_timely one.0 && is_over_by_first one.0 rest.0) (are_in_turn rest.0) (joined_true (is_timely one.0) (is_over_by_first one.0 rest.0) p.0 q.first) q.all;
      number = omega arith;
    })

branch_read : (rs : List Reply) (before : CallTime) (number : ℕ) (forms : List Form) (out : List CallTime) → length forms ≡ called rs
    → branch_times before number rs forms ≡ Ok out → AreRead before (called rs) out
branch_read [] before number forms out l h = none_read before 0 out refl h
branch_read (r ∷ rs) before number [] out l h = none_read before (called (r ∷ rs)) out l h
branch_read (Answered v ∷ rs) before number (form ∷ forms) out l h =
    one_read before (Answered v) number (called rs) form (λ t. branch_times t (number + 1) rs forms) out (λ t ts e. branch_read rs t (number + 1) forms ts (omega (arith, l)) e) h
branch_read (Misfit ∷ rs) before number (form ∷ forms) out l h =
    one_read before Misfit number (called rs) form (λ t. branch_times t (number + 1) rs forms) out (λ t ts e. branch_read rs t (number + 1) forms ts (omega (arith, l)) e) h
branch_read (Failed ∷ rs) before number (form ∷ forms) out l h =
    one_read before Failed number (called rs) form (λ t. branch_times t (number + 1) rs forms) out (λ t ts e. branch_read rs t (number + 1) forms ts (omega (arith, l)) e) h
branch_read (Unknown ∷ rs) before number (form ∷ forms) out l h =
    one_read before Unknown number (called rs) form (λ t. branch_times t (number + 1) rs forms) out (λ t ts e. branch_read rs t (number + 1) forms ts (omega (arith, l)) e) h
branch_read (NotRun ∷ rs) before number (form ∷ forms) out l h =
    let same : called rs ≡ 0 + called rs = omega arith in
    subst (λ count. AreRead before count out) same (branch_read rs before (number + 1) (form ∷ forms) out (omega (arith, l)) h)

-- ---- calls of unknown outcome

-- the first time, which the reply may have, and the others
record IsOpened (r : Reply) (rs : List Reply) (out : List CallTime) : Type 0 where
  time : CallTime
  times : List CallTime
  same : time ∷ times ≡ out
  may : may_have_time r time ≡ true
  others : are_open rs times ≡ true

one_opened : (before : CallTime) (r : Reply) (rs : List Reply) (number : ℕ) (form : Form) (more : CallTime → Result (List CallTime) ℕ) (out : List CallTime)
    → ((t : CallTime) (ts : List CallTime) → more t ≡ Ok ts → are_open rs ts ≡ true)
    → (or_number number (time_after before r form) >>= (λ t. then_more t (more t))) ≡ Ok out → IsOpened r rs out
one_opened before r rs number form more out f h =
    let one = bound (or_number number (time_after before r form)) (λ t. then_more t (more t)) out h in
    let rest = first_and_more one.0 (more one.0) out one.2 in
    let may = follows before one.0 r form (there number (time_after before r form) one.0 one.1) in
    record {
      time = one.0;
      times = rest.0;
      same = rest.2;
      may = (both (is_in_turn before one.0) (may_have_time r one.0) may).1;
      others = f one.0 rest.0 rest.1;
    }

none_open : (rs : List Reply) → are_open rs [] ≡ true
none_open [] = refl
none_open (Answered v ∷ rs) = refl
none_open (Misfit ∷ rs) = refl
none_open (Failed ∷ rs) = refl
none_open (NotRun ∷ rs) = none_open rs
none_open (Unknown ∷ rs) = refl

abbrev AreOpen : List Reply → List CallTime → Type 0
AreOpen rs out = are_open rs out ≡ true

no_times_open : (rs : List Reply) (out : List CallTime) → nothing ≡ Ok out → AreOpen rs out
no_times_open rs out h = let same : [] ≡ out = cc in subst (AreOpen rs) same (none_open rs)

branch_open : (rs : List Reply) (before : CallTime) (number : ℕ) (forms : List Form) (out : List CallTime) → branch_times before number rs forms ≡ Ok out → AreOpen rs out
branch_open [] before number forms out h = refl
branch_open (r ∷ rs) before number [] out h = no_times_open (r ∷ rs) out h
branch_open (Answered v ∷ rs) before number (form ∷ forms) out h =
    let q = one_opened before (Answered v) rs number form (λ t. branch_times t (number + 1) rs forms) out (λ t ts e. branch_open rs t (number + 1) forms ts e) h in
    subst (AreOpen (Answered v ∷ rs)) q.same q.others
branch_open (Misfit ∷ rs) before number (form ∷ forms) out h =
    let q = one_opened before Misfit rs number form (λ t. branch_times t (number + 1) rs forms) out (λ t ts e. branch_open rs t (number + 1) forms ts e) h in
    subst (AreOpen (Misfit ∷ rs)) q.same q.others
branch_open (Failed ∷ rs) before number (form ∷ forms) out h =
    let q = one_opened before Failed rs number form (λ t. branch_times t (number + 1) rs forms) out (λ t ts e. branch_open rs t (number + 1) forms ts e) h in
    subst (AreOpen (Failed ∷ rs)) q.same q.others
branch_open (NotRun ∷ rs) before number (form ∷ forms) out h = branch_open rs before (number + 1) (form ∷ forms) out h
branch_open (Unknown ∷ rs) before number (form ∷ forms) out h =
    let q = one_opened before Unknown rs number form (λ t. branch_times t (number + 1) rs forms) out (λ t ts e. branch_open rs t (number + 1) forms ts e) h in
    subst (AreOpen (Unknown ∷ rs)) q.same (joined_true (is_open q.time) (are_open rs q.times) q.may q.others)

from_open : (rss : List (List Reply)) (lists : List Form) (before : ℕ) (out : List (List CallTime)) → times_from before rss lists ≡ Ok out → all_open rss out ≡ true
from_open [] lists before out h = refl
from_open (rs ∷ rss) [] before out h =
    let same : [] ≡ out = cc in let P : List (List CallTime) → Type 0 = λ out. all_open (rs ∷ rss) out ≡ true in subst P same refl
from_open (rs ∷ rss) (list ∷ lists) before out h =
    let more = times_from (before + length rs) rss lists in
    let one = bound (branch_times at_first (before + 1) rs (listed list)) (λ ts. then_more ts more) out h in
    let rest = first_and_more one.0 more out one.2 in
    let P : List (List CallTime) → Type 0 = λ out. all_open (rs ∷ rss) out ≡ true in
    subst P rest.2 (joined_true (are_open rs one.0) (all_open rss rest.0)
    (branch_open rs at_first (before + 1) (listed list) one.0 one.1)
    (from_open rss lists (before + length rs) rest.0 rest.1))

-- ---- the times of all branches

from_read : (rss : List (List Reply)) (lists : List Form) (before : ℕ) (out : List (List CallTime)) → are_times_counted rss lists ≡ true
    → times_from before rss lists ≡ Ok out → fit (map called rss) out ≡ true
unfolding fit
from_read [] lists before out k h =
    let same : [] ≡ out = cc in let P : List (List CallTime) → Type 0 = λ out. fit [] out ≡ true in subst P same refl
from_read (rs ∷ rss) [] before out k h = absurd (cc)
from_read (rs ∷ rss) (list ∷ lists) before out k h =
    let counts = both (length (listed list) == called rs) (are_times_counted rss lists) k in
    let more = times_from (before + length rs) rss lists in
    let one = bound (branch_times at_first (before + 1) rs (listed list)) (λ ts. then_more ts more) out h in
    let rest = first_and_more one.0 more out one.2 in
    let q = branch_read rs at_first (before + 1) (listed list) one.0 (eqb-true _ _ counts.0) one.1 in
    let P : List (List CallTime) → Type 0 = λ out. fit (called rs ∷ map called rss) out ≡ true in
    subst P rest.2 (joined_true ((length one.0 == called rs) && are_in_turn one.0) (fit (map called rss) rest.0)
    (joined_true (length one.0 == called rs) (are_in_turn one.0) (eq-eqb _ _ q.number) q.all)
    (from_read rss lists (before + length rs) rest.0 counts.1 rest.1))

-- they fit, and no call of unknown outcome has a completion
counted_read : (rss : List (List Reply)) (lists : List Form) (before : ℕ) (out : List (List CallTime)) (b : Bool) → are_times_counted rss lists ≡ b
    → (if b then times_from before rss lists else Err 0) ≡ Ok out → (fit (map called rss) out && all_open rss out) ≡ true
counted_read rss lists before out true k h =
    joined_true (fit (map called rss) out) (all_open rss out) (from_read rss lists before out k h) (from_open rss lists before out h)
counted_read rss lists before out false k h = absurd (cc)

-- ---- the history

-- it has times that fit its calls, if it has times, and else it is as before
pub record IsTimed (m : Source) (c : Case) (h : History) : Type 0 where
  pub matching : matches m c h ≡ true
  pub times : times_of_calls h ≡ h.times

same_matches : (m : Source) (c : Case) (h : History) (times : List (List CallTime)) → matches m c h ≡ true → matches m c (timed h times) ≡ true
unfolding matches
same_matches m c h times e = e

untimed : (h : History) → h.times ≡ None → times_of_calls h ≡ h.times
untimed h e = ap (times_for h.branches) e ∙ sym e

fitting : (h : History) (times : List (List CallTime)) → (fit (map called h.branches) times && all_open h.branches times) ≡ true
    → times_of_calls (timed h times) ≡ Some times
fitting h times e = ap (λ b. if b then Some times else None) e

pub times_read : (m : Source) (c : Case) (h : History) (lists : Option (List Form)) (out : History) → matches m c h ≡ true → h.times ≡ None
    → timed_history h lists ≡ Ok out → IsTimed m c out
times_read m c h None out e n q =
    let same : h ≡ out = cc in subst (IsTimed m c) same (record { matching = e; times = untimed h n })
times_read m c h (Some lists) out e n q =
    let one = bound (times_of h lists) (λ times. Ok (timed h times)) out q in
    let f = one.2 in
    let same : timed h one.0 ≡ out = cc in
    subst (IsTimed m c) same (record {
      matching = same_matches m c h one.0 e;
      times = fitting h one.0 (counted_read h.branches lists (length h.prefix) one.0 (are_times_counted h.branches lists) refl one.1);
    })
