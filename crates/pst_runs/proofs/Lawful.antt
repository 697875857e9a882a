-- Each run that is read may be judged: its case is one of the model, its history matches the case, and its times
-- fit its calls.
use Rattle.std.proofs.Common.{◌≡◌, ℕ, ◌+◌, ◌≤◌, ◌&&◌, ◌==◌, Bool, true, false, if◌then◌else◌, List, [], ◌∷◌, length, Option, Some, None, Result, Ok, Err, refl, ap, subst, eqb-true, length-append, arith}
use Rattle.pst_case.specs.Matches.{reply_fits, part_matches, branches_match, matches}
use Rattle.pst_case.specs.Shape.{IsShaped, joined, result_type, before_suffix}
use Rattle.pst_case.specs.declared.case.Case.{Case}
use Rattle.pst_case.specs.declared.case.Command.{Command}
use Rattle.pst_case.specs.declared.shaping.CaseFault.{CaseFault}
use Rattle.pst_case.specs.declared.history.History.{History}
use Rattle.pst_case.specs.declared.history.Reply.{Reply}
use Rattle.pst_case.specs.declared.history.Reply.TheVariants as reply
use Rattle.pst_case.specs.declared.history.Run.{Run}
use Rattle.pst_model.specs.Fitting.{fits_in}
use Rattle.pst_model.specs.declared.model.Source.{Source}
use Rattle.pst_runs.proofs.Bound.{both, joined_true, bound, first_and_more, there}
use Rattle.pst_runs.proofs.Limits.{shaped-within}
use Rattle.pst_runs.proofs.Timed.{times_read}
use Rattle.pst_runs.specs.Forms.{Parts, parts_of}
use Rattle.pst_runs.specs.Items.{run as run_with, with_times, with_history, run_of, unless_fault, of_parts, item_of, numbered, runs_from, runs_of}
use Rattle.pst_runs.specs.Lawful.{IsLawful, AreLawful}
use Rattle.pst_runs.specs.Reading.{readable_case, case_fault}
use Rattle.pst_runs.specs.Replies.{◌>>=◌, then_more, or_number, listed, listed_at, answered, reply_word, or_value, reply_of, part_replies, branch_replies, history_of, branches_count, are_counted}
use Rattle.pst_runs.specs.Times.{timed_history}
use Rattle.pst_runs.specs.Values.{value_of, in_replies}
use Rattle.pst_sexpr.specs.Parts.{and_then, word_of}
use Rattle.pst_runs.specs.declared.reader.ItemFault.{ItemFault}
use Rattle.pst_runs.specs.declared.reader.RunFaultKind.TheVariants.{NotAFit}
use Rattle.pst_sexpr.specs.declared.form.Form.{Form}
use Rattle.pst_value.specs.declared.value.Value.{Value}
use Rattle.std.specs.Str.{bytes_eq}
use Rattle.std.specs.Prelude.{codes}

-- ---- what stands behind an Ok

unfaulted : (f : Option CaseFault) (r : Result Run ItemFault) (run : Run) → unless_fault f r ≡ Ok run → r ≡ Ok run
unfaulted None r run h = h
unfaulted (Some fault) r run h = absurd (cc)

unnumbered : (number : ℕ) (r : Result Run ItemFault) (run : Run) → numbered number r ≡ Ok run → r ≡ Ok run
unnumbered number (Ok other) run h = let e : other ≡ run = cc in ap (λ x. Ok x) e
unnumbered number (Err fault) run h = absurd (cc)

module _ (m : Source) where
  -- ---- replies

  no_value : (c : Command) (a b d e : Bool) (said : Reply)
      → (if a then Some reply.Misfit else if b then Some reply.Failed else if d then Some reply.NotRun else if e then Some reply.Unknown else None) ≡ Some said
      → reply_fits m c said ≡ true
  no_value c true b d e said h = let e : reply.Misfit ≡ said = cc in let P : Reply → Type 0 = λ r. reply_fits m c r ≡ true in subst P e refl
  no_value c false true d e said h = let e : reply.Failed ≡ said = cc in let P : Reply → Type 0 = λ r. reply_fits m c r ≡ true in subst P e refl
  no_value c false false true e said h = let e : reply.NotRun ≡ said = cc in let P : Reply → Type 0 = λ r. reply_fits m c r ≡ true in subst P e refl
  no_value c false false false true said h = let e : reply.Unknown ≡ said = cc in let P : Reply → Type 0 = λ r. reply_fits m c r ≡ true in subst P e refl
  no_value c false false false false said h = absurd (cc)

  word_fits : (c : Command) (word : Option (List ℕ)) (said : Reply) → reply_word word ≡ Some said → reply_fits m c said ≡ true
  word_fits c None said h = absurd (cc)
  word_fits c (Some word) said h =
      no_value c (bytes_eq word (codes "misfit")) (bytes_eq word (codes "failed")) (bytes_eq word (codes "not-run")) (bytes_eq word (codes "unknown")) said h

  chosen : (c : Command) (v : Value) (b : Bool) → fits_in m [] [] v (result_type m c) ≡ b → reply_fits m c (if b then reply.Value v else reply.Misfit) ≡ true
  chosen c v true e = e
  chosen c v false e = refl

  answered_fits : (c : Command) (v : Value) → reply_fits m c (answered m c v) ≡ true
  answered_fits c v = chosen c v (fits_in m [] [] v (result_type m c)) refl

  either_fits : (c : Command) (word : Option Reply) (v : Option Value) (said : Reply) → ((r : Reply) → word ≡ Some r → reply_fits m c r ≡ true)
      → or_value word (and_then v (λ v. Some (answered m c v))) ≡ Some said → reply_fits m c said ≡ true
  either_fits c (Some r) v said p h = let e : r ≡ said = cc in let P : Reply → Type 0 = λ r. reply_fits m c r ≡ true in subst P e (p r refl)
  either_fits c None None said p h = absurd (cc)
  either_fits c None (Some v) said p h = let e : answered m c v ≡ said = cc in let P : Reply → Type 0 = λ r. reply_fits m c r ≡ true in subst P e (answered_fits c v)

  -- a reply that is read fits its command
  reply_of_fits : (c : Command) (form : Form) (said : Reply) → reply_of m c form ≡ Some said → reply_fits m c said ≡ true
  unfolding reply_of
  reply_of_fits c form said h = either_fits c (reply_word (word_of form)) (value_of (in_replies m) form) said (word_fits c (word_of form)) h

  -- the replies that are read match their commands
  part_read : (cs : List Command) (forms : List Form) (number : ℕ) (out : List Reply) → length forms ≡ length cs
      → part_replies m number cs forms ≡ Ok out → part_matches m cs out ≡ true
  part_read [] forms number out l h =
      let e : [] ≡ out = cc in let P : List Reply → Type 0 = λ rs. part_matches m [] rs ≡ true in subst P e refl
  part_read (c ∷ cs) [] number out l h = absurd (omega arith)
  part_read (c ∷ cs) (form ∷ forms) number out l h =
      let more = part_replies m (number + 1) cs forms in
      let first = bound (or_number number (reply_of m c form)) (λ r. then_more r more) out h in
      let rest = first_and_more first.0 more out first.2 in
      let fits = reply_of_fits c form first.0 (there number (reply_of m c form) first.0 first.1) in
      let P : List Reply → Type 0 = λ rs. part_matches m (c ∷ cs) rs ≡ true in
      subst P rest.2 (joined_true (reply_fits m c first.0) (part_matches m cs rest.0) fits
      (part_read cs forms (number + 1) rest.0 (omega arith) rest.1))

  whole_part : (cs : List Command) (forms : List Form) (number : ℕ) (out : List Reply) → (length forms == length cs) ≡ true
      → part_replies m number cs forms ≡ Ok out → part_matches m cs out ≡ true
  whole_part cs forms number out l h = part_read cs forms number out (eqb-true _ _ l) h

  branches_read : (bs : List (List Command)) (lists : List Form) (before : ℕ) (out : List (List Reply)) → branches_count bs lists ≡ true
      → branch_replies m before bs lists ≡ Ok out → branches_match m bs out ≡ true
  branches_read [] lists before out k h =
      let e : [] ≡ out = cc in let P : List (List Reply) → Type 0 = λ rs. branches_match m [] rs ≡ true in subst P e refl
  branches_read (b ∷ bs) [] before out k h = absurd (cc)
  branches_read (b ∷ bs) (list ∷ lists) before out k h =
      let counts = both (length (listed list) == length b) (branches_count bs lists) k in
      let more = branch_replies m (before + length b) bs lists in
      let first = bound (part_replies m (before + 1) b (listed list)) (λ rs. then_more rs more) out h in
      let rest = first_and_more first.0 more out first.2 in
      let P : List (List Reply) → Type 0 = λ rs. branches_match m (b ∷ bs) rs ≡ true in
      subst P rest.2 (joined_true (part_matches m b first.0) (branches_match m bs rest.0)
      (whole_part b (listed list) (before + 1) first.0 counts.0 first.1)
      (branches_read bs lists (before + length b) rest.0 counts.1 rest.1))

  -- the history that is read matches the case, and has no times yet
  history_matches : (c : Case) (lists : List Form) (h : History) → are_counted c lists ≡ true → history_of m c lists ≡ Ok h
      → (matches m c h ≡ true) × (h.times ≡ None)
  unfolding matches
  history_matches c [] h k e = absurd (cc)
  history_matches c (list ∷ lists) h k e =
      let history : List Reply → List (List Reply) → List Reply → History = λ p bs s. record { prefix = p; branches = bs; suffix = s; times = None } in
      let last = listed_at lists (length c.branches) in
      let counts = both ((length (listed list) == length c.prefix) && branches_count c.branches lists) (length last == length c.suffix) k in
      let others = both (length (listed list) == length c.prefix) (branches_count c.branches lists) counts.0 in
      let suffix = part_replies m (before_suffix c + 1) c.suffix last in
      let branches = branch_replies m (length c.prefix) c.branches lists in
      let p = bound (part_replies m 1 c.prefix (listed list)) (λ p. branches >>= (λ bs. suffix >>= (λ s. Ok (history p bs s)))) h e in
      let bs = bound branches (λ bs. suffix >>= (λ s. Ok (history p.0 bs s))) h p.2 in
      let s = bound suffix (λ s. Ok (history p.0 bs.0 s)) h bs.2 in
      let same : history p.0 bs.0 s.0 ≡ h = let f = s.2 in cc in
      let P : History → Type 0 =
      λ h. ((part_matches m c.prefix h.prefix && branches_match m c.branches h.branches && part_matches m c.suffix h.suffix) ≡ true) × (h.times ≡ None) in
      let first = whole_part c.prefix (listed list) 1 p.0 others.0 p.1 in
      let middle = branches_read c.branches lists (length c.prefix) bs.0 others.1 bs.1 in
      let end = whole_part c.suffix last (before_suffix c + 1) s.0 counts.1 s.1 in
      subst P same (
        joined_true (part_matches m c.prefix p.0 && branches_match m c.branches bs.0) (part_matches m c.suffix s.0)
            (joined_true (part_matches m c.prefix p.0) (branches_match m c.branches bs.0) first middle) end,
        refl,
      )

  -- ---- its numbers

  part_length : (cs : List Command) (rs : List Reply) → part_matches m cs rs ≡ true → length rs ≡ length cs
  part_length [] [] e = refl
  part_length [] (r ∷ rs) e = absurd (cc)
  part_length (c ∷ cs) [] e = absurd (cc)
  part_length (c ∷ cs) (r ∷ rs) e =
      let n = part_length cs rs (both (reply_fits m c r) (part_matches m cs rs) e).1 in
      omega arith

  branches_length : (bs : List (List Command)) (rss : List (List Reply)) → branches_match m bs rss ≡ true → length (joined rss) ≡ length (joined bs)
  branches_length [] [] e = refl
  branches_length [] (rs ∷ rss) e = absurd (cc)
  branches_length (b ∷ bs) [] e = absurd (cc)
  branches_length (b ∷ bs) (rs ∷ rss) e =
      let p = both (part_matches m b rs) (branches_match m bs rss) e in
      let n = part_length b rs p.0 in
      let k = branches_length bs rss p.1 in
      let l = length-append rs (joined rss) in
      let r = length-append b (joined bs) in
      omega arith

  matching_length : (c : Case) (h : History) → matches m c h ≡ true → length h.prefix + length (joined h.branches) ≡ before_suffix c
  unfolding matches
  matching_length c h e =
      let p = both (part_matches m c.prefix h.prefix && branches_match m c.branches h.branches) (part_matches m c.suffix h.suffix) e in
      let q = both (part_matches m c.prefix h.prefix) (branches_match m c.branches h.branches) p.0 in
      let n = part_length c.prefix h.prefix q.0 in
      let k = branches_length c.branches h.branches q.1 in
      omega arith

  -- at most 80 commands before the suffix
  pub history_within : (c : Case) (lists : List Form) (h : History) → IsShaped m c → are_counted c lists ≡ true → history_of m c lists ≡ Ok h
      → length h.prefix + length (joined h.branches) ≤ 88
  history_within c lists h s k e =
      let n = matching_length c h (history_matches c lists h k e).0 in
      let w = shaped-within m c s in
      omega arith

  -- ---- items

  timed_run : (c : Case) (h : History) (times : Option (List Form)) (run : Run) (r : Result History ℕ) → timed_history h times ≡ r
      → matches m c h ≡ true → h.times ≡ None → with_times m c r ≡ Ok run → IsLawful m run
  timed_run c h times run (Ok t) q e n o =
      let same : run_with m c (Some t) ≡ run = cc in
      let l = times_read m c h times t e n q in
      subst (IsLawful m) same (record { model = refl; matching = l.matching; timed = l.times })
  timed_run c h times run (Err number) q e n o = absurd (cc)

  counted_run : (c : Case) (times : Option (List Form)) (run : Run) (counted : Bool) (r : Result History ℕ)
      → (counted ≡ true → (h : History) → r ≡ Ok h → (matches m c h ≡ true) × (h.times ≡ None))
      → (if counted then with_history m c times r else Err (record { kind = NotAFit; command = 0 })) ≡ Ok run → IsLawful m run
  counted_run c times run true (Ok h) p e =
      let q = p refl h refl in timed_run c h times run (timed_history h times) refl q.0 q.1 e
  counted_run c times run true (Err number) p e = absurd (cc)
  counted_run c times run false r p e = absurd (cc)

  run_lawful : (c : Case) (replies times : Option (List Form)) (run : Run) → run_of m c replies times ≡ Ok run → IsLawful m run
  run_lawful c None times run e =
      let same : run_with m c None ≡ run = cc in subst (IsLawful m) same (record { model = refl; matching = tt; timed = tt })
  run_lawful c (Some lists) times run e =
      counted_run c times run (are_counted c lists) (history_of m c lists) (λ k h. history_matches c lists h k) e

  parts_lawful : (parts : Option Parts) (run : Run) → of_parts m parts ≡ Ok run → IsLawful m run
  parts_lawful None run e = absurd (cc)
  parts_lawful (Some parts) run e =
      let case = readable_case parts.read in
      let whole = run_of m case parts.replies parts.times in
      run_lawful case parts.replies parts.times run (unfaulted (case_fault m parts.read) whole run e)

  item_lawful : (form : Form) (run : Run) → item_of m form ≡ Ok run → IsLawful m run
  unfolding item_of
  item_lawful form run e = parts_lawful (parts_of m form) run e

  all_lawful : (forms : List Form) (number : ℕ) (runs : List Run) → runs_from m number forms ≡ Ok runs → AreLawful m runs
  all_lawful [] number runs e = let same : [] ≡ runs = cc in subst (AreLawful m) same tt
  all_lawful (form ∷ forms) number runs e =
      let more = runs_from m (number + 1) forms in
      let first = bound (numbered number (item_of m form)) (λ run. then_more run more) runs e in
      let rest = first_and_more first.0 more runs first.2 in
      let lawful = item_lawful form first.0 (unnumbered number (item_of m form) first.0 first.1) in
      subst (AreLawful m) rest.2 (lawful, all_lawful forms (number + 1) rest.0 rest.1)

  -- the runs that are read may be judged
  pub runs_lawful : (forms : List Form) (runs : List Run) → runs_of m forms ≡ Ok runs → AreLawful m runs
  runs_lawful forms runs e = all_lawful forms 1 runs e
