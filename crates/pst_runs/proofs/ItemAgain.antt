-- A lawful run is read again from what is written for it.
use Rattle.std.proofs.Common.{◌≡◌, ℕ, ◌+◌, ◌&&◌, Bool, true, false, length, List, [], ◌∷◌, ◌++◌, map, Option, Some, None, Ok, Err, refl, sym, ap, ◌∙◌, subst, eq-eqb, arith}
use Rattle.std.specs.Prelude.{IfSome, codes, if◌then◌else◌}
use Rattle.std.specs.Str.{bytes_eq}
use Rattle.std.proofs.lemmas.List.{length-map}
use Rattle.pst_case.specs.Matches.{matches}
use Rattle.pst_case.specs.Shape.{IsShaped}
use Rattle.pst_case.specs.declared.case.Case.{Case}
use Rattle.pst_case.specs.Times.{called, fit}
use Rattle.pst_case.specs.Unknown.{all_open, times_for, times_of_calls}
use Rattle.pst_case.specs.declared.history.CallTime.{CallTime}
use Rattle.pst_case.specs.declared.history.History.{History}
use Rattle.pst_case.specs.declared.history.Run.{Run}
use Rattle.pst_model.specs.Language.{KeepsLanguage}
use Rattle.pst_model.specs.Operations.{HasOperations}
use Rattle.pst_model.specs.declared.model.Source.{Source}
use Rattle.pst_model.specs.WellTyped.{WellModel}
use Rattle.pst_runs.specs.Forms.{Parts, are_time_lists, with_replies, case_parts, run_parts, item_in, parts_of}
use Rattle.pst_runs.specs.Items.{run as run_with, with_times, with_history, run_of, unless_fault, of_parts, item_of, numbered, runs_from, runs_of}
use Rattle.pst_runs.specs.Lawful.{IsLawful}
use Rattle.pst_runs.specs.Reading.{readable_case}
use Rattle.pst_runs.specs.Replies.{◌>>=◌, then_more, history_of}
use Rattle.pst_runs.specs.Times.{timed_history}
use Rattle.pst_sexpr.proofs.Numbers.{both_hold, both_from}
use Rattle.pst_sexpr.specs.Parts.{and_then}
use Rattle.pst_runs.specs.declared.reader.RunFaultKind.TheVariants.{NotAFit}
use Rattle.pst_sexpr.specs.Bytes.{is_word_byte}
use Rattle.pst_sexpr.specs.Lawful.{IsTree, AreTrees}
use Rattle.pst_sexpr.specs.declared.form.Form.TheVariants.{Word}
use Rattle.pst_sexpr.specs.declared.form.Form.{Form}
use Rattle.pst_runs.proofs.CaseAgain.{CaseAgain, whole_case, sections, case_again, case_read, run_read, timed_read, case_sized}
use Rattle.pst_runs.proofs.CommandAgain.{whole_part, node_is, word_is}
use Rattle.pst_runs.proofs.ReplyAgain.{lists_of, history_sized, parts_match, lists_read, branches_number, history_counted, history_read}
use Rattle.pst_runs.proofs.Sized.{AllSized, wider, all_wider, more_sized, all_sized, headed_sized}
use Rattle.pst_runs.proofs.TimesAgain.{times_again, number_fits, times_are_nodes, times_sized}
use Rattle.pst_runs.proofs.WholeAgain.{readable_is, no_fault}
use Rattle.pst_runs.specs.ReadAgain.{IsRead, AreRead, AreSmallTimes, HasSmallTimes}
use Rattle.pst_runs.specs.Written.{case_forms, replies_form, times_form, times_forms, item_form, run_form, run_forms}

-- the tree of an item has a spelling, and is read as the run
record ItemAgain (m : Source) (c : Case) (history : Option History) : Type 0 where
  lawful : IsTree (item_form m c history)
  reads : item_of m (item_form m c history) ≡ Ok (run_with m c history)

-- the times fit the calls of a history, and no call of unknown outcome has a completion
abbrev Fitting : History → Option (List (List CallTime)) → Type 0
Fitting h times = IfSome times (λ times. (fit (map called h.branches) times && all_open h.branches times) ≡ true)

chosen : (b : Bool) (times : List (List CallTime)) → (if b then Some times else None) ≡ Some times → b ≡ true
chosen true times e = refl
chosen false times e = absurd (cc)

fits_of : (h : History) (times : Option (List (List CallTime))) → times_for h.branches times ≡ times → Fitting h times
fits_of h None e = tt
fits_of h (Some times) e = chosen (fit (map called h.branches) times && all_open h.branches times) times e

module _ (m : Source) (model : WellModel m) (has : HasOperations m.items) (language : KeepsLanguage m) where
  abbrev parts : Case → (replies times : Option (List Form)) → Parts
  parts c replies times = record { read = whole_case c; replies = replies; times = times }

  case_parts_read : (c : Case) → CaseAgain m c → parts_of m (item_form m c None) ≡ Some (parts c None None)
  unfolding parts_of
  case_parts_read c a =
      let forms = case_forms m c in
      ap (λ o. and_then o (item_in m)) (node_is (Word (codes "case") ∷ forms))
      ∙ ap (λ o. and_then o (λ head. if bytes_eq head (codes "case") then case_parts m forms else if bytes_eq head (codes "run") then run_parts m forms else None)) (word_is (codes "case"))
      ∙ case_read m c a

  -- ---- what stands behind the case

  -- the lists of times
  abbrev time_lists : Option (List (List CallTime)) → Option (List Form)
  time_lists None = None
  time_lists (Some times) = Some (map times_form times)

  end_read : (c : Case) (h : History) (times : Option (List (List CallTime))) → CaseAgain m c
      → run_parts m (case_forms m c ++ replies_form h ∷ times_forms times) ≡ with_replies (replies_form h) (time_lists times) (sections m c) (whole_case c)
  end_read c h None a = run_read m c (lists_of h) a
  end_read c h (Some times) a = timed_read m c (replies_form h) (map times_form times) a

  are_lists : (c : Case) (h : History) (times : Option (List (List CallTime))) → matches m c h ≡ true → Fitting h times
      → are_time_lists (time_lists times) (whole_case c) ≡ true
  are_lists c h None e t = refl
  are_lists c h (Some times) e t =
      let n = length-map times times_form in
      let k = number_fits h.branches times (both_hold (fit (map called h.branches) times) (all_open h.branches times) t).0 in
      let l = branches_number m model has language c.branches h.branches (parts_match m model has language c h e).branches in
      let w = length-map c.branches whole_part in
      both_from _ _ (eq-eqb _ _ (omega arith)) (times_are_nodes times)

  run_parts_read : (c : Case) (h : History) → CaseAgain m c → matches m c h ≡ true → Fitting h h.times
      → parts_of m (item_form m c (Some h)) ≡ Some (parts c (Some (lists_of h)) (time_lists h.times))
  unfolding parts_of
  run_parts_read c h a e t =
      let forms = case_forms m c ++ replies_form h ∷ times_forms h.times in
      ap (λ o. and_then o (item_in m)) (node_is (Word (codes "run") ∷ forms))
      ∙ ap (λ o. and_then o (λ head. if bytes_eq head (codes "case") then case_parts m forms else if bytes_eq head (codes "run") then run_parts m forms else None)) (word_is (codes "run"))
      ∙ end_read c h h.times a
      ∙ lists_read m model has language c h (time_lists h.times) e (are_lists c h h.times e t)

  abbrev with : History → Option (List (List CallTime)) → History
  with h times = record { prefix = h.prefix; branches = h.branches; suffix = h.suffix; times = times }

  times_read : (h : History) (times : Option (List (List CallTime))) → Fitting h times → IfSome times AreSmallTimes
      → timed_history (with h None) (time_lists times) ≡ Ok (with h times)
  times_read h None t s = refl
  times_read h (Some times) t s =
      let p = both_hold (fit (map called h.branches) times) (all_open h.branches times) t in
      times_again (with h None) times p.0 p.1 s

  -- the case is read again
  again : (c : Case) (replies times : Option (List Form)) → IsShaped m c → of_parts m (Some (parts c replies times)) ≡ run_of m c replies times
  again c replies times s =
      ap (λ f. unless_fault f (run_of m (readable_case (whole_case c)) replies times)) (no_fault m c s)
      ∙ ap (λ c. run_of m c replies times) (readable_is c)

  -- the parts behind a case have a spelling
  end_sized : (c : Case) (h : History) → CaseAgain m c → matches m c h ≡ true → IfSome h.times AreSmallTimes
      → AllSized 35 (replies_form h ∷ times_forms h.times)
  end_sized c h a e s =
      more_sized (wider 35 (history_sized m model has language c h a e) (omega arith)) (all_wider 35 (times_sized h.times s) (omega arith))

  item_again : (c : Case) (history : Option History) → IsShaped m c → IfSome history (λ h. matches m c h ≡ true) → IfSome history (λ h. times_of_calls h ≡ h.times)
      → IfSome history HasSmallTimes → ItemAgain m c history
  unfolding item_of is_word_byte
  item_again c None s e t b =
      let a = case_again m model has language c s in
      record {
        lawful = (headed_sized _ _ refl (case_sized m c a) (omega arith)).lawful;
        reads = ap (of_parts m) (case_parts_read c a) ∙ again c None None s;
      }
  item_again c (Some h) s e t b =
      let a = case_again m model has language c s in
      let lists = lists_of h in
      let times = time_lists h.times in
      let fits = fits_of h h.times t in
      record {
        lawful = (headed_sized _ _ refl (all_sized (case_forms m c) _ (case_sized m c a) (end_sized c h a e b)) (omega arith)).lawful;
        reads =
            ap (of_parts m) (run_parts_read c h a e fits) ∙ again c (Some lists) times s
            ∙ ap (λ b. if b then with_history m c times (history_of m c lists) else Err (record { kind = NotAFit; command = 0 })) (history_counted m model has language c h e)
            ∙ ap (with_history m c times) (history_read m model has language c h a e)
            ∙ ap (with_times m c) (times_read h h.times fits b);
      }

  -- what is written of a lawful run has a spelling
  pub written_lawful : (run : Run) → IsLawful m run → IsShaped m run.shaped.case → IfSome run.history HasSmallTimes → IsTree (run_form m run)
  written_lawful run h s b = (item_again run.shaped.case run.history s h.matching h.timed b).lawful

  -- it is read as the run
  pub written_read : (run : Run) → IsLawful m run → IsShaped m run.shaped.case → IfSome run.history HasSmallTimes → item_of m (run_form m run) ≡ Ok run
  written_read run h s b =
      let same : run_with m run.shaped.case run.history ≡ run =
      ap (λ n. run_with n run.shaped.case run.history) (sym h.model) in
      (item_again run.shaped.case run.history s h.matching h.timed b).reads ∙ ap (λ r. Ok r) same

-- ---- all runs

module _ (m : Source) where
  all_read : (number : ℕ) (runs : List Run) → AreRead m runs → runs_from m number (run_forms m runs) ≡ Ok runs
  all_read number [] h = refl
  all_read number (run ∷ runs) h =
      let more = runs_from m (number + 1) (run_forms m runs) in
      ap (λ r. numbered number r >>= (λ run. then_more run more)) h.0.read
      ∙ ap (then_more run) (all_read (number + 1) runs h.1)

  pub runs_read : (runs : List Run) → AreRead m runs → runs_of m (run_forms m runs) ≡ Ok runs
  runs_read runs h = all_read 1 runs h

  pub runs_lawful : (runs : List Run) → AreRead m runs → AreTrees (run_forms m runs)
  runs_lawful [] h = tt
  runs_lawful (run ∷ runs) h = (h.0.lawful, runs_lawful runs h.1)

-- ---- what the types of the model and of the case keep

pub lawful_is_read : (m n : Source) (run : Run) → n ≡ m → IsShaped run.shaped.model run.shaped.case → WellModel n → HasOperations n.items → KeepsLanguage n
    → IfSome run.history HasSmallTimes → IsLawful m run → IsRead m run
lawful_is_read m n run same shape model has language small h =
    let P : Source → Type 0 = λ m. HasOperations m.items in
    let well : WellModel m = subst WellModel same model in
    let operations : HasOperations m.items = subst P same has in
    let speaks : KeepsLanguage m = subst KeepsLanguage same language in
    let shaped : IsShaped m run.shaped.case = subst (λ m. IsShaped m run.shaped.case) h.model shape in
    record {
      lawful = written_lawful m well operations speaks run h shaped small;
      read = written_read m well operations speaks run h shaped small;
    }

-- a form that is the tree of the run
pub form_is : (m n : Source) (c : Case) (run : Run) {form : Form} → form ≡ item_form n c run.history → n ≡ m → c ≡ run.shaped.case
    → form ≡ run_form m run
form_is m n c run is same case = is ∙ ap (λ n. item_form n c run.history) same ∙ ap (λ c. item_form m c run.history) case
