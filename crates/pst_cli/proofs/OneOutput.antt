-- An input has one output.
use Rattle.std.proofs.Common.{◌≡◌, ◌≤◌, ◌+◌, ℕ, List, [], ◌∷◌, ◌++◌, length, Ok, Err, refl, sym, ap, ◌∙◌, subst}
use Rattle.std.specs.Prelude.{◌&&◌, Result, codes, decimal, if◌then◌else◌}
use Rattle.std.specs.List.{list_all}
use Rattle.pst_case.specs.declared.history.Run.{Run}
use Rattle.pst_cli.specs.Head.{refusal_line, line_end}
use Rattle.pst_typing.specs.Loading.{IsFile, Holds, items_of, IsRefusal}
use Rattle.pst_cli.specs.Output.{IsCheckOutput, ok_line, HoldsRuns, IsFirstRefusal, IsJudgeOutput, run_line, AreJudged, item_line, item_lines, is_explained, is_good, status_of}
use Rattle.pst_cli.specs.Output as output
use Rattle.pst_cli.proofs.OneOfCalls.{one_by_any}
use Rattle.pst_cli.specs.OneOutput.{OneCheckOutput, OneJudgeOutput}
use Rattle.pst_typing.specs.declared.loading.Refusal.{Refusal}
use Rattle.pst_typing.specs.declared.loading.Refusal.TheVariants.{Unread, NoModel, IllTyped}
use Rattle.pst_cli.specs.declared.answer.Status.{Status}
use Rattle.pst_cli.specs.declared.answer.Status.TheVariants.{Accepted, Failed}
use Rattle.pst_judge.specs.JudgedText.{judged_text, why_text, case_fault_text}
use Rattle.pst_judge.specs.Same.{SameVerdict, SameWhy, SameJudgement, OneJudgement}
use Rattle.pst_judge.specs.VerdictText.{verdict_text, word_text, fault_text}
use Rattle.pst_judge.specs.declared.by_order.CallOrder.TheVariants.{Any}
use Rattle.pst_judge.specs.declared.judgement.Judged.{Judged}
use Rattle.pst_judge.specs.declared.judgement.Judged.TheVariants.{Verdict as Told, Valid, Invalid}
use Rattle.pst_judge.specs.declared.judgement.Verdict.{Verdict}
use Rattle.pst_judge.specs.declared.judgement.Verdict.TheVariants.{Explained, Faulted, Unexplained, Broken}
use Rattle.pst_judge.specs.declared.validated.Why.{Why}
use Rattle.pst_judge.specs.declared.validated.Why.TheVariants.{PreFalse, CallbackFault, NoMemory}
use Rattle.pst_model.specs.declared.model.Source.{Source}
use Rattle.pst_model.specs.WellTyped.{WellModel}
use Rattle.pst_runs.specs.Items.{runs_of}
use Rattle.pst_sexpr.specs.Reading.{max_bytes, Spells, IsFault}
use Rattle.pst_sexpr.specs.declared.reader.SexprFault.{SexprFault}
use Rattle.pst_sexpr.specs.declared.form.Form.{Form}
use Rattle.pst_syntax.specs.Items.{model_of}
use Rattle.pst_typing.specs.Least.{IsIll}
use Rattle.pst_typing.specs.Laws.{IllIsNotWell, OneIsIll}

-- what is known of the parts: a reading, a fault, an ill item and a judgement are the only ones
pub record OfParts : Type 0 where
  pub reading : (bytes : List ℕ) (trees others : List Form) → Spells bytes trees → Spells bytes others → trees ≡ others
  pub fault : (bytes : List ℕ) (fault other : SexprFault) → IsFault bytes fault → IsFault bytes other → fault ≡ other
  pub either : (bytes : List ℕ) (trees : List Form) (fault : SexprFault) → length bytes ≤ max_bytes → Spells bytes trees → IsFault bytes fault → ⊥
  pub ill : OneIsIll
  pub not_well : IllIsNotWell
  pub judgement : OneJudgement

abbrev SameOutput : List ℕ → List ℕ → Status → Status → Type 0
SameOutput text other status ending = (text ≡ other) × (status ≡ ending)

is_ok : {A E : Type 0} (r : Result A E) (a b : A) → r ≡ Ok a → r ≡ Ok b → a ≡ b
is_ok (Ok c) a b p q = cc
is_ok (Err c) a b p q = absurd (cc)

is_err : {A E : Type 0} (r : Result A E) (a b : E) → r ≡ Err a → r ≡ Err b → a ≡ b
is_err (Ok c) a b p q = absurd (cc)
is_err (Err c) a b p q = cc

not_both : {A E : Type 0} (r : Result A E) (a : A) (b : E) → r ≡ Ok a → r ≡ Err b → ⊥
not_both (Ok c) a b p q = absurd (cc)
not_both (Err c) a b p q = absurd (cc)

-- ---- the beginning of an input

one_file : (k : OfParts) (input : List ℕ) (trees others : List Form) → IsFile input trees → IsFile input others → trees ≡ others
one_file k input trees others p q = k.reading input trees others p.spelled q.spelled

one_model : (k : OfParts) (input : List ℕ) (m n : Source) (trees others : List Form) → Holds input m trees → Holds input n others → (trees ≡ others) × (m ≡ n)
one_model k input m n trees others p q =
    let e = one_file k input trees others p.file q.file in
    (e, is_ok (model_of others) m n (ap model_of (sym e) ∙ p.model) q.model)

no_refusal : (k : OfParts) (input : List ℕ) (m : Source) (trees : List Form) (refusal : Refusal) → Holds input m trees → IsRefusal input refusal → ⊥
no_refusal k input m trees (Unread fault) p q = k.either input trees fault p.file.small p.file.spelled q
no_refusal k input m trees (NoModel fault) p q =
    let e = one_file k input q.0 trees q.1 p.file in
    not_both (model_of trees) m fault p.model (ap model_of (sym e) ∙ q.2)
no_refusal k input m trees (IllTyped number) p q =
    let e = one_file k input q.0 trees q.2 p.file in
    let f = is_ok (model_of trees) q.1 m (ap model_of (sym e) ∙ q.3) p.model in
    k.not_well q.1 number q.4 (subst WellModel (sym f) p.typed)

one_refusal : (k : OfParts) (input : List ℕ) (refusal other : Refusal) → IsRefusal input refusal → IsRefusal input other → refusal ≡ other
one_refusal k input (Unread fault) (Unread other) p q = ap Unread (k.fault input fault other p q)
one_refusal k input (Unread fault) (NoModel other) p q = absurd (k.either input q.0 fault q.1.small q.1.spelled p)
one_refusal k input (Unread fault) (IllTyped other) p q = absurd (k.either input q.0 fault q.2.small q.2.spelled p)
one_refusal k input (NoModel fault) (Unread other) p q = absurd (k.either input p.0 other p.1.small p.1.spelled q)
one_refusal k input (NoModel fault) (NoModel other) p q =
    let e = one_file k input p.0 q.0 p.1 q.1 in
    ap NoModel (is_err (model_of q.0) fault other (ap model_of (sym e) ∙ p.2) q.2)
one_refusal k input (NoModel fault) (IllTyped other) p q =
    let e = one_file k input p.0 q.0 p.1 q.2 in
    absurd (not_both (model_of q.0) q.1 fault q.3 (ap model_of (sym e) ∙ p.2))
one_refusal k input (IllTyped number) (Unread other) p q = absurd (k.either input p.0 other p.2.small p.2.spelled q)
one_refusal k input (IllTyped number) (NoModel other) p q =
    let e = one_file k input q.0 p.0 q.1 p.2 in
    absurd (not_both (model_of p.0) p.1 other p.3 (ap model_of (sym e) ∙ q.2))
one_refusal k input (IllTyped number) (IllTyped other) p q =
    let e = one_file k input p.0 q.0 p.2 q.2 in
    let f = is_ok (model_of q.0) p.1 q.1 (ap model_of (sym e) ∙ p.3) q.3 in
    ap IllTyped (k.ill q.1 number other (subst (λ m. IsIll m number) f p.4) q.4)

-- ---- the check

one_check : (k : OfParts) (input text other : List ℕ) (status ending : Status) → IsCheckOutput input text status → IsCheckOutput input other ending → SameOutput text other status ending
one_check k input text other status ending (output.IsCheckOutput.accepted m trees h t s) (output.IsCheckOutput.accepted n others g u e) =
    (t ∙ ap ok_line (one_model k input m n trees others h g).1 ∙ sym u, s ∙ sym e)
one_check k input text other status ending (output.IsCheckOutput.accepted m trees h t s) (output.IsCheckOutput.refused refusal r u e) = absurd (no_refusal k input m trees refusal h r)
one_check k input text other status ending (output.IsCheckOutput.refused refusal r t s) (output.IsCheckOutput.accepted m trees h u e) = absurd (no_refusal k input m trees refusal h r)
one_check k input text other status ending (output.IsCheckOutput.refused refusal r t s) (output.IsCheckOutput.refused another q u e) =
    (t ∙ ap refusal_line (one_refusal k input refusal another r q) ∙ sym u, s ∙ sym e)

-- ---- the judge

same_verdict : (v w : Verdict) → SameVerdict v w → (verdict_text v ≡ verdict_text w) × (is_explained v ≡ is_explained w)
same_verdict (Explained word) (Explained other) e = (ap (λ w. codes "explained " ++ word_text w) e, refl)
same_verdict (Faulted place) (Faulted other) e = (ap fault_text e, refl)
same_verdict (Unexplained far) (Unexplained other) e = (ap (λ n. codes "unexplained far " ++ decimal n) e, refl)
same_verdict (Broken number) (Broken other) e = (ap (λ n. codes "broken " ++ decimal n) e, refl)
same_verdict (Explained word) (Faulted other) e = absurd e
same_verdict (Explained word) (Unexplained other) e = absurd e
same_verdict (Explained word) (Broken other) e = absurd e
same_verdict (Faulted word) (Explained other) e = absurd e
same_verdict (Faulted word) (Unexplained other) e = absurd e
same_verdict (Faulted word) (Broken other) e = absurd e
same_verdict (Unexplained word) (Explained other) e = absurd e
same_verdict (Unexplained word) (Faulted other) e = absurd e
same_verdict (Unexplained word) (Broken other) e = absurd e
same_verdict (Broken word) (Explained other) e = absurd e
same_verdict (Broken word) (Faulted other) e = absurd e
same_verdict (Broken word) (Unexplained other) e = absurd e

same_why : (v w : Why) → SameWhy v w → why_text v ≡ why_text w
same_why (PreFalse command merge) (PreFalse other word) e =
    ap (λ n. codes "prefalse " ++ decimal n ++ codes " merge " ++ word_text merge.items) e.0 ∙ ap (λ w. codes "prefalse " ++ decimal other ++ codes " merge " ++ word_text w) e.1
same_why (CallbackFault place merge) (CallbackFault other word) e =
    ap (λ p. case_fault_text p ++ codes " merge " ++ word_text merge.items) e.0 ∙ ap (λ w. case_fault_text other ++ codes " merge " ++ word_text w) e.1
same_why NoMemory NoMemory e = refl
same_why (PreFalse command merge) (CallbackFault other word) e = absurd e
same_why (PreFalse command merge) NoMemory e = absurd e
same_why (CallbackFault place merge) (PreFalse other word) e = absurd e
same_why (CallbackFault place merge) NoMemory e = absurd e
same_why NoMemory (PreFalse other word) e = absurd e
same_why NoMemory (CallbackFault other word) e = absurd e

same_item : (v w : Judged) → SameJudgement v w → (judged_text v ≡ judged_text w) × (is_good v ≡ is_good w)
same_item (Told v) (Told w) e = same_verdict v w e
same_item Valid Valid e = (refl, refl)
same_item (Invalid v) (Invalid w) e = (same_why v w e, refl)
same_item (Told v) Valid e = absurd e
same_item (Told v) (Invalid w) e = absurd e
same_item Valid (Told w) e = absurd e
same_item Valid (Invalid w) e = absurd e
same_item (Invalid v) (Told w) e = absurd e
same_item (Invalid v) Valid e = absurd e

same_items : (k : OfParts) (m : Source) (runs : List Run) (js ks : List Judged) (number : ℕ) → AreJudged Any m runs js → AreJudged Any m runs ks → (item_lines number js ≡ item_lines number ks) × (list_all is_good js ≡ list_all is_good ks)
same_items k m [] [] [] number p q = (refl, refl)
same_items k m [] [] (j ∷ ks) number p q = absurd q
same_items k m [] (j ∷ js) ks number p q = absurd p
same_items k m (run ∷ runs) [] ks number p q = absurd p
same_items k m (run ∷ runs) (j ∷ js) [] number p q = absurd q
same_items k m (run ∷ runs) (j ∷ js) (i ∷ ks) number p q =
    let e = same_item j i (one_by_any k.judgement m run j i p.0 q.0) in
    let f = same_items k m runs js ks (number + 1) p.1 q.1 in (
      ap (λ t. (decimal number ++ codes " " ++ t ++ line_end) ++ item_lines (number + 1) js) e.0 ∙ ap (λ ts. item_line number i ++ ts) f.0,
      ap (λ b. b && list_all is_good js) e.1 ∙ ap (λ b. is_good i && b) f.1,
    )

one_refused : (k : OfParts) (input text other : List ℕ) (status ending : Status) → IsFirstRefusal input text status → IsFirstRefusal input other ending → SameOutput text other status ending
one_refused k input text other status ending (output.IsFirstRefusal.of_item m trees fault h r t s) (output.IsFirstRefusal.of_item n others another g q u e) =
    let o = one_model k input m n trees others h g in
    let fault-is : runs_of n (items_of others) ≡ Err fault = ap (λ x. runs_of n (items_of x)) (sym o.0) ∙ ap (λ x. runs_of x (items_of trees)) (sym o.1) ∙ r in
    (t ∙ ap run_line (is_err (runs_of n (items_of others)) fault another fault-is q) ∙ sym u, s ∙ sym e)
one_refused k input text other status ending (output.IsFirstRefusal.of_item m trees fault h r t s) (output.IsFirstRefusal.of_model refusal q u e) = absurd (no_refusal k input m trees refusal h q)
one_refused k input text other status ending (output.IsFirstRefusal.of_model refusal r t s) (output.IsFirstRefusal.of_item m trees fault h q u e) = absurd (no_refusal k input m trees refusal h r)
one_refused k input text other status ending (output.IsFirstRefusal.of_model refusal r t s) (output.IsFirstRefusal.of_model another q u e) =
    (t ∙ ap refusal_line (one_refusal k input refusal another r q) ∙ sym u, s ∙ sym e)

-- what is read is not refused
not_refused : (k : OfParts) (input text : List ℕ) (status : Status) (m : Source) (runs : List Run) → HoldsRuns input m runs → IsFirstRefusal input text status → ⊥
not_refused k input text status m runs h (output.IsFirstRefusal.of_item n others fault g q u e) =
    let o = one_model k input m n h.trees others h.holds g in
    let runs-are : runs_of n (items_of others) ≡ Ok runs = ap (λ x. runs_of n (items_of x)) (sym o.0) ∙ ap (λ x. runs_of x (items_of h.trees)) (sym o.1) ∙ h.read in
    not_both (runs_of n (items_of others)) runs fault runs-are q
not_refused k input text status m runs h (output.IsFirstRefusal.of_model refusal q u e) = no_refusal k input m h.trees refusal h.holds q

one_judge : (k : OfParts) (input text other : List ℕ) (status ending : Status) → IsJudgeOutput input text status → IsJudgeOutput input other ending → SameOutput text other status ending
one_judge k input text other status ending (output.IsOutput.judged m runs js h a t) (output.IsOutput.judged n more ks g b u) =
    let o = one_model k input m n h.trees g.trees h.holds g.holds in
    let runs-are : runs_of n (items_of g.trees) ≡ Ok runs = ap (λ x. runs_of n (items_of x)) (sym o.0) ∙ ap (λ x. runs_of x (items_of h.trees)) (sym o.1) ∙ h.read in
    let same : runs ≡ more = is_ok (runs_of n (items_of g.trees)) runs more runs-are g.read in
    let a' : AreJudged Any n more js = subst (λ x. AreJudged Any x more js) o.1 (subst (λ x. AreJudged Any m x js) same a) in
    let f = same_items k n more js ks 1 a' b in
    (t.0 ∙ f.0 ∙ sym u.0, t.1 ∙ ap (λ good. if good then Accepted else Failed) f.1 ∙ sym u.1)
one_judge k input text other status ending (output.IsOutput.judged m runs js h a t) (output.IsOutput.refused q) = absurd (not_refused k input other ending m runs h q)
one_judge k input text other status ending (output.IsOutput.refused r) (output.IsOutput.judged n runs js g a u) = absurd (not_refused k input text status n runs g r)
one_judge k input text other status ending (output.IsOutput.refused r) (output.IsOutput.refused q) = one_refused k input text other status ending r q

pub one_check_output : OfParts → OneCheckOutput
one_check_output k input text other status ending p q = one_check k input text other status ending p q

pub one_judge_output : OfParts → OneJudgeOutput
one_judge_output k input text other status ending p q = one_judge k input text other status ending p q
