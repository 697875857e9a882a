-- Where no item is refused, keeping on changes nothing.
use Rattle.std.proofs.Common.{◌≡◌, ◌+◌, ◌++◌, ℕ, Bool, true, false, List, [], ◌∷◌, Result, Ok, Err, ◌∙◌, refl, sym, ap, subst, map}
use Rattle.std.specs.Prelude.{◌&&◌, if◌then◌else◌}
use Rattle.std.specs.List.{AllZip, list_all}
use Rattle.pst_case.specs.declared.history.Run.{Run}
use Rattle.pst_cli.specs.Answering.{refusal_of}
use Rattle.pst_cli.specs.Answers.{shown_results}
use Rattle.pst_cli.specs.Commands.{each_answer}
use Rattle.pst_cli.specs.JsonOutput as object
use Rattle.pst_cli.specs.KeepingOn.{HoldsAnswers, KeepsJudgements, answered, answer_lines, refused, worst_status}
use Rattle.pst_cli.specs.Output.{AreJudged, is_good, item_line, item_lines}
use Rattle.pst_cli.specs.Status.{or_worse}
use Rattle.pst_cli.specs.declared.answer.OutputForm.{OutputForm}
use Rattle.pst_cli.specs.declared.answer.OutputForm.TheVariants as form
use Rattle.pst_cli.specs.declared.answer.Status.{Status}
use Rattle.pst_cli.specs.declared.answer.Status.TheVariants.{Accepted, Failed, Refused}
use Rattle.pst_cli.specs.declared.lines.Shown.{Shown}
use Rattle.pst_rejudge.specs.Answers.{IsAnswer}
use Rattle.pst_rejudge.specs.declared.reading.ItemResult.{ItemResult}
use Rattle.pst_rejudge.specs.declared.reading.ItemResult.TheVariants as answer
use Rattle.pst_judge.specs.declared.by_order.CallOrder.{CallOrder}
use Rattle.pst_judge.specs.declared.judgement.Judged.{Judged}
use Rattle.pst_typing.specs.Loading.{IsRefusal, items_of}
use Rattle.pst_typing.specs.declared.loading.Refusal.{Refusal}
use Rattle.pst_model.specs.declared.model.Source.{Source}
use Rattle.pst_runs.specs.Items.{item_of, numbered, runs_from}
use Rattle.pst_runs.specs.Replies.{◌>>=◌, then_more}
use Rattle.pst_runs.specs.declared.reader.ItemFault.{ItemFault}
use Rattle.pst_runs.specs.declared.reader.RunFault.{RunFault}
use Rattle.pst_sexpr.specs.declared.form.Form.{Form}

-- one more item is read
data IsOneMore (r : Result Run ItemFault) (rest : Result (List Run) RunFault) (runs : List Run) : Type 0 where
  one_more : (run : Run) (others : List Run) → r ≡ Ok run → rest ≡ Ok others → runs ≡ run ∷ others
      → IsOneMore r rest runs

split : (number : ℕ) (r : Result Run ItemFault) (rest : Result (List Run) RunFault) (runs : List Run)
    → (numbered number r >>= (λ run. then_more run rest)) ≡ Ok runs → IsOneMore r rest runs
split number (Ok run) (Ok others) runs e =
    let same : runs ≡ run ∷ others = cc in
    one_more run others refl refl same
split number (Ok run) (Err fault) runs e = absurd (cc)
split number (Err fault) rest runs e = absurd (cc)

cons : (order : CallOrder) (m : Source) (form : Form) (forms : List Form) (run : Run) (others : List Run) (js : List Judged)
    → item_of m form ≡ Ok run → AreJudged order m (run ∷ others) js
    → ((more : List Judged) → AreJudged order m others more → AllZip (IsAnswer order m) forms (map answer.Judged more))
    → AllZip (IsAnswer order m) (form ∷ forms) (map answer.Judged js)
cons order m form forms run others [] p a f = absurd a
cons order m form forms run others (j ∷ js) p a f = ((run, p, a.0), f js a.1)

-- each item is answered by its judgement
all_answered : (order : CallOrder) (m : Source) (number : ℕ) (forms : List Form) (runs : List Run) (js : List Judged)
    → runs_from m number forms ≡ Ok runs → AreJudged order m runs js
    → AllZip (IsAnswer order m) forms (map answer.Judged js)
all_answered order m number [] [] [] e a = tt
all_answered order m number [] [] (j ∷ js) e a = absurd a
all_answered order m number [] (run ∷ runs) js e a = absurd (cc)
all_answered order m number (form ∷ forms) runs js e a =
    elim (split number (item_of m form) (runs_from m (number + 1) forms) runs e) [
      | one_more run others p q s ↦
          let AreSo : List Run → Type 0 = λ rs. AreJudged order m rs js in
          cons order m form forms run others js p (subst AreSo s a) (λ more b. all_answered order m (number + 1) forms others more q b)
    ]

lines : (number : ℕ) (js : List Judged) → item_lines number js ≡ answer_lines number (map answer.Judged js)
lines number [] = refl
lines number (j ∷ js) = ap (λ t. item_line number j ++ t) (lines (number + 1) js)

worse_than_failed : (good : Bool) → or_worse Failed (if good then Accepted else Failed) ≡ Failed
worse_than_failed true = refl
worse_than_failed false = refl

worse_than_accepted : (good : Bool)
    → or_worse Accepted (if good then Accepted else Failed) ≡ (if good then Accepted else Failed)
worse_than_accepted true = refl
worse_than_accepted false = refl

worst_failed : (js : List Judged) → worst_status Failed (map answer.Judged js) ≡ Failed
worst_failed [] = refl
worst_failed (j ∷ js) =
    ap (λ (so_far : Status). worst_status so_far (map answer.Judged js)) (worse_than_failed (is_good j))
    ∙ worst_failed js

behind_one : (good : Bool) (js : List Judged)
    → worst_status Accepted (map answer.Judged js) ≡ (if list_all is_good js then Accepted else Failed)
    → worst_status (if good then Accepted else Failed) (map answer.Judged js)
    ≡ (if good && list_all is_good js then Accepted else Failed)
behind_one true js h = h
behind_one false js h = worst_failed js

worst_accepted : (js : List Judged)
    → worst_status Accepted (map answer.Judged js) ≡ (if list_all is_good js then Accepted else Failed)
worst_accepted [] = refl
worst_accepted (j ∷ js) =
    ap (λ (so_far : Status). worst_status so_far (map answer.Judged js)) (worse_than_accepted (is_good j))
    ∙ behind_one (is_good j) js (worst_accepted js)

pub keeps : KeepsJudgements
keeps order input m trees runs js h r a =
    answered m trees (map answer.Judged js) h (all_answered order m 1 (items_of trees) runs js r a) (lines 1 js)
    (sym (worst_accepted js))

-- ---- what is written of all items, in a form

pub each_answered : (order : CallOrder) (form : OutputForm) (which : Shown) (input : List ℕ) (m : Source) (trees : List Form) (answers : List ItemResult)
    (text : List ℕ) (status : Status) → HoldsAnswers order input m trees answers
    → text ≡ shown_results form which answers → status ≡ worst_status Accepted answers → each_answer order form which input text status
each_answered order form.Text which input m trees answers text status h t s = answered m trees answers h.holds h.answered t s
each_answered order form.Json which input m trees answers text status h t s = object.answered m trees answers h.holds h.answered t s

pub each_refused : (order : CallOrder) (form : OutputForm) (which : Shown) (input : List ℕ) (refusal : Refusal) (text : List ℕ) (status : Status)
    → IsRefusal input refusal → text ≡ refusal_of form refusal → status ≡ Refused → each_answer order form which input text status
each_refused order form.Text which input refusal text status h t s = refused refusal h t s
each_refused order form.Json which input refusal text status h t s = object.refused refusal h t s
