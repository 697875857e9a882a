-- The first refusal among answers is that of the reader of all items.
use Rattle.std.proofs.Common.{◌≡◌, ◌∙◌, ℕ, ◌+◌, Bool, true, false, List, [], ◌∷◌, ◌++◌, Option, Some, None, Result, Ok, Err, ap, refl}
use Rattle.std.specs.List.{AllZip}
use Rattle.pst_case.specs.declared.history.Run.{Run}
use Rattle.pst_judge.specs.Judgement.{IsJudgementBy}
use Rattle.pst_judge.specs.declared.by_order.CallOrder.{CallOrder}
use Rattle.pst_model.specs.declared.model.Source.{Source}
use Rattle.pst_rejudge.specs.Answers.{IsAnswer, first_refusal, judgements_in, run_read}
use Rattle.pst_rejudge.specs.Parts.{kept_run, kept_runs}
use Rattle.pst_rejudge.specs.declared.reading.ItemResult.{ItemResult}
use Rattle.pst_rejudge.specs.declared.reading.ItemResult.TheVariants.{Judged, Refused}
use Rattle.pst_runs.specs.Items.{item_of, numbered, runs_from}
use Rattle.pst_runs.specs.Replies.{◌>>=◌, then_more}
use Rattle.pst_runs.specs.declared.reader.ItemFault.{ItemFault}
use Rattle.pst_runs.specs.declared.reader.RunFault.{RunFault}
use Rattle.pst_sexpr.specs.declared.form.Form.{Form}

-- the trees spell these runs, all of which are judged so and may be kept
pub record AreAllJudged (order : CallOrder) (m : Source) (number : ℕ) (forms : List Form) (answers : List ItemResult) : Type 0 where
  pub runs : List Run
  pub read : runs_from m number forms ≡ Ok runs
  pub judged : AllZip (IsJudgementBy order m) runs (judgements_in answers)
  pub all : kept_runs true m forms ≡ runs

module _ (order : CallOrder) (m : Source) where
  -- the runs of trees, by what is read of the first
  abbrev Behind : ℕ → List Form → Result Run ItemFault → Result (List Run) RunFault
  Behind number forms r = numbered number r >>= (λ run. then_more run (runs_from m (number + 1) forms))

  -- where an item is refused, the reader of all items refuses the first that is
  pub first_refused : (number : ℕ) (forms : List Form) (answers : List ItemResult) (fault : RunFault) → AllZip (IsAnswer order m) forms answers
      → first_refusal number answers ≡ Some fault → runs_from m number forms ≡ Err fault
  first_refused number [] [] fault h e = absurd (cc)
  first_refused number [] (a ∷ answers) fault h e = absurd h
  first_refused number (form ∷ forms) [] fault h e = absurd h
  first_refused number (form ∷ forms) (Judged judged ∷ answers) fault h e =
      ap (Behind number forms) h.0.1 ∙ ap (then_more h.0.0) (first_refused (number + 1) forms answers fault h.1 e)
  first_refused number (form ∷ forms) (Refused kind command ∷ answers) fault h e =
      let named : RunFault = record { run = number; command = command; kind = kind } in
      let same : named ≡ fault = cc in
      let OfFault : RunFault → Result (List Run) RunFault = λ f. Err f in
      ap (Behind number forms) h.0 ∙ ap OfFault same

  -- where no item is refused, all are judged
  pub none_refused : (number : ℕ) (forms : List Form) (answers : List ItemResult) → AllZip (IsAnswer order m) forms answers
      → first_refusal number answers ≡ None → AreAllJudged order m number forms answers
  none_refused number [] [] h e = record { runs = []; read = refl; judged = tt; all = refl }
  none_refused number [] (a ∷ answers) h e = absurd h
  none_refused number (form ∷ forms) [] h e = absurd h
  none_refused number (form ∷ forms) (Judged judged ∷ answers) h e =
      let rest = none_refused (number + 1) forms answers h.1 e in
      let run = h.0.0 in
      record {
        runs = run ∷ rest.runs;
        read = ap (Behind number forms) h.0.1 ∙ ap (then_more run) rest.read;
        judged = (h.0.2, rest.judged);
        all = ap (λ r. kept_run true (run_read r) ++ kept_runs true m forms) h.0.1 ∙ ap (λ runs. run ∷ runs) rest.all;
      }
  none_refused number (form ∷ forms) (Refused kind command ∷ answers) h e = absurd (cc)

module _ (m : Source) where
  -- where no run is to be kept, none is
  pub none_kept : (forms : List Form) → kept_runs false m forms ≡ []
  none_kept [] = refl
  none_kept (form ∷ forms) = none_kept forms
