-- An input whose model is read by itself, and the items behind it.
use Rattle.std.proofs.Common.{◌≡◌, ◌≤◌, ◌∙◌, ℕ, Bool, true, false, List, [], ◌∷◌, ◌++◌, Some, None, Result, Ok, Err, IfOk, MatchResult, length, subst, sym, arith}
use Rattle.std.specs.declared.alloc.AllocError.{AllocError}
use Rattle.pst_case.specs.declared.history.Run.{Run}
use Rattle.pst_cli.proofs.JudgedRuns.{are_judged}
use Rattle.pst_cli.proofs.Printing.{answers_so}
use Rattle.pst_cli.specs.Answers.{Answers}
use Rattle.pst_cli.specs.Kept.{HoldsAnswered, HoldsJudged}
use Rattle.pst_cli.specs.Output.{HoldsRuns, IsFirstRefusal, of_item, of_model, run_line}
use Rattle.pst_cli.specs.RunOutput.{IsRefusedIn, item_refused, model_refused}
use Rattle.pst_cli.specs.declared.answer.Answer.{Answer}
use Rattle.pst_cli.specs.declared.answer.OutputForm.TheVariants as form
use Rattle.pst_cli.specs.declared.answer.Status.{Status}
use Rattle.pst_cli.specs.declared.answer.Status.TheVariants.{Refused}
use Rattle.pst_cli.specs.declared.input.ModelAndRuns.{ModelAndRuns}
use Rattle.pst_judge.specs.declared.by_order.CallOrder.{CallOrder}
use Rattle.pst_model.specs.declared.model.Source.{Source}
use Rattle.pst_rejudge.proofs.Joined.{joined}
use Rattle.pst_rejudge.proofs.Refusing.{first_refused, none_kept, none_refused}
use Rattle.pst_rejudge.specs.Answers.{first_refusal, judgements_in}
use Rattle.pst_rejudge.specs.Parts.{AreAnsweredPart, EndsLine, kept_runs}
use Rattle.pst_rejudge.specs.declared.reading.ItemResult.{ItemResult}
use Rattle.pst_runs.proofs.Lawful.{runs_lawful}
use Rattle.pst_runs.specs.Lawful.{AreLawful}
use Rattle.pst_runs.specs.declared.reader.RunFault.{RunFault}
use Rattle.pst_sexpr.specs.Reading.{max_bytes}
use Rattle.pst_sexpr.specs.declared.form.Form.{Form}
use Rattle.pst_typing.specs.Loading.{Holds, items_of}

-- an input of a model by itself, and of items that are answered
pub holds_both : (order : CallOrder) (all keeps : Bool) (m : Source) (head rest : List ℕ) (trees : List Form) (kept : List Run) (answers : List ItemResult)
    → length (head ++ rest) ≤ max_bytes → EndsLine head → length trees ≡ 1 → Holds head m trees → AreAnsweredPart order m keeps rest kept answers
    → (all ≡ true → keeps ≡ true) → HoldsAnswered order all (head ++ rest) m kept answers
holds_both order all keeps m head rest [] kept answers small e one h k f = absurd (omega arith)
holds_both order all keeps m head rest (tree ∷ []) kept answers small e one h k f = record {
  trees = tree ∷ k.trees;
  holds = record { file = record { small = small; spelled = joined e h.file.spelled k.spelled }; model = h.model; typed = h.typed };
  keeps = keeps;
  answered = k.answered;
  keeps_all = f;
}
holds_both order all keeps m head rest (tree ∷ next ∷ trees) kept answers small e one h k f = absurd (omega arith)

-- the runs that an input holds are lawful
pub items_are_lawful : (input : List ℕ) (m : Source) (runs : List Run) → HoldsRuns input m runs → AreLawful m runs
items_are_lawful input m runs h = runs_lawful m (items_of h.trees) runs h.read

-- what is kept of lawful runs is lawful
kept_are_lawful : (keeps : Bool) (m : Source) (forms : List Form) (runs kept : List Run) → kept ≡ kept_runs keeps m forms → kept_runs true m forms ≡ runs
    → AreLawful m runs → AreLawful m kept
kept_are_lawful true m forms runs kept is all l = subst (AreLawful m) (sym (is ∙ all)) l
kept_are_lawful false m forms runs kept is all l = subst (AreLawful m) (sym (is ∙ none_kept m forms)) tt

-- where runs are kept, all are
all_are_kept : (keeps : Bool) (m : Source) (forms : List Form) (runs kept : List Run) → keeps ≡ true → kept ≡ kept_runs keeps m forms
    → kept_runs true m forms ≡ runs → kept ≡ runs
all_are_kept true m forms runs kept h is all = is ∙ all
all_are_kept false m forms runs kept h is all = absurd (cc)

-- where no item is refused, the items are runs, and judged
pub judged_unless_refused : (order : CallOrder) (all : Bool) (input : List ℕ) (m : Source) (kept : List Run) (answers : List ItemResult)
    → HoldsAnswered order all input m kept answers → first_refusal 1 answers ≡ None → HoldsJudged order all input m kept (judgements_in answers)
judged_unless_refused order all input m kept answers h e =
    let items = items_of h.trees in
    let every = none_refused order m 1 items answers h.answered.answered e in
    let held : HoldsRuns input m every.runs = record { trees = h.trees; holds = h.holds; read = every.read } in
    record {
      runs = every.runs;
      holds = held;
      judged = are_judged m order every.runs (judgements_in answers) every.judged;
      lawful = kept_are_lawful h.keeps m items every.runs kept h.answered.are_kept every.all (items_are_lawful input m every.runs held);
      are_kept = λ a. all_are_kept h.keeps m items every.runs kept (h.keeps_all a) h.answered.are_kept every.all;
    }

-- the first refused item refuses the input
pub first_refuses : (order : CallOrder) (all : Bool) (input : List ℕ) (m : Source) (kept : List Run) (answers : List ItemResult) (fault : RunFault)
    (text : List ℕ) (status : Status) → HoldsAnswered order all input m kept answers → first_refusal 1 answers ≡ Some fault
    → text ≡ run_line fault → status ≡ Refused → IsFirstRefusal input text status
first_refuses order all input m kept answers fault text status h e t s =
    of_item m h.trees fault h.holds (first_refused order m 1 (items_of h.trees) answers fault h.answered.answered e) t s

-- as text the first refusal in a form is the first refusal
refused_as_text : (input text : List ℕ) (status : Status) → IsRefusedIn form.Text input text status → IsFirstRefusal input text status
refused_as_text input text status (model_refused refusal is t s) = of_model refusal is t s
refused_as_text input text status (item_refused m trees fault h e t s) = of_item m trees fault h e t s

-- what is read, or the first refusal as text
pub read_as_text : (input : List ℕ) (r : Result (Result ModelAndRuns Answer) AllocError)
    → IfOk r (λ read. MatchResult read (λ file. HoldsRuns input file.compiled file.runs.items) (Answers (IsRefusedIn form.Text input)))
    → IfOk r (λ read. MatchResult read (λ file. HoldsRuns input file.compiled file.runs.items) (Answers (IsFirstRefusal input)))
read_as_text input (Err e) h = tt
read_as_text input (Ok (Ok file)) h = h
read_as_text input (Ok (Err answer)) h = answers_so (IsRefusedIn form.Text input) (IsFirstRefusal input) (refused_as_text input) answer h
