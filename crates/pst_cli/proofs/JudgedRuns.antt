-- Runs that are judged.
use Rattle.std.proofs.Common.{◌≡◌, ◌<◌, ℕ, List, [], ◌∷◌, ◌++◌, All, Vec, Global, Option, None, Result, Ok, Err, IfOk, IfSome, MatchResult, length, get_or, sym, subst}
use Rattle.std.proofs.lemmas.List.Elements.{All-nil, All-cons}
use Rattle.std.specs.List.{AllZip}
use Rattle.std.specs.declared.alloc.AllocError.{AllocError}
use Rattle.pst_case.specs.declared.history.Run.{Run}
use Rattle.pst_cli.specs.Answers.{Answers}
use Rattle.pst_cli.specs.Output.{AreJudged}
use Rattle.pst_cli.specs.declared.answer.Answer.{Answer}
use Rattle.pst_cli.specs.declared.answer.Status.{Status}
use Rattle.pst_cli.specs.declared.judge.Judging.{Judging}
use Rattle.pst_judge.specs.Judgement.{HistoryMatches, IsJudgementBy}
use Rattle.pst_judge.specs.declared.by_order.CallOrder.{CallOrder}
use Rattle.pst_judge.specs.declared.judgement.Judged.{Judged}
use Rattle.pst_model.specs.declared.model.Source.{Source}
use Rattle.pst_rejudge.proofs.One.{matches_if_any}
use Rattle.pst_rejudge.proofs.Permitted.{lawful_at}
use Rattle.pst_rejudge.specs.Parts.{joined}
use Rattle.pst_runs.specs.Lawful.{IsLawful, AreLawful}

module _ (m : Source) where
  -- the run at an index may be judged
  pub lawful_here : (runs : List Run) (i : ℕ) (run : Run) → i < length runs → run ≡ get_or runs i run → AreLawful m runs → IsLawful m run
  lawful_here runs i run h e l = subst (IsLawful m) (sym e) (lawful_at m runs i run h l)

  pub history_matches : (run : Run) → IsLawful m run → HistoryMatches m run
  history_matches run l = matches_if_any m run.shaped.case run.history l.matching

  -- what is judged place by place is judged one after another
  pub are_judged : (order : CallOrder) (runs : List Run) (all : List Judged) → AllZip (IsJudgementBy order m) runs all
      → AreJudged order m runs all
  are_judged order [] [] h = tt
  are_judged order [] (j ∷ js) h = h
  are_judged order (run ∷ runs) [] h = h
  are_judged order (run ∷ runs) (j ∷ js) h = (h.0, are_judged order runs js h.1)

  lawful_both : (runs others : List Run) → AreLawful m (runs ++ others) → AreLawful m runs × AreLawful m others
  lawful_both [] others l = (tt, l)
  lawful_both (run ∷ runs) others l = let both = lawful_both runs others l.1 in ((l.0, both.0), both.1)

  -- the runs of each part are lawful
  abbrev LawfulPart : Vec Run Global → Type 0
  LawfulPart part = AreLawful m part.items

  -- where all runs are lawful, those of each part are
  pub lawful_parts : (parts : List (Vec Run Global)) → AreLawful m (joined parts) → All LawfulPart parts
  lawful_parts [] l = All-nil LawfulPart
  lawful_parts (part ∷ parts) l =
      let both = lawful_both part.items (joined parts) l in
      All-cons LawfulPart part parts both.0 (lawful_parts parts both.1)

-- ---- answers beside what was judged

-- the parts of a pair that is there, or that an allocation failed
abbrev pub AreParts : Result (Answer × Option Judging) AllocError → Result Answer AllocError → Option Judging → Type 0
AreParts both answer judging =
    MatchResult both (λ j. (answer ≡ Ok j.0) × (judging ≡ j.1)) (λ e. (answer ≡ Err e) × (judging ≡ None))

pub answer_alone : (IsOutput : List ℕ → Status → Type 0) (both : Result (Answer × Option Judging) AllocError) (answer : Result Answer AllocError)
    (judging : Option Judging) → IfOk both (λ j. Answers IsOutput j.0) → AreParts both answer judging → IfOk answer (Answers IsOutput)
answer_alone IsOutput (Ok j) answer judging is parts =
    let IsSo : Result Answer AllocError → Type 0 = λ r. IfOk r (Answers IsOutput) in
    subst IsSo (sym parts.0) is
answer_alone IsOutput (Err e) answer judging is parts =
    let IsSo : Result Answer AllocError → Type 0 = λ r. IfOk r (Answers IsOutput) in
    subst IsSo (sym parts.0) tt

pub judging_alone : (Held : Judging → Type 0) (both : Result (Answer × Option Judging) AllocError) (answer : Result Answer AllocError)
    (judging : Option Judging) → IfOk both (λ j. IfSome j.1 Held) → AreParts both answer judging → IfSome judging Held
judging_alone Held (Ok j) answer judging is parts =
    let IsSo : Option Judging → Type 0 = λ o. IfSome o Held in
    subst IsSo (sym parts.1) is
judging_alone Held (Err e) answer judging is parts =
    let IsSo : Option Judging → Type 0 = λ o. IfSome o Held in
    subst IsSo (sym parts.1) tt
