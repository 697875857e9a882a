-- The judgement of an item: the verdict on its history, or whether its case is valid.
use Rattle.std.specs.Prelude.{◌≡◌, true, Option, Some, None}
use Rattle.pst_judge.specs.ByOrder.{IsVerdictBy}
use Rattle.pst_judge.specs.declared.by_order.CallOrder.{CallOrder}
use Rattle.pst_judge.specs.declared.judgement.Verdict.{Verdict}
use Rattle.pst_case.specs.Matches.{matches}
use Rattle.pst_case.specs.declared.case.Case.{Case}
use Rattle.pst_case.specs.declared.history.History.{History}
use Rattle.pst_case.specs.declared.history.Run.{Run}
use Rattle.pst_judge.specs.Validity.{IsValid, IsWhy}
use Rattle.pst_judge.specs.Verdict.{IsVerdict}
use Rattle.pst_judge.specs.declared.judgement.Judged.{Judged}
use Rattle.pst_judge.specs.declared.judgement.Judged.TheVariants.{Verdict as WithVerdict, Valid, Invalid}
use Rattle.pst_model.specs.declared.model.Source.{Source}

module _ (m : Source) (c : Case) where
  abbrev pub MatchesIfAny : Option History → Type 0
  MatchesIfAny None = Unit {0}
  MatchesIfAny (Some h) = matches m c h ≡ true

  -- without a history: valid, or the reason why not; with a history: the verdict on it
  abbrev pub IsJudgementOf : (History → Verdict → Type 0) → Option History → Judged → Type 0
  IsJudgementOf IsGiven None (WithVerdict v) = ⊥
  IsJudgementOf IsGiven None Valid = IsValid m c
  IsJudgementOf IsGiven None (Invalid why) = IsWhy m c why
  IsJudgementOf IsGiven (Some h) (WithVerdict v) = IsGiven h v
  IsJudgementOf IsGiven (Some h) Valid = ⊥
  IsJudgementOf IsGiven (Some h) (Invalid why) = ⊥

-- the item's history, if it has one, matches its case
abbrev pub HistoryMatches : Source → Run → Type 0
HistoryMatches m run = MatchesIfAny m run.shaped.case run.history

abbrev pub IsJudgement : Source → Run → Judged → Type 0
IsJudgement m run = IsJudgementOf m run.shaped.case (IsVerdict m run.shaped.case) run.history

-- the same with the verdict by an order of the calls
abbrev pub IsJudgementBy : CallOrder → Source → Run → Judged → Type 0
IsJudgementBy order m run = IsJudgementOf m run.shaped.case (IsVerdictBy order m run.shaped.case) run.history
