-- What is told of the trials of a campaign beside its report.
use Rattle.std.specs.Prelude.{◌≡◌, ◌⊎◌, ⊤, ℕ, ◌+◌, ◌-◌, ◌^◌, ◌<◌, ◌≤◌, ◌==◌, if◌then◌else◌, nat_lt, Bool, true, false, List, [], ◌∷◌, ◌++◌, Option, Some, None, length, map, min, take, slice_get}
use Rattle.std.specs.List.{All, Any, AllPairs, count_by, sum}
use Rattle.std.specs.Option.{is_some}
use Rattle.pst_case.specs.Unknown.{is_unknown}
use Rattle.pst_case.specs.declared.case.Case.{Case}
use Rattle.pst_case.specs.declared.history.History.{History}
use Rattle.pst_cli.specs.CampaignView.{CampaignView}
use Rattle.pst_cli.specs.declared.failing_run.TrialFailure.{TrialFailure}
use Rattle.pst_cli.specs.declared.losses.LostTrials.{LostTrials}
use Rattle.pst_json.specs.declared.document.CampaignFacts.{CampaignFacts}
use Rattle.pst_ledger.specs.declared.entry.Cause.{Cause}
use Rattle.pst_ledger.specs.declared.entry.Cause.TheVariants.{ResetFailed, NoThread, NoMemory}
use Rattle.pst_ledger.specs.declared.entry.Entry.{Entry}
use Rattle.pst_ledger.specs.declared.entry.Entry.TheVariants as entry
use Rattle.pst_report.specs.Least.{failure_in, of_record}
use Rattle.pst_shrink.specs.declared.shrinking.FailingCase.{FailingCase}
use Rattle.pst_shrink.specs.declared.shrinking.Shrunk.{Shrunk}
use Rattle.pst_trial.specs.JudgedRuns.{IsJudgedRun, is_explained}
use Rattle.pst_trial.specs.PlanView.{PlanView}
use Rattle.pst_trial.specs.RecordView.{RecordView}
use Rattle.pst_trial.specs.declared.record.JudgedRun.{JudgedRun}

-- ---- the run that the case of a trial was shrunk to

-- a run of a case of the model, with its verdict by the order of the plan, which does not explain it
pub record IsFailingRun (p : PlanView) (t : FailingCase JudgedRun) : Type 0 where
  pub judged : IsJudgedRun (λ v h. ⊤) p.model p.settings.order t.case t.history
  pub unexplained : is_explained t.history.verdict ≡ false

-- the trial of the number failed, and its case was shrunk so
abbrev pub IsShrunkAt : List (Entry RecordView) → ℕ → Shrunk JudgedRun → Type 0
IsShrunkAt entries number s = (e : Entry RecordView) × (slice_get entries number ≡ Some e) × (of_record failure_in e ≡ Some s)

-- ---- the first trial without a case

abbrev pub number_in : {A : Type 0} → Option (ℕ × A) → Option ℕ
number_in None = None
number_in (Some (number, a)) = Some number

-- ---- the smallest failure

-- how many commands a case has; counting ends at 2^64 - 1
abbrev pub command_count : Case → ℕ
command_count c = min (length c.prefix + length c.suffix + sum (map length c.branches)) (2 ^ 64 - 1)

-- how many calls of a history have an unknown outcome; counting ends at 2^64 - 1
abbrev pub unknown_count : History → ℕ
unknown_count h =
    min (count_by is_unknown h.prefix + count_by is_unknown h.suffix + sum (map (count_by is_unknown) h.branches)) (2 ^ 64 - 1)

-- fewer commands, or as many and fewer calls of unknown outcome
abbrev pub is_less_than : (commands unknowns commands' unknowns' : ℕ) → Bool
is_less_than commands unknowns commands' unknowns' =
    if commands == commands' then nat_lt unknowns unknowns' else nat_lt commands commands'

abbrev pub is_less : FailingCase JudgedRun → FailingCase JudgedRun → Bool
is_less a b =
    is_less_than (command_count a.case) (unknown_count a.history.history) (command_count b.case) (unknown_count b.history.history)

-- the failure is that of the trial of its number
abbrev pub IsFailureOfTrial : List (Entry RecordView) → TrialFailure → Type 0
IsFailureOfTrial entries f = IsShrunkAt entries f.trial f.shrunk.now

-- of the failed trials below the limit those with the fewest commands, of these those with the fewest calls of unknown
-- outcome, and of these the first
pub record IsSmallest (limit : ℕ) (entries : List (Entry RecordView)) (f : TrialFailure) : Type 0 where
  pub trial : IsFailureOfTrial entries f
  pub fewest : (k : ℕ) (s : Shrunk JudgedRun) → k < limit → IsShrunkAt entries k s → is_less s.last f.shrunk.now.last ≡ false
  pub first : (k : ℕ) (s : Shrunk JudgedRun) → k < f.trial → IsShrunkAt entries k s → is_less f.shrunk.now.last s.last ≡ true

-- this, or no trial below the limit failed
abbrev pub IsSmallestIfAny : ℕ → List (Entry RecordView) → Option TrialFailure → Type 0
IsSmallestIfAny limit entries None = (k : ℕ) (s : Shrunk JudgedRun) → k < limit → IsShrunkAt entries k s → ⊥
IsSmallestIfAny limit entries (Some f) = IsSmallest limit entries f

-- ---- lost trials

abbrev pub place_of : Cause → ℕ
place_of ResetFailed = 0
place_of NoThread = 1
place_of NoMemory = 2

abbrev pub is_cause : Cause → Cause → Bool
is_cause cause other = place_of cause == place_of other

-- the number, if its trial was lost for the cause
abbrev pub lost_number : Cause → ℕ → Entry RecordView → List ℕ
lost_number cause number entry.Undrawn = []
lost_number cause number entry.Held = []
lost_number cause number (entry.Done r) = []
lost_number cause number (entry.Lost why) = if is_cause why cause then number ∷ [] else []

-- the numbers of the trials that were lost for the cause, in order; the first entry has the number
abbrev pub lost_numbers : Cause → ℕ → List (Entry RecordView) → List ℕ
lost_numbers cause number [] = []
lost_numbers cause number (e ∷ es) = lost_number cause number e ++ lost_numbers cause (number + 1) es

-- how many trials were lost for its cause, and the first three
pub record IsLoss (entries : List (Entry RecordView)) (l : LostTrials) : Type 0 where
  pub count : l.count ≡ length (lost_numbers l.cause 0 entries)
  pub first : l.first.items ≡ take 3 (lost_numbers l.cause 0 entries)

-- no trial was lost for the cause, or it has its losses
abbrev pub HasLossesFor : List (Entry RecordView) → List LostTrials → Cause → Type 0
HasLossesFor entries losses cause = (lost_numbers cause 0 entries ≡ []) ⊎ Any (λ l. l.cause ≡ cause) losses

-- the losses for each cause that one was lost for
pub record AreLosses (entries : List (Entry RecordView)) (losses : List LostTrials) : Type 0 where
  pub each : All (IsLoss entries) losses
  pub all : (cause : Cause) → HasLossesFor entries losses cause

-- ---- the failures on a page

-- the failure has the run of a shrunk case
abbrev pub HasRun : Shrunk JudgedRun → TrialFailure → Type 0
HasRun s f = (f.shrunk.now.last.case ≡ s.last.case) × (f.shrunk.now.last.history.history ≡ s.last.history.history)

-- two failures have different runs
abbrev pub HaveOtherRuns : TrialFailure → TrialFailure → Type 0
HaveOtherRuns f g = HasRun g.shrunk.now f → ⊥

-- the first of the failures, if there is one
abbrev pub head_of : List TrialFailure → Option TrialFailure
head_of [] = None
head_of (f ∷ fs) = Some f

-- each trial below the limit that failed has a failure with its run
abbrev pub AllHaveRun : ℕ → List (Entry RecordView) → List TrialFailure → Type 0
AllHaveRun limit entries failures =
    (k : ℕ) (s : Shrunk JudgedRun) → k < limit → IsShrunkAt entries k s → Any (HasRun s) failures

-- failures of trials, each run once; all of those below the limit, or as many as there is room for
pub record AreFailuresBelow (limit most : ℕ) (entries : List (Entry RecordView)) (failures : List TrialFailure) : Type 0 where
  pub trials : All (IsFailureOfTrial entries) failures
  pub room : length failures ≤ most
  pub once : AllPairs HaveOtherRuns failures
  pub all : (length failures ≡ most) ⊎ AllHaveRun limit entries failures

abbrev pub AreFailures : ℕ → List (Entry RecordView) → List TrialFailure → Type 0
AreFailures most entries failures = AreFailuresBelow (length entries) most entries failures

-- the seed and the number of trials of the plan, and how many trials failed
pub record AreFacts (c : CampaignView) (facts : CampaignFacts) : Type 0 where
  pub seed : facts.seed ≡ c.plan.settings.seed
  pub trials : facts.trials ≡ c.plan.settings.trials
  pub failed : facts.failed ≡ count_by (λ e. is_some (of_record failure_in e)) c.entries
