-- The smaller one of two failures.
use Rattle.std.specs.Prelude.{◌≡◌, true, false, Option, Some, None}
use Rattle.pst_cli.specs.CampaignFailures.{is_less}
use Rattle.pst_cli.specs.declared.failing_run.TrialFailure.{TrialFailure}

-- the next one if it is the only one or is less, else the one that was found before
pub data IsSmaller (found : Option TrialFailure) (next result : TrialFailure) : Type 0 where
  only : found ≡ None → result ≡ next → IsSmaller found next result
  fewer : (f : TrialFailure) → found ≡ Some f → is_less next.shrunk.now.last f.shrunk.now.last ≡ true → result ≡ next
      → IsSmaller found next result
  before : (f : TrialFailure) → found ≡ Some f → is_less next.shrunk.now.last f.shrunk.now.last ≡ false → result ≡ f
      → IsSmaller found next result
