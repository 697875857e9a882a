-- A system that is kept drives as before.
use Rattle.pst_driver.proofs.Real.{Wider}
use Rattle.pst_driver.proofs.Widening.{driven_wider, drive_fault_wider}
use Rattle.pst_driver.specs.Driven.{IsDriven, IsDriveFault}
use Rattle.pst_system.specs.Kept.{Answers, Fails, ResetFails, AreKept}
use Rattle.pst_trial.specs.Driving.{Histories, Faults, IsSteady}

pub kept_same : (A : Answers) (F : Fails) (R : ResetFails) → AreKept A A F F R R
kept_same A F R = record {
  answering = λ c v. ((λ h. h), (λ h. h));
  failing = λ c f. ((λ h. h), (λ h. h));
  resetting = λ f. ((λ h. h), (λ h. h));
}

pub kept_on : {A B C : Answers} {F G H : Fails} {R S T : ResetFails}
    → AreKept A B F G R S → AreKept B C G H S T → AreKept A C F H R T
kept_on k l = record {
  answering = λ c v. (
    λ h. (l.answering c v).0 ((k.answering c v).0 h),
    λ h. (k.answering c v).1 ((l.answering c v).1 h),
  );
  failing = λ c f. (
    λ h. (l.failing c f).0 ((k.failing c f).0 h),
    λ h. (k.failing c f).1 ((l.failing c f).1 h),
  );
  resetting = λ f. (
    λ h. (l.resetting f).0 ((k.resetting f).0 h),
    λ h. (k.resetting f).1 ((l.resetting f).1 h),
  );
}

-- relations that are the same
pub steady_same : (D : Histories) (P : Faults) → IsSteady D D P P
steady_same D P = record { driving = λ v h. ((λ x. x), (λ x. x)); failing = λ v f. ((λ x. x), (λ x. x)) }

module _ {A B : Answers} {F G : Fails} {R S : ResetFails} (kept : AreKept B A G F S R) where
  wide : Wider B A G F
  wide = record { answers = λ c v. (kept.answering c v).0; fails = λ c f. (kept.failing c f).0 }

  wide_back : Wider A B F G
  wide_back = record { answers = λ c v. (kept.answering c v).1; fails = λ c f. (kept.failing c f).1 }

  pub steady_of : IsSteady
      (λ v h. IsDriven v.model B G v.case h) (λ v h. IsDriven v.model A F v.case h)
      (λ v f. IsDriveFault S v.case f) (λ v f. IsDriveFault R v.case f)
  steady_of = record {
    driving = λ v h. (
      driven_wider v.model B A G F wide v.case h,
      driven_wider v.model A B F G wide_back v.case h,
    );
    failing = λ v f. (
      drive_fault_wider S R (λ e. (kept.resetting e).0) v.case f,
      drive_fault_wider R S (λ e. (kept.resetting e).1) v.case f,
    );
  }
