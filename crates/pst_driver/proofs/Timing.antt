-- A history is driven whatever its times are.
use Rattle.std.proofs.Common.{◌≡◌, ◌&&◌, Bool, true, false, if◌then◌else◌, List, map, Option, Some, None, refl, sym, subst}
use Rattle.std.specs.Option.{is_some}
use Rattle.pst_case.specs.Times.{called, fit}
use Rattle.pst_case.specs.Unknown.{all_open, times_for}
use Rattle.pst_case.specs.declared.history.CallTime.{CallTime}
use Rattle.pst_case.specs.declared.history.Reply.{Reply}
use Rattle.pst_case.specs.declared.case.Case.{Case}
use Rattle.pst_case.specs.declared.history.History.{History}
use Rattle.pst_driver.specs.Driven.{IsDriven}
use Rattle.pst_driver.specs.Progress.{IsSameButTimes}
use Rattle.pst_model.specs.declared.model.Source.{Source}
use Rattle.pst_system.specs.Kept.{Answers, Fails}

pub driven_timed : (m : Source) (A : Answers) (F : Fails) (c : Case) (h timed : History)
    → IsSameButTimes h timed → IsDriven m A F c h → IsDriven m A F c timed
driven_timed m A F c h timed same driven =
    subst (λ (x : History). IsDriven m A F c x) (sym same)
    (record { prefix = driven.prefix; branches = driven.branches; suffix = driven.suffix })

-- ---- times that fit are those of the calls

chosen : (b : Bool) (times : List (List CallTime)) → is_some (if b then Some times else None) ≡ true → (if b then Some times else None) ≡ Some times
chosen true times e = refl
chosen false times e = absurd (cc)

pub fitting_whole : (branches : List (List Reply)) (times : Option (List (List CallTime))) → is_some (times_for branches times) ≡ true → times_for branches times ≡ times
fitting_whole branches None e = refl
fitting_whole branches (Some times) e = chosen (fit (map called branches) times && all_open branches times) times e
