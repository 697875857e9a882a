-- Which lists of replies have a failure.
use Rattle.std.proofs.Common.{◌≡◌, ◌||◌, true, false, Bool, List, [], ◌∷◌, ◌++◌, refl, ap, ◌∙◌}
use Rattle.std.specs.List.{list_any}
use Rattle.pst_case.specs.Matches.{replies_of}
use Rattle.pst_case.specs.Shape.{joined}
use Rattle.pst_case.specs.declared.history.History.{History}
use Rattle.pst_case.specs.declared.history.Reply.{Reply}
use Rattle.pst_driver.specs.Driven.{is_failure}

or_assoc : (a b c : Bool) → (a || (b || c)) ≡ ((a || b) || c)
or_assoc true b c = refl
or_assoc false b c = refl

pub failure-append : (xs ys : List Reply) → list_any is_failure (xs ++ ys) ≡ (list_any is_failure xs || list_any is_failure ys)
failure-append [] ys = refl
failure-append (x ∷ xs) ys = ap (λ b. is_failure x || b) (failure-append xs ys) ∙ or_assoc (is_failure x) (list_any is_failure xs) (list_any is_failure ys)

pub failure-history : (h : History) → list_any is_failure (replies_of h) ≡ (list_any is_failure h.prefix || list_any is_failure (joined h.branches) || list_any is_failure h.suffix)
failure-history h =
    failure-append (h.prefix ++ joined h.branches) h.suffix ∙ ap (λ b. b || list_any is_failure h.suffix) (failure-append h.prefix (joined h.branches))

pub ruleset failures = (failure-append, failure-history)
