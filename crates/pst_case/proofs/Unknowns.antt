-- Whether a reply of several lists is unknown.
use Rattle.std.proofs.Common.{◌≡◌, ◌||◌, true, false, Bool, List, [], ◌∷◌, ◌++◌, refl, ap, ◌∙◌}
use Rattle.std.specs.List.{list_any}
use Rattle.pst_case.specs.Matches.{replies_of}
use Rattle.pst_case.specs.Shape.{joined}
use Rattle.pst_case.specs.Unknown.{has_unknown, is_unknown}
use Rattle.pst_case.specs.declared.history.History.{History}
use Rattle.pst_case.specs.declared.history.Reply.{Reply}

or_assoc : (a b c : Bool) → (a || (b || c)) ≡ ((a || b) || c)
or_assoc true b c = refl
or_assoc false b c = refl

pub unknown-append : (xs ys : List Reply) → list_any is_unknown (xs ++ ys) ≡ (list_any is_unknown xs || list_any is_unknown ys)
unknown-append [] ys = refl
unknown-append (x ∷ xs) ys = ap (λ b. is_unknown x || b) (unknown-append xs ys) ∙ or_assoc (is_unknown x) (list_any is_unknown xs) (list_any is_unknown ys)

pub unknown-history : (h : History) → has_unknown h ≡ (list_any is_unknown h.prefix || list_any is_unknown (joined h.branches) || list_any is_unknown h.suffix)
unknown-history h =
    unknown-append (h.prefix ++ joined h.branches) h.suffix ∙ ap (λ b. b || list_any is_unknown h.suffix) (unknown-append h.prefix (joined h.branches))

pub ruleset unknowns = (unknown-append, unknown-history)
