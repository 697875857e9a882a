-- The last of some trees.
use Rattle.std.proofs.Common.{◌≡◌, List, [], ◌∷◌, ◌++◌, Some, None, length, refl, ap, ◌∙◌, arith}
use Rattle.std.specs.List.{IsLastAndRest}
use Rattle.pst_runs.specs.Forms.{front_and_last}
use Rattle.pst_sexpr.specs.Parts.{and_then}
use Rattle.pst_sexpr.specs.declared.form.Form.{Form}

pub last_behind : (front : List Form) (last : Form) → front_and_last (front ++ last ∷ []) ≡ Some (front, last)
last_behind [] last = refl
last_behind (form ∷ []) last = refl
last_behind (form ∷ next ∷ front) last =
    ap (λ o. and_then o (λ p. Some (form ∷ p.0, p.1))) (last_behind (next ∷ front) last)

pub last_is : (parts front : List Form) (last : Form) → IsLastAndRest parts last front → front_and_last parts ≡ Some (front, last)
last_is parts front last h = ap front_and_last h.0 ∙ last_behind front last

pub none_last : (parts : List Form) → length parts ≡ 0 → front_and_last parts ≡ None
none_last [] h = refl
none_last (form ∷ parts) h = absurd (omega arith)

pub ruleset last = (last_is, none_last)
