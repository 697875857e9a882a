-- An item weighs no more than its list.
use Rattle.std.proofs.Common.{◌≡◌, ℕ, zero, suc, ◌+◌, ◌<◌, ◌≤◌, List, [], ◌∷◌, length, map, get_or, arith}
use Rattle.pst_model.specs.declared.expr.Expr.{Expr}
use Rattle.pst_eval.specs.Weight.{weight, total}

pub item_weight : (es : List Expr) (i : ℕ) (d : Expr) → i < length es → weight (get_or es i d) ≤ total (map weight es)
item_weight [] i d h = absurd (omega arith)
item_weight (e ∷ es) zero d h = omega arith
item_weight (e ∷ es) (suc i) d h = let le : i < length es = omega arith in omega (arith, item_weight es i d le)
