-- How many forms an expression has, and the functions that it may apply: by this its evaluation ends, and the
-- search for its type.
use Rattle.std.specs.Prelude.{ℕ, ◌+◌, List, [], ◌∷◌}
use Rattle.pst_model.specs.declared.expr.Clause.{Clause, Clause-F, fold-Clause}
use Rattle.pst_model.specs.declared.expr.Expr.{Expr, Expr-F, fold-Expr}
use Rattle.pst_model.specs.declared.model.Item.{Item}
use Rattle.pst_model.specs.declared.model.Item.TheVariants as item

abbrev pub total : List ℕ → ℕ
total [] = 0
total (n ∷ ns) = n + total ns

abbrev pub weight_at : Expr-F ℕ ℕ → ℕ
weight_at (Expr-F.Int n) = 1
weight_at (Expr-F.Bool b) = 1
weight_at (Expr-F.Text t) = 1
weight_at (Expr-F.Name x) = 1
weight_at (Expr-F.Let x e b) = e + b + 1
weight_at (Expr-F.If c a b) = c + a + b + 1
weight_at (Expr-F.And a b) = a + b + 1
weight_at (Expr-F.Or a b) = a + b + 1
weight_at (Expr-F.Unary operator e) = e + 1
weight_at (Expr-F.Binary operator a b) = a + b + 1
weight_at (Expr-F.Tuple es) = total es + 1
weight_at (Expr-F.At e n) = e + 1
weight_at (Expr-F.List type es) = total es + 1
weight_at (Expr-F.For clauses b) = total clauses + b + 1
weight_at (Expr-F.Fold x e acc i b) = e + i + b + 1
weight_at (Expr-F.Map k t) = 1
weight_at (Expr-F.Put m k v) = m + k + v + 1
weight_at (Expr-F.Call x es) = total es + 1
weight_at (Expr-F.Apply f es) = total es + 1

abbrev pub clause_weight_at : Clause-F ℕ ℕ → ℕ
clause_weight_at (Clause-F.In x e) = e + 1
clause_weight_at (Clause-F.When e) = e + 1

abbrev pub weight : Expr → ℕ
weight = fold-Expr ℕ ℕ clause_weight_at weight_at

abbrev pub clause_weight : Clause → ℕ
clause_weight = fold-Clause ℕ ℕ clause_weight_at weight_at

-- the weight of items, and of the bodies of the functions among them
abbrev pub functions_weight : List Item → ℕ
functions_weight [] = 0
functions_weight (item.Fun f ∷ items) = weight f.body + 1 + functions_weight items
functions_weight (_ ∷ items) = functions_weight items + 1
