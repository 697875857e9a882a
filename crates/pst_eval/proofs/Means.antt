-- The meaning of each form, from its parts.
use Rattle.std.proofs.Common.{◌≡◌, ℕ, List, map, sym, ap, ◌∙◌}
use Rattle.pst_model.specs.Parts.{Name}
use Rattle.pst_model.specs.declared.expr.Clause.{Clause, Clause-F, In, When, fold-roll-Clause}
use Rattle.pst_model.specs.declared.expr.Clause.TheVariants.{rolls-In, rolls-When}
use Rattle.pst_model.specs.declared.expr.Expr.{Expr, Expr-F, For, Fold, fold-roll-Expr}
use Rattle.pst_model.specs.declared.expr.Expr.TheVariants.{rolls-For, rolls-Fold}
use Rattle.pst_model.specs.declared.model.Item.{Item}
use Rattle.pst_eval.specs.Meaning.{Called, Mean, Part, part_at, mean_at, mean, part, comprehension}

pub part_in : (items : List Item) (F : List Called) (x : Name) (e : Expr) → part items F (In x e) ≡ Clause-F.In x (mean items F e)
part_in items F x e = ap (part items F) (sym (rolls-In x e)) ∙ fold-roll-Clause Part Mean part_at (mean_at items F) (Clause-F.In x e)

pub part_when : (items : List Item) (F : List Called) (e : Expr) → part items F (When e) ≡ Clause-F.When (mean items F e)
part_when items F e = ap (part items F) (sym (rolls-When e)) ∙ fold-roll-Clause Part Mean part_at (mean_at items F) (Clause-F.When e)

pub mean_for : (items : List Item) (F : List Called) (cs : List Clause) (b : Expr) → mean items F (For cs b) ≡ comprehension (map (part items F) cs) (mean items F b)
mean_for items F cs b = ap (mean items F) (sym (rolls-For cs b)) ∙ fold-roll-Expr Part Mean part_at (mean_at items F) (Expr-F.For cs b)

pub mean_fold : (items : List Item) (F : List Called) (x : Name) (e : Expr) (acc : Name) (i b : Expr)
    → mean items F (Fold x e acc i b) ≡ mean_at items F (Expr-F.Fold x (mean items F e) acc (mean items F i) (mean items F b))
mean_fold items F x e acc i b = ap (mean items F) (sym (rolls-Fold x e acc i b)) ∙ fold-roll-Expr Part Mean part_at (mean_at items F) (Expr-F.Fold x e acc i b)
