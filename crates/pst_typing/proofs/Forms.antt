-- Clauses, as the decision sees them.
use Rattle.std.proofs.Common.{◌≡◌, sym, ap, ◌∙◌, Bool, List}
use Rattle.pst_model.specs.Parts.{Name}
use Rattle.pst_model.specs.declared.expr.Clause.{Clause-F, In, When, fold-roll-Clause}
use Rattle.pst_model.specs.declared.expr.Clause.TheVariants.{rolls-In, rolls-When}
use Rattle.pst_model.specs.declared.expr.Expr.{Expr}
use Rattle.pst_model.specs.declared.model.Item.{Item}
use Rattle.pst_typing.specs.Decision.{Finds, Part, type_at, part_at, type_of, part_of}

module _ (items earlier : List Item) (post : Bool) where
  pub part_in : (x : Name) (e : Expr) → part_of items earlier post (In x e) ≡ Clause-F.In x (type_of items earlier post e)
  part_in x e = ap (part_of items earlier post) (sym (rolls-In x e)) ∙ fold-roll-Clause Part Finds part_at (type_at items earlier post) (Clause-F.In x e)

  pub part_when : (e : Expr) → part_of items earlier post (When e) ≡ Clause-F.When (type_of items earlier post e)
  part_when e = ap (part_of items earlier post) (sym (rolls-When e)) ∙ fold-roll-Clause Part Finds part_at (type_at items earlier post) (Clause-F.When e)
