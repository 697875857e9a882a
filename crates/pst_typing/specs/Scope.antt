-- What the borrowed names and the context of the checker stand for.
use Rattle.std.specs.Prelude.{List, ◌∷◌, map, reverse}
use Rattle.pst_model.specs.declared.expr.Clause.{Clause}
use Rattle.pst_model.specs.Parts.{Name}
use Rattle.pst_model.specs.declared.expr.Expr.{Expr}
use Rattle.pst_model.specs.Rules.{Context, context_of}
use Rattle.pst_typing.specs.Decision.{Finds, Part, type_of, part_of}
use Rattle.pst_typing.specs.declared.scope.Context.{Context as Surroundings}
use Rattle.pst_typing.specs.declared.scope.Names.{Names, Outer, With' as Within}
use Rattle.pst_typing.specs.declared.scope.Scope.{Scope, Parameters, With'}
use Rattle.pst_typing.specs.declared.scope.TypedName.{TypedName}
use Rattle.pst_value.specs.declared.ty.Ty.{Ty}

abbrev pub names_of : Scope → Context
names_of (Parameters params) = context_of params.now
names_of (With' name kind r outer) = (name.now, kind.now) ∷ names_of outer

abbrev pub name_seen : TypedName → Name × Ty
name_seen s = (s.name, s.kind)

abbrev pub names_in : Names → Context
names_in (Outer seen) = map name_seen seen.now
names_in (Within name kind r outer) = (name.now, kind.now) ∷ names_in outer

abbrev pub type_in : Surroundings → Expr → Finds
type_in c = type_of c.items.now (reverse c.earlier.now) c.is_post

abbrev pub parts_in : Surroundings → List Clause → List Part
parts_in c clauses = map (part_of c.items.now (reverse c.earlier.now) c.is_post) clauses
