-- What the borrowed shapes of the code stand for.
use Rattle.std.specs.Prelude.{Option, Some, None}
use Rattle.pst_syntax.specs.declared.shape.Shape.{Shape as Borrowed}
use Rattle.pst_syntax.specs.declared.shape.Shape.TheVariants as code
use Rattle.pst_syntax.specs.declared.shape.TyShape.{TyShape as BorrowedTy}
use Rattle.pst_syntax.specs.declared.shape.TyShape.TheVariants as ty
use Rattle.pst_syntax.specs.declared.shape.ClauseShape.{ClauseShape as BorrowedClause}
use Rattle.pst_syntax.specs.declared.shape.ClauseShape.TheVariants as clause
use Rattle.pst_syntax.specs.Shape.{Shape, TyShape, ClauseShape}
use Rattle.pst_syntax.specs.Shape as spec

abbrev pub shown : Borrowed → Shape
shown (code.Integer word) = spec.Integer word.now
shown (code.Truth b) = spec.Truth b
shown (code.Quoted text) = spec.Quoted text.now
shown (code.Used x) = spec.Used x.now
shown (code.Let x e b) = spec.Let x.now e.now b.now
shown (code.If c a b) = spec.If c.now a.now b.now
shown (code.And a b) = spec.And a.now b.now
shown (code.Or a b) = spec.Or a.now b.now
shown (code.Unary operator a) = spec.Unary operator a.now
shown (code.Binary operator a b) = spec.Binary operator a.now b.now
shown (code.Tuple es) = spec.Tuple es.now
shown (code.At e i) = spec.At e.now i.now
shown (code.List t es) = spec.ListOf t.now es.now
shown (code.For cs b) = spec.For cs.now b.now
shown (code.Fold f) = spec.Fold f.name.now f.list.now f.built.now f.first.now f.body.now
shown (code.Map k t) = spec.MapOf k t.now
shown (code.Put m k v) = spec.Put m.now k.now v.now
shown (code.Call op es) = spec.Call op.now es.now
shown (code.Apply f es) = spec.Apply f.now es.now

abbrev pub shown_option : Option Borrowed → Option Shape
shown_option None = None
shown_option (Some shape) = Some (shown shape)

abbrev pub shown_ty : BorrowedTy → TyShape
shown_ty ty.Int = spec.IntType
shown_ty ty.Bool = spec.BoolType
shown_ty ty.Text = spec.TextType
shown_ty ty.Call = spec.CallType
shown_ty (ty.Tuple ts) = spec.TupleType ts.now
shown_ty (ty.List t) = spec.ListType t.now
shown_ty (ty.Map k t) = spec.MapType k t.now
shown_ty (ty.Ref t) = spec.RefType t.now

abbrev pub shown_ty_option : Option BorrowedTy → Option TyShape
shown_ty_option None = None
shown_ty_option (Some shape) = Some (shown_ty shape)

abbrev pub shown_clause : BorrowedClause → ClauseShape
shown_clause (clause.In x e) = spec.InEach x.now e.now
shown_clause (clause.When e) = spec.WhenTrue e.now

abbrev pub shown_clause_option : Option BorrowedClause → Option ClauseShape
shown_clause_option None = None
shown_clause_option (Some shape) = Some (shown_clause shape)
