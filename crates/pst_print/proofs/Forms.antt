-- The tree that is written for each form.
use Rattle.std.proofs.Common.{◌≡◌, ℕ, ℤ, Bool, List, [], ◌∷◌, map, sym, ap, ◌∙◌}
use Rattle.std.specs.Prelude.{codes, decimal}
use Rattle.std.specs.Fmt.{signed_decimal}
use Rattle.pst_model.specs.declared.expr.Binary.{Binary}
use Rattle.pst_model.specs.declared.expr.Clause.{Clause, Clause-F, fold-roll-Clause}
use Rattle.pst_model.specs.declared.expr.Clause as clause
use Rattle.pst_model.specs.declared.expr.Clause.TheVariants as clauses
use Rattle.pst_model.specs.declared.expr.Expr.{Expr, Expr-F, fold-roll-Expr}
use Rattle.pst_model.specs.declared.expr.Expr as expr
use Rattle.pst_model.specs.declared.expr.Expr.TheVariants as exprs
use Rattle.pst_model.specs.declared.expr.Unary.{Unary}
use Rattle.pst_print.specs.Printed.{ty_at, ty_form, clause_at, expr_at, expr_form, clause_form}
use Rattle.pst_sexpr.specs.Parts.{headed}
use Rattle.pst_print.specs.Words.{unary_word, binary_word, truth_word, key_word}
use Rattle.pst_sexpr.specs.declared.form.Form.{Form}
use Rattle.pst_sexpr.specs.declared.form.Form.TheVariants.{Word, Text, Node}
use Rattle.pst_value.specs.declared.key.KeyTy.{KeyTy}
use Rattle.pst_value.specs.declared.ty.Ty.{Ty, fold-roll-Ty}
use Rattle.pst_value.specs.declared.ty.Ty as ty
use Rattle.pst_value.specs.declared.ty.Ty.TheOpen.{Ty-F}
use Rattle.pst_value.specs.declared.ty.Ty.TheVariants as tys

pub expr_layer : (d : Expr-F Clause Expr) → expr_form (expr.roll-Expr d) ≡ expr_at (expr.map-Expr Clause Expr Form Form clause_form expr_form d)
unfolding expr_form clause_form
expr_layer d = fold-roll-Expr Form Form clause_at expr_at d

pub clause_layer : (d : Clause-F Clause Expr) → clause_form (clause.roll-Clause d) ≡ clause_at (clause.map-Clause Clause Expr Form Form clause_form expr_form d)
unfolding expr_form clause_form
clause_layer d = fold-roll-Clause Form Form clause_at expr_at d

pub ty_layer : (d : Ty-F Ty) → ty_form (ty.roll-Ty d) ≡ ty_at (ty.map-Ty Ty Form ty_form d)
unfolding ty_form
ty_layer d = fold-roll-Ty Form ty_at d

pub form_Int : (n : ℤ) → expr_form (expr.Int n) ≡ Word (signed_decimal n)
form_Int n = ap expr_form (sym (exprs.rolls-Int n)) ∙ expr_layer (Expr-F.Int n)

pub form_Bool : (b : Bool) → expr_form (expr.Bool b) ≡ Word (truth_word b)
form_Bool b = ap expr_form (sym (exprs.rolls-Bool b)) ∙ expr_layer (Expr-F.Bool b)

pub form_Text : (t : List ℕ) → expr_form (expr.Text t) ≡ Text t
form_Text t = ap expr_form (sym (exprs.rolls-Text t)) ∙ expr_layer (Expr-F.Text t)

pub form_Name : (x : List ℕ) → expr_form (expr.Name x) ≡ Word x
form_Name x = ap expr_form (sym (exprs.rolls-Name x)) ∙ expr_layer (Expr-F.Name x)

pub form_Let : (x : List ℕ) (e b : Expr) → expr_form (expr.Let x e b) ≡ headed (codes "let") (Word x ∷ expr_form e ∷ expr_form b ∷ [])
form_Let x e b = ap expr_form (sym (exprs.rolls-Let x e b)) ∙ expr_layer (Expr-F.Let x e b)

pub form_If : (c a b : Expr) → expr_form (expr.If c a b) ≡ headed (codes "if") (expr_form c ∷ expr_form a ∷ expr_form b ∷ [])
form_If c a b = ap expr_form (sym (exprs.rolls-If c a b)) ∙ expr_layer (Expr-F.If c a b)

pub form_And : (a b : Expr) → expr_form (expr.And a b) ≡ headed (codes "and") (expr_form a ∷ expr_form b ∷ [])
form_And a b = ap expr_form (sym (exprs.rolls-And a b)) ∙ expr_layer (Expr-F.And a b)

pub form_Or : (a b : Expr) → expr_form (expr.Or a b) ≡ headed (codes "or") (expr_form a ∷ expr_form b ∷ [])
form_Or a b = ap expr_form (sym (exprs.rolls-Or a b)) ∙ expr_layer (Expr-F.Or a b)

pub form_Unary : (operator : Unary) (a : Expr) → expr_form (expr.Unary operator a) ≡ headed (unary_word operator) (expr_form a ∷ [])
form_Unary operator a = ap expr_form (sym (exprs.rolls-Unary operator a)) ∙ expr_layer (Expr-F.Unary operator a)

pub form_Binary : (operator : Binary) (a b : Expr) → expr_form (expr.Binary operator a b) ≡ headed (binary_word operator) (expr_form a ∷ expr_form b ∷ [])
form_Binary operator a b = ap expr_form (sym (exprs.rolls-Binary operator a b)) ∙ expr_layer (Expr-F.Binary operator a b)

pub form_Tuple : (es : List Expr) → expr_form (expr.Tuple es) ≡ headed (codes "tuple") (map expr_form es)
form_Tuple es = ap expr_form (sym (exprs.rolls-Tuple es)) ∙ expr_layer (Expr-F.Tuple es)

pub form_At : (e : Expr) (n : ℕ) → expr_form (expr.At e n) ≡ headed (codes "at") (expr_form e ∷ Word (decimal n) ∷ [])
form_At e n = ap expr_form (sym (exprs.rolls-At e n)) ∙ expr_layer (Expr-F.At e n)

pub form_List : (t : Ty) (es : List Expr) → expr_form (expr.List t es) ≡ headed (codes "list") (ty_form t ∷ map expr_form es)
form_List t es = ap expr_form (sym (exprs.rolls-List t es)) ∙ expr_layer (Expr-F.List t es)

pub form_For : (cs : List Clause) (b : Expr) → expr_form (expr.For cs b) ≡ headed (codes "for") (Node (map clause_form cs) ∷ expr_form b ∷ [])
form_For cs b = ap expr_form (sym (exprs.rolls-For cs b)) ∙ expr_layer (Expr-F.For cs b)

pub form_Fold : (x : List ℕ) (e : Expr) (acc : List ℕ) (i b : Expr) → expr_form (expr.Fold x e acc i b) ≡ headed (codes "fold") (Word x ∷ expr_form e ∷ Word acc ∷ expr_form i ∷ expr_form b ∷ [])
form_Fold x e acc i b = ap expr_form (sym (exprs.rolls-Fold x e acc i b)) ∙ expr_layer (Expr-F.Fold x e acc i b)

pub form_Map : (k : KeyTy) (t : Ty) → expr_form (expr.Map k t) ≡ headed (codes "map") (Word (key_word k) ∷ ty_form t ∷ [])
form_Map k t = ap expr_form (sym (exprs.rolls-Map k t)) ∙ expr_layer (Expr-F.Map k t)

pub form_Put : (m k v : Expr) → expr_form (expr.Put m k v) ≡ headed (codes "put") (expr_form m ∷ expr_form k ∷ expr_form v ∷ [])
form_Put m k v = ap expr_form (sym (exprs.rolls-Put m k v)) ∙ expr_layer (Expr-F.Put m k v)

pub form_Call : (op : List ℕ) (es : List Expr) → expr_form (expr.Call op es) ≡ headed (codes "call") (Word op ∷ map expr_form es)
form_Call op es = ap expr_form (sym (exprs.rolls-Call op es)) ∙ expr_layer (Expr-F.Call op es)

pub form_Apply : (f : List ℕ) (es : List Expr) → expr_form (expr.Apply f es) ≡ headed f (map expr_form es)
form_Apply f es = ap expr_form (sym (exprs.rolls-Apply f es)) ∙ expr_layer (Expr-F.Apply f es)

pub form_In : (x : List ℕ) (e : Expr) → clause_form (clause.In x e) ≡ headed (codes "in") (Word x ∷ expr_form e ∷ [])
form_In x e = ap clause_form (sym (clauses.rolls-In x e)) ∙ clause_layer (Clause-F.In x e)

pub form_When : (c : Expr) → clause_form (clause.When c) ≡ headed (codes "when") (expr_form c ∷ [])
form_When c = ap clause_form (sym (clauses.rolls-When c)) ∙ clause_layer (Clause-F.When c)

pub type_Int : ty_form ty.Int ≡ Word (codes "int")
type_Int = ap ty_form (sym tys.rolls-Int) ∙ ty_layer Ty-F.Int

pub type_Bool : ty_form ty.Bool ≡ Word (codes "bool")
type_Bool = ap ty_form (sym tys.rolls-Bool) ∙ ty_layer Ty-F.Bool

pub type_Text : ty_form ty.Text ≡ Word (codes "text")
type_Text = ap ty_form (sym tys.rolls-Text) ∙ ty_layer Ty-F.Text

pub type_Call : ty_form ty.Call ≡ Word (codes "call")
type_Call = ap ty_form (sym tys.rolls-Call) ∙ ty_layer Ty-F.Call

pub type_Tuple : (ts : List Ty) → ty_form (ty.Tuple ts) ≡ headed (codes "tuple") (map ty_form ts)
type_Tuple ts = ap ty_form (sym (tys.rolls-Tuple ts)) ∙ ty_layer (Ty-F.Tuple ts)

pub type_List : (t : Ty) → ty_form (ty.List t) ≡ headed (codes "list") (ty_form t ∷ [])
type_List t = ap ty_form (sym (tys.rolls-List t)) ∙ ty_layer (Ty-F.List t)

pub type_Map : (k : KeyTy) (t : Ty) → ty_form (ty.Map k t) ≡ headed (codes "map") (Word (key_word k) ∷ ty_form t ∷ [])
type_Map k t = ap ty_form (sym (tys.rolls-Map k t)) ∙ ty_layer (Ty-F.Map k t)

pub type_Ref : (t : Ty) → ty_form (ty.Ref t) ≡ headed (codes "ref") (ty_form t ∷ [])
type_Ref t = ap ty_form (sym (tys.rolls-Ref t)) ∙ ty_layer (Ty-F.Ref t)

pub ruleset expr_forms = (form_Int, form_Bool, form_Text, form_Name, form_Let, form_If, form_And, form_Or, form_Unary, form_Binary, form_Tuple, form_At, form_List, form_For, form_Fold, form_Map, form_Put, form_Call, form_Apply, form_In, form_When)

pub ruleset ty_forms = (type_Int, type_Bool, type_Text, type_Call, type_Tuple, type_List, type_Map, type_Ref)
