-- `names` at each form of an expression.
use Rattle.std.proofs.Common.{◌≡◌, ℕ, ℤ, Bool, true, false, ◌||◌, List, [], ◌∷◌, map, refl, sym, ap, ◌∙◌}
use Rattle.std.specs.List.{list_any}
use Rattle.std.specs.Str.{bytes_eq}
use Rattle.pst_eval.specs.Names.{one_of_them, names_at, clause_names_at, names, clause_names}
use Rattle.pst_model.specs.Parts.{Name}
use Rattle.pst_model.specs.declared.expr.Binary.{Binary}
use Rattle.pst_model.specs.declared.expr.Clause.{Clause, Clause-F, fold-roll-Clause}
use Rattle.pst_model.specs.declared.expr.Clause.TheVariants as clause
use Rattle.pst_model.specs.declared.expr.Expr.{Expr, Expr-F, roll-Expr, map-Expr, fold-roll-Expr}
use Rattle.pst_model.specs.declared.expr.Expr.TheVariants as expr
use Rattle.pst_model.specs.declared.expr.Unary.{Unary}
use Rattle.pst_value.specs.declared.key.KeyTy.{KeyTy}
use Rattle.pst_value.specs.declared.ty.Ty.{Ty}

pub or_first : (a b : Bool) → (a || b) ≡ false → a ≡ false
or_first true b h = h
or_first false b h = refl

pub or_second : (a b : Bool) → (a || b) ≡ false → b ≡ false
or_second true b h = absurd (cc)
or_second false b h = h

any_of : {X : Type 0} (p : X → Bool) (xs : List X) → list_any one_of_them (map p xs) ≡ list_any p xs
any_of p [] = refl
any_of p (x ∷ xs) = ap (λ b. p x || b) (any_of p xs)

module _ (name : Name) where
  is : (d : Expr-F Clause Expr) (e : Expr) → roll-Expr d ≡ e → names name e ≡ names_at name (map-Expr Clause Expr Bool Bool (clause_names name) (names name) d)
  is d e r = ap (names name) (sym r) ∙ fold-roll-Expr Bool Bool clause_names_at (names_at name) d

  pub names-Int : (k : ℤ) → names name (expr.Int k) ≡ false
  names-Int k = is (Expr-F.Int k) _ (expr.rolls-Int k)

  pub names-Bool : (b : Bool) → names name (expr.Bool b) ≡ false
  names-Bool b = is (Expr-F.Bool b) _ (expr.rolls-Bool b)

  pub names-Text : (t : List ℕ) → names name (expr.Text t) ≡ false
  names-Text t = is (Expr-F.Text t) _ (expr.rolls-Text t)

  pub names-Name : (x : Name) → names name (expr.Name x) ≡ bytes_eq name x
  names-Name x = is (Expr-F.Name x) _ (expr.rolls-Name x)

  pub names-Let : (x : Name) (e b : Expr) → names name (expr.Let x e b) ≡ (names name e || names name b)
  names-Let x e b = is (Expr-F.Let x e b) _ (expr.rolls-Let x e b)

  pub names-If : (c a b : Expr) → names name (expr.If c a b) ≡ (names name c || (names name a || names name b))
  names-If c a b = is (Expr-F.If c a b) _ (expr.rolls-If c a b)

  pub names-And : (a b : Expr) → names name (expr.And a b) ≡ (names name a || names name b)
  names-And a b = is (Expr-F.And a b) _ (expr.rolls-And a b)

  pub names-Or : (a b : Expr) → names name (expr.Or a b) ≡ (names name a || names name b)
  names-Or a b = is (Expr-F.Or a b) _ (expr.rolls-Or a b)

  pub names-Unary : (operator : Unary) (e : Expr) → names name (expr.Unary operator e) ≡ names name e
  names-Unary operator e = is (Expr-F.Unary operator e) _ (expr.rolls-Unary operator e)

  pub names-Binary : (operator : Binary) (a b : Expr) → names name (expr.Binary operator a b) ≡ (names name a || names name b)
  names-Binary operator a b = is (Expr-F.Binary operator a b) _ (expr.rolls-Binary operator a b)

  pub names-Tuple : (es : List Expr) → names name (expr.Tuple es) ≡ list_any (names name) es
  names-Tuple es = is (Expr-F.Tuple es) _ (expr.rolls-Tuple es) ∙ any_of (names name) es

  pub names-At : (e : Expr) (place : ℕ) → names name (expr.At e place) ≡ names name e
  names-At e place = is (Expr-F.At e place) _ (expr.rolls-At e place)

  pub names-List : (type : Ty) (es : List Expr) → names name (expr.List type es) ≡ list_any (names name) es
  names-List type es = is (Expr-F.List type es) _ (expr.rolls-List type es) ∙ any_of (names name) es

  pub names-For : (clauses : List Clause) (b : Expr) → names name (expr.For clauses b) ≡ (list_any (clause_names name) clauses || names name b)
  names-For clauses b = is (Expr-F.For clauses b) _ (expr.rolls-For clauses b) ∙ ap (λ c. c || names name b) (any_of (clause_names name) clauses)

  pub names-Fold : (x : Name) (e : Expr) (acc : Name) (i b : Expr) → names name (expr.Fold x e acc i b) ≡ (names name e || (names name i || names name b))
  names-Fold x e acc i b = is (Expr-F.Fold x e acc i b) _ (expr.rolls-Fold x e acc i b)

  pub names-Map : (k : KeyTy) (t : Ty) → names name (expr.Map k t) ≡ false
  names-Map k t = is (Expr-F.Map k t) _ (expr.rolls-Map k t)

  pub names-Put : (m k v : Expr) → names name (expr.Put m k v) ≡ (names name m || (names name k || names name v))
  names-Put m k v = is (Expr-F.Put m k v) _ (expr.rolls-Put m k v)

  pub names-Call : (x : Name) (es : List Expr) → names name (expr.Call x es) ≡ list_any (names name) es
  names-Call x es = is (Expr-F.Call x es) _ (expr.rolls-Call x es) ∙ any_of (names name) es

  pub names-Apply : (f : Name) (es : List Expr) → names name (expr.Apply f es) ≡ list_any (names name) es
  names-Apply f es = is (Expr-F.Apply f es) _ (expr.rolls-Apply f es) ∙ any_of (names name) es

  pub names-In : (x : Name) (e : Expr) → clause_names name (clause.In x e) ≡ names name e
  names-In x e = ap (clause_names name) (sym (clause.rolls-In x e)) ∙ fold-roll-Clause Bool Bool clause_names_at (names_at name) (Clause-F.In x e)

  pub names-When : (e : Expr) → clause_names name (clause.When e) ≡ names name e
  names-When e = ap (clause_names name) (sym (clause.rolls-When e)) ∙ fold-roll-Clause Bool Bool clause_names_at (names_at name) (Clause-F.When e)

pub ruleset naming = (names-Int, names-Bool, names-Text, names-Name, names-Let, names-If, names-And, names-Or, names-Unary, names-Binary, names-Tuple, names-At, names-List, names-For, names-Fold, names-Map, names-Put, names-Call, names-Apply, names-In, names-When)
