-- The code of every expression is lawful.
use Rattle.std.proofs.Common.{◌≡◌, ℕ, suc, ◌+◌, ◌<◌, ◌^◌, List, [], ◌∷◌, map, Option, Some, None, refl, sym, subst, arith}
use Rattle.std.specs.Prelude.{Bool, true, false, if◌then◌else◌, nat_lt}
use Rattle.std.specs.Str.{bytes_eq}
use Rattle.pst_model.specs.Parts.{Name, operation_number}
use Rattle.pst_model.specs.declared.expr.Clause.{Clause, Clause-F, map-Clause, fold-roll-Clause}
use Rattle.pst_model.specs.declared.expr.Expr.{Expr, Expr-F, map-Expr, fold-roll-Expr, ind-Expr}
use Rattle.pst_model.specs.declared.model.Item.{Item}
use Rattle.pst_model.specs.declared.model.Item.TheVariants as item
use Rattle.pst_machine.specs.declared.code.Instr.{Instr}
use Rattle.pst_machine.specs.declared.code.Instr.TheVariants.{Move, Call, Apply}
use Rattle.pst_compile.specs.Code.{Block, one, ◌then◌, Scope, Coded, CodedPart, own, unless_own, load, load_all, visit_code, find, move_from, apply_to, call_to, no_name, to_either, code_at, coded_part_at, code as code_of, part_code, functions, number}
use Rattle.pst_compile.proofs.Lawful.{Placed, Lawful, lawful_nothing, lawful_then, lawful_where, lawful_choice, lawful_each}

module _ (g : ℕ) where
  one_lawful : (i : Instr) → ((hi q : ℕ) → Placed g hi q i) → Lawful g (one i)
  one_lawful i h = record { by = λ p. (h (p + 1) p, tt) }

  pub record LawfulCode (c : Coded) : Type 0 where
    pub by : (sc : Scope) (r : ℕ) → Lawful g (c.put sc r)
    pub over : (sc : Scope) (d r : ℕ) → Lawful g (c.overwrite sc d r)

  -- code that is no name's
  moved_lawful : (c : Scope → ℕ → Block) → ((sc : Scope) (r : ℕ) → Lawful g (c sc r)) → LawfulCode (no_name c)
  moved_lawful c h = record { by = h; over = λ sc d r. lawful_then g _ _ (h sc r) (one_lawful _ (λ hi q. tt)) }

  -- code whose last instruction may write to another register than r
  either_lawful : (c : Scope → ℕ → ℕ → Block) → ((sc : Scope) (d r : ℕ) → Lawful g (c sc d r)) → LawfulCode (to_either c)
  either_lawful c h = record { by = λ sc r. h sc r r; over = h }

  unless_lawful : (a : Option ℕ) (b : Block) → Lawful g b → Lawful g (unless_own a b)
  unless_lawful None b h = h
  unless_lawful (Some a) b h = lawful_nothing g

  pub load_lawful : (c : Coded) → LawfulCode c → (sc : Scope) (r : ℕ) → Lawful g (load c sc r)
  load_lawful c h sc r = unless_lawful (own c.name sc) (c.put sc r) (h.by sc r)

  abbrev pub AllLawful : List Coded → Type 0
  AllLawful [] = Unit {0}
  AllLawful (c ∷ cs) = LawfulCode c × AllLawful cs

  all_lawful : (cs : List Coded) → AllLawful cs → (sc : Scope) (r : ℕ) → Lawful g (load_all cs sc r)
  all_lawful [] h sc r = lawful_nothing g
  all_lawful (c ∷ cs) h sc r = lawful_then g _ _ (load_lawful c h.0 sc r) (all_lawful cs h.1 sc (r + 1))

  abbrev pub PartLawful : CodedPart → Type 0
  PartLawful (Clause-F.In x c) = LawfulCode c
  PartLawful (Clause-F.When c) = LawfulCode c

  abbrev pub PartsLawful : List CodedPart → Type 0
  PartsLawful [] = Unit {0}
  PartsLawful (c ∷ cs) = PartLawful c × PartsLawful cs

  visit_lawful : (cs : List CodedPart) (cb : Coded) → PartsLawful cs → LawfulCode cb → (built : ℕ) (sc : Scope) (r : ℕ) → Lawful g (visit_code cs cb built sc r)
  visit_lawful [] cb h hb built sc r = lawful_then g _ _ (load_lawful cb hb sc r) (one_lawful _ (λ hi q. tt))
  visit_lawful (Clause-F.In x e ∷ cs) cb h hb built sc r =
      lawful_then g _ _ (load_lawful e h.0 sc r) (lawful_then g _ _ (one_lawful _ (λ hi q. tt)) (lawful_each g _ _ _ _ (visit_lawful cs cb h.1 hb built ((x, r + 2) ∷ sc) (r + 3))))
  visit_lawful (Clause-F.When e ∷ cs) cb h hb built sc r = lawful_then g _ _ (load_lawful e h.0 sc r) (lawful_where g _ _ (visit_lawful cs cb h.1 hb built sc r))

  move_lawful : (r : ℕ) (a : Option ℕ) → Lawful g (move_from r a)
  move_lawful r None = one_lawful _ (λ hi q. tt)
  move_lawful r (Some a) = one_lawful _ (λ hi q. tt)

  call_if : (t : Bool) (i j : Instr) → Lawful g (one i) → Lawful g (one j) → Lawful g (if t then one i else one j)
  call_if true i j h k = h
  call_if false i j h k = k

  call_lawful : (r : ℕ) (n : Option ℕ) (rs : List ℕ) → Lawful g (call_to r n rs)
  call_lawful r None rs = one_lawful _ (λ hi q. tt)
  call_lawful r (Some n) rs = call_if (nat_lt n (2 ^ 32)) _ _ (one_lawful (Call r n rs) (λ hi q. tt)) (one_lawful (Move r r) (λ hi q. tt))

  apply_lawful : (r : ℕ) (n : Option ℕ) (rs : List ℕ) → ((k : ℕ) → n ≡ Some k → k < g) → Lawful g (apply_to r n rs)
  apply_lawful r None rs h = one_lawful _ (λ hi q. tt)
  apply_lawful r (Some k) rs h = one_lawful (Apply r k rs) (λ hi q. h k refl)

  module _ (items : List Item) (nums : Name → Option ℕ) (low : (x : Name) (k : ℕ) → nums x ≡ Some k → k < g) where
    abbrev ExprLawful : Expr → Type 0
    ExprLawful e = LawfulCode (code_of items nums e)

    abbrev ClauseLawful : Clause → Type 0
    ClauseLawful c = PartLawful (part_code items nums c)

    abbrev AnExpr : Type 0
    AnExpr = (e : Expr) × ExprLawful e

    abbrev AClause : Type 0
    AClause = (c : Clause) × ClauseLawful c

    exprs_lawful : (es : List AnExpr) → AllLawful (map (code_of items nums) (map (λ e. e.0) es))
    exprs_lawful [] = tt
    exprs_lawful (e ∷ es) = (e.1, exprs_lawful es)

    parts_lawful : (cs : List AClause) → PartsLawful (map (part_code items nums) (map (λ c. c.0) cs))
    parts_lawful [] = tt
    parts_lawful (c ∷ cs) = (c.1, parts_lawful cs)

    abbrev plain : Expr-F AClause AnExpr → Expr-F Clause Expr
    plain y = map-Expr AClause AnExpr Clause Expr (λ c. c.0) (λ e. e.0) y

    abbrev LayerLawful : Expr-F Clause Expr → Type 0
    LayerLawful x = LawfulCode (code_at items nums (map-Expr Clause Expr CodedPart Coded (part_code items nums) (code_of items nums) x))

    layer_lawful : (y : Expr-F AClause AnExpr) → LayerLawful (plain y)
    layer_lawful (Expr-F.Int n) = moved_lawful _ (λ sc r. one_lawful _ (λ hi q. tt))
    layer_lawful (Expr-F.Bool b) = moved_lawful _ (λ sc r. one_lawful _ (λ hi q. tt))
    layer_lawful (Expr-F.Text t) = moved_lawful _ (λ sc r. one_lawful _ (λ hi q. tt))
    layer_lawful (Expr-F.Name x) = record { by = λ sc r. move_lawful r (find sc x); over = λ sc d r. move_lawful d (find sc x) }
    layer_lawful (Expr-F.Let x e b) = record {
      by = λ sc r. lawful_then g _ _ (load_lawful _ e.1 sc r) (lawful_then g _ _ (b.1.by _ (r + 1)) (one_lawful _ (λ hi q. tt)));
      over = λ sc d r. lawful_then g _ _ (load_lawful _ e.1 sc r) (b.1.over _ d (r + 1));
    }
    layer_lawful (Expr-F.If c a b) = record {
      by = λ sc r. lawful_then g _ _ (load_lawful _ c.1 sc r) (lawful_choice g _ _ _ (a.1.by sc r) (b.1.by sc r));
      over = λ sc d r. lawful_then g _ _ (load_lawful _ c.1 sc r) (lawful_choice g _ _ _ (a.1.over sc d r) (b.1.over sc d r));
    }
    layer_lawful (Expr-F.And a b) = moved_lawful _ (λ sc r. lawful_then g _ _ (a.1.by sc r) (lawful_where g _ _ (b.1.by sc r)))
    layer_lawful (Expr-F.Or a b) = moved_lawful _ (λ sc r. lawful_then g _ _ (a.1.by sc r) (lawful_choice g _ _ _ (lawful_nothing g) (b.1.by sc r)))
    layer_lawful (Expr-F.Unary op e) = moved_lawful _ (λ sc r. lawful_then g _ _ (load_lawful _ e.1 sc r) (one_lawful _ (λ hi q. tt)))
    layer_lawful (Expr-F.Binary op a b) = either_lawful _ (λ sc d r. lawful_then g _ _ (load_lawful _ a.1 sc r) (lawful_then g _ _ (load_lawful _ b.1 sc (r + 1)) (one_lawful _ (λ hi q. tt))))
    layer_lawful (Expr-F.Tuple es) = moved_lawful _ (λ sc r. lawful_then g _ _ (all_lawful _ (exprs_lawful es) sc r) (one_lawful _ (λ hi q. tt)))
    layer_lawful (Expr-F.At e n) = moved_lawful _ (λ sc r. lawful_then g _ _ (load_lawful _ e.1 sc r) (one_lawful _ (λ hi q. tt)))
    layer_lawful (Expr-F.List type es) = moved_lawful _ (λ sc r. lawful_then g _ _ (all_lawful _ (exprs_lawful es) sc r) (one_lawful _ (λ hi q. tt)))
    layer_lawful (Expr-F.For clauses b) = moved_lawful _ (λ sc r. lawful_then g _ _ (one_lawful _ (λ hi q. tt)) (visit_lawful _ _ (parts_lawful clauses) b.1 r sc (r + 1)))
    layer_lawful (Expr-F.Fold x e acc i b) = moved_lawful _ (λ sc r.
        lawful_then g _ _ (load_lawful _ e.1 sc r) (lawful_then g _ _ (i.1.by sc (r + 1)) (lawful_then g _ _ (one_lawful _ (λ hi q. tt)) (lawful_then g _ _
        (lawful_each g _ _ _ _ (b.1.over _ (r + 1) (r + 4))) (one_lawful _ (λ hi q. tt))))))
    layer_lawful (Expr-F.Map k t) = moved_lawful _ (λ sc r. one_lawful _ (λ hi q. tt))
    layer_lawful (Expr-F.Put m k v) = either_lawful _ (λ sc d r.
        lawful_then g _ _ (load_lawful _ m.1 sc r) (lawful_then g _ _ (load_lawful _ k.1 sc (r + 1)) (lawful_then g _ _ (load_lawful _ v.1 sc (r + 2)) (one_lawful _ (λ hi q. tt)))))
    layer_lawful (Expr-F.Call x es) = moved_lawful _ (λ sc r. lawful_then g _ _ (all_lawful _ (exprs_lawful es) sc r) (call_lawful r (operation_number items x) _))
    layer_lawful (Expr-F.Apply f es) = moved_lawful _ (λ sc r. lawful_then g _ _ (all_lawful _ (exprs_lawful es) sc r) (apply_lawful r (nums f) _ (low f)))

    abbrev PlainPart : Clause-F AClause AnExpr → Clause-F Clause Expr
    PlainPart y = map-Clause AClause AnExpr Clause Expr (λ c. c.0) (λ e. e.0) y

    abbrev PartLayer : Clause-F Clause Expr → Type 0
    PartLayer x = PartLawful (coded_part_at (map-Clause Clause Expr CodedPart Coded (part_code items nums) (code_of items nums) x))

    part_layer : (y : Clause-F AClause AnExpr) → PartLayer (PlainPart y)
    part_layer (Clause-F.In x e) = e.1
    part_layer (Clause-F.When e) = e.1

    pub expr_lawful : (e : Expr) → ExprLawful e
    expr_lawful = ind-Expr ClauseLawful ExprLawful
        (λ x y is. subst PartLawful (sym (fold-roll-Clause CodedPart Coded coded_part_at (code_at items nums) x)) (subst PartLayer is (part_layer y)))
        (λ x y is. subst LawfulCode (sym (fold-roll-Expr CodedPart Coded coded_part_at (code_at items nums) x)) (subst LayerLawful is (layer_lawful y)))

-- a function's number is below the count
number_if : (t : Bool) (n k m : ℕ) (o : Option ℕ) → (o ≡ Some k → k < n) → (if t then Some n else o) ≡ Some k → k < suc n
number_if true n k m o h e = let same : n ≡ k = cc in omega (arith, same)
number_if false n k m o h e = let lt = h e in omega (arith, lt)

pub number_low : (fs : List Item) (x : Name) (k : ℕ) → number fs x ≡ Some k → k < functions fs
number_low [] x k e = absurd cc
number_low (item.Fun f ∷ fs) x k e = number_if (bytes_eq f.name x) (functions fs) k 0 (number fs x) (number_low fs x k) e
number_low (item.State t ∷ fs) x k e = number_low fs x k e
number_low (item.Init i ∷ fs) x k e = number_low fs x k e
number_low (item.Command c ∷ fs) x k e = number_low fs x k e
number_low (item.Op o ∷ fs) x k e = number_low fs x k e
