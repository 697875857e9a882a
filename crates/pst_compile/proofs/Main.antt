-- The code of every expression does what it means, and so does that of every function.
use Rattle.std.proofs.Common.{ℕ, List, [], ◌∷◌, length, map, Option, Some, refl, sym, subst}
use Rattle.std.specs.Prelude.{Bool, true, false, if◌then◌else◌}
use Rattle.std.specs.Str.{bytes_eq}
use Rattle.pst_model.specs.Parts.{Name, operation_number}
use Rattle.pst_model.specs.declared.expr.Clause.{Clause, Clause-F, map-Clause, roll-Clause, fold-roll-Clause}
use Rattle.pst_model.specs.declared.expr.Expr.{Expr, Expr-F, map-Expr, roll-Expr, fold-roll-Expr, ind-Expr}
use Rattle.pst_model.specs.declared.model.Item.{Item}
use Rattle.pst_model.specs.declared.model.Item.TheVariants as item
use Rattle.pst_value.specs.declared.value.Value.{Value}
use Rattle.pst_eval.specs.Meaning.{Mean, Part, Run, Called, called, applied, mean, part, mean_at, part_at}
use Rattle.pst_operators.specs.Maps.{map_of}
use Rattle.pst_operators.specs.Operators.{int, bool, text, list, tuple, item as item_of, unary}
use Rattle.pst_machine.specs.declared.code.Instr.TheVariants.{Unary, At, Tuple, List as MakeList}
use Rattle.pst_machine.specs.declared.code.FunCode.{FunCode}
use Rattle.pst_machine.specs.declared.machine.Frame.{Frame}
use Rattle.pst_machine.specs.Machine.{Regs}
use Rattle.pst_compile.specs.Code.{Coded, CodedPart, code_at, coded_part_at, code as code_of, part_code, functions, number, parameter_scope, apply_to}
use Rattle.pst_compile.proofs.Good.{Good}
use Rattle.pst_compile.proofs.Steps.{Runs, Written}
use Rattle.pst_compile.proofs.Rules.{runs_stuck}
use Rattle.pst_compile.proofs.Forms.{const_good, name_good, unary_good, let_good, binary_good, put_good, if_good, and_good, or_good}
use Rattle.pst_compile.proofs.Rows.{AllGood, row_good, call_good}
use Rattle.pst_compile.proofs.Visits.{PartGood, PartsGood, for_good, fold_good}
use Rattle.pst_compile.proofs.Calls.{Calls, apply_good, IsCode, applied_runs}

module _ (code : List FunCode) (items : List Item) (nums : Name → Option ℕ) (funs : List Called) (calls : Calls code nums funs) where
  abbrev ExprGood : Expr → Type 0
  ExprGood e = Good code (code_of items nums e) (mean items funs e)

  abbrev ClauseGood : Clause → Type 0
  ClauseGood c = PartGood code (part_code items nums c) (part items funs c)

  abbrev AnExpr : Type 0
  AnExpr = (e : Expr) × ExprGood e

  abbrev AClause : Type 0
  AClause = (c : Clause) × ClauseGood c

  all_good : (es : List AnExpr) → AllGood code (map (code_of items nums) (map (λ e. e.0) es)) (map (mean items funs) (map (λ e. e.0) es))
  all_good [] = tt
  all_good (e ∷ es) = (e.1, all_good es)

  parts_good : (cs : List AClause) → PartsGood code (map (part_code items nums) (map (λ c. c.0) cs)) (map (part items funs) (map (λ c. c.0) cs))
  parts_good [] = tt
  parts_good (c ∷ cs) = (c.1, parts_good cs)

  abbrev plain : Expr-F AClause AnExpr → Expr-F Clause Expr
  plain y = map-Expr AClause AnExpr Clause Expr (λ c. c.0) (λ e. e.0) y

  abbrev LayerGood : Expr-F Clause Expr → Type 0
  LayerGood x = Good code (code_at items nums (map-Expr Clause Expr CodedPart Coded (part_code items nums) (code_of items nums) x)) (mean_at items funs (map-Expr Clause Expr Part Mean (part items funs) (mean items funs) x))

  layer_good : (y : Expr-F AClause AnExpr) → LayerGood (plain y)
  layer_good (Expr-F.Int n) = const_good code (int n)
  layer_good (Expr-F.Bool b) = const_good code (bool b)
  layer_good (Expr-F.Text t) = const_good code (text t)
  layer_good (Expr-F.Name x) = name_good code x
  layer_good (Expr-F.Let x e b) = let_good code x _ _ _ _ e.1 b.1
  layer_good (Expr-F.If c a b) = if_good code _ _ _ _ _ _ c.1 a.1 b.1
  layer_good (Expr-F.And a b) = and_good code _ _ _ _ a.1 b.1
  layer_good (Expr-F.Or a b) = or_good code _ _ _ _ a.1 b.1
  layer_good (Expr-F.Unary op e) = unary_good code _ _ (λ r a. Unary op r a) (unary op) (λ r a f p regs turns callers. refl) e.1
  layer_good (Expr-F.Binary op a b) = binary_good code op _ _ _ _ a.1 b.1
  layer_good (Expr-F.Tuple es) = row_good code _ _ Tuple tuple (λ r rs f p regs turns callers. refl) (all_good es)
  layer_good (Expr-F.At e n) = unary_good code _ _ (λ r a. At r a n) (item_of n) (λ r a f p regs turns callers. refl) e.1
  layer_good (Expr-F.List type es) = row_good code _ _ MakeList list (λ r rs f p regs turns callers. refl) (all_good es)
  layer_good (Expr-F.For clauses b) = for_good code _ _ _ _ (parts_good clauses) b.1
  layer_good (Expr-F.Fold x e acc i b) = fold_good code x acc _ _ _ _ _ _ e.1 i.1 b.1
  layer_good (Expr-F.Map k t) = const_good code (map_of [] [])
  layer_good (Expr-F.Put m k v) = put_good code _ _ _ _ _ _ m.1 k.1 v.1
  layer_good (Expr-F.Call x es) = call_good code (operation_number items x) _ _ (all_good es)
  layer_good (Expr-F.Apply f es) = apply_good code nums funs calls f _ _ (all_good es)

  abbrev PlainPart : Clause-F AClause AnExpr → Clause-F Clause Expr
  PlainPart y = map-Clause AClause AnExpr Clause Expr (λ c. c.0) (λ e. e.0) y

  abbrev PartLayerGood : Clause-F Clause Expr → Type 0
  PartLayerGood x = PartGood code (coded_part_at (map-Clause Clause Expr CodedPart Coded (part_code items nums) (code_of items nums) x)) (part_at (map-Clause Clause Expr Part Mean (part items funs) (mean items funs) x))

  part_layer_good : (y : Clause-F AClause AnExpr) → PartLayerGood (PlainPart y)
  part_layer_good (Clause-F.In x e) = (refl, e.1)
  part_layer_good (Clause-F.When e) = e.1

  pub expr_good : (e : Expr) → ExprGood e
  expr_good = ind-Expr ClauseGood ExprGood
      (λ x y is.
      let good = subst PartLayerGood is (part_layer_good y) in
      let at_code = subst (λ c. PartGood code c (part_at (map-Clause Clause Expr Part Mean (part items funs) (mean items funs) x))) (sym (fold-roll-Clause CodedPart Coded coded_part_at (code_at items nums) x)) good in
      subst (PartGood code (part_code items nums (roll-Clause x))) (sym (fold-roll-Clause Part Mean part_at (mean_at items funs) x)) at_code)
      (λ x y is.
      let good = subst LayerGood is (layer_good y) in
      let at_code = subst (λ c. Good code c (mean_at items funs (map-Expr Clause Expr Part Mean (part items funs) (mean items funs) x))) (sym (fold-roll-Expr CodedPart Coded coded_part_at (code_at items nums) x)) good in
      subst (Good code (code_of items nums (roll-Expr x))) (sym (fold-roll-Expr Part Mean part_at (mean_at items funs) x)) at_code)

module _ (code : List FunCode) (items : List Item) where
  -- the code of the functions among items, the last first, under their numbers
  abbrev pub HasFuns : List Item → Type 0
  HasFuns [] = Unit {0}
  HasFuns (item.Fun f ∷ earlier) = IsCode code items (number earlier) (functions earlier) (length f.params) (parameter_scope f.params 0) f.body × HasFuns earlier
  HasFuns (_ ∷ earlier) = HasFuns earlier

  here_or : (t : Bool) (k : ℕ) (n : Option ℕ) (run run' : Run Value) (f : ℕ) (callers : List Frame) (d : ℕ) (rs : List ℕ) (regs : Regs) (turns : ℕ) → Runs code f callers (apply_to d (Some k) rs) regs turns (Written code f callers regs d) (run turns) → Runs code f callers (apply_to d n rs) regs turns (Written code f callers regs d) (run' turns) → Runs code f callers (apply_to d (if t then Some k else n) rs) regs turns (Written code f callers regs d) ((if t then run else run') turns)
  here_or true k n run run' f callers d rs regs turns here there = here
  here_or false k n run run' f callers d rs regs turns here there = there

  pub calls_good : (fs : List Item) → HasFuns fs → Calls code (number fs) (called items fs)
  calls_good [] h = record { by = λ x vs f callers d rs regs turns e. runs_stuck code f callers _ regs turns (Written code f callers regs d) }
  calls_good (item.Fun g ∷ earlier) h =
      let calls = calls_good earlier h.1 in
      record {
        by = λ x vs f callers d rs regs turns e. here_or (bytes_eq g.name x) (functions earlier) (number earlier x) _ (applied (called items earlier) x vs) f callers d rs regs turns
            (applied_runs code items (number earlier) (functions earlier) g.params g.body (mean items (called items earlier) g.body) h.0 (expr_good code items (number earlier) (called items earlier) calls g.body) vs f callers d rs regs turns e)
            (calls.by x vs f callers d rs regs turns e);
      }
  calls_good (item.State t ∷ earlier) h = calls_good earlier h
  calls_good (item.Init e ∷ earlier) h = calls_good earlier h
  calls_good (item.Command e ∷ earlier) h = calls_good earlier h
  calls_good (item.Op o ∷ earlier) h = calls_good earlier h
