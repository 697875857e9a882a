-- A part that faults, and the outcome of the whole.
use Rattle.std.proofs.Common.{◌≡◌, ℕ, ◌<◌, List, map, sym, ap, ◌∙◌, arith}
use Rattle.pst_eval.specs.Env.{mean_in, functions_in}
use Rattle.pst_eval.specs.Meaning.{Called, Env, Mean, Part, all, mean, mean_at, part, part_at}
use Rattle.pst_eval.specs.Weight.{clause_weight, clause_weight_at, total, weight, weight_at}
use Rattle.pst_eval.specs.declared.context.Context.{Context}
use Rattle.pst_model.specs.declared.expr.Clause.{Clause}
use Rattle.pst_model.specs.declared.expr.Expr.{Expr, Expr-F, map-Expr, out-Expr, fold_out-Expr}
use Rattle.pst_model.specs.declared.model.Item.{Item}
use Rattle.pst_operators.specs.Outcome.{Outcome, Gives, Faults, Stuck, and_then}
use Rattle.pst_scene.specs.Parts.{Decides, FirstFaults, operands, operands_at}
use Rattle.pst_value.specs.declared.fault.Fault.{Fault}

-- the fault of the first is the fault of both
first_faults : {A B : Type 0} (o : Outcome A) (f : A → Outcome B) (why : Fault) → o ≡ Faults why → and_then o f ≡ Faults why
first_faults o f why h = ap (λ p. and_then p f) h

-- where one outcome is a fault, so is another that begins with the same
then_faults : {A B C : Type 0} (o : Outcome A) (f : A → Outcome B) (g : A → Outcome C) (why : Fault) → and_then o f ≡ Faults why → ((a : A) → f a ≡ Faults why → g a ≡ Faults why) → and_then o g ≡ Faults why
then_faults (Gives a) f g why h k = k a h
then_faults (Faults w) f g why h k = let e : w ≡ why = cc in ap Faults e
then_faults Stuck f g why h k = absurd (cc)

module _ (items : List Item) (F : List Called) where
  abbrev m : Expr → Mean
  m = mean items F

  -- an operand that faults is the fault of the form
  layer_faults : (d : Expr-F Clause Expr) (env : Env) (t : ℕ) (why : Fault) → all (map m (operands_at d)) env t ≡ Faults why → mean_at items F (map-Expr Clause Expr Part Mean (part items F) m d) env t ≡ Faults why
  layer_faults (Expr-F.Unary op e) env t why h = then_faults (m e env t) _ _ why h (λ r q. absurd (cc))
  layer_faults (Expr-F.Binary op a b) env t why h = then_faults (m a env t) _ _ why h (λ r q. then_faults (m b env r.1) _ _ why q (λ s p. absurd (cc)))
  layer_faults (Expr-F.Tuple es) env t why h = first_faults (all (map m es) env t) _ why h
  layer_faults (Expr-F.At e place) env t why h = then_faults (m e env t) _ _ why h (λ r q. absurd (cc))
  layer_faults (Expr-F.List type es) env t why h = first_faults (all (map m es) env t) _ why h
  layer_faults (Expr-F.Put a k v) env t why h = then_faults (m a env t) _ _ why h (λ r q. then_faults (m k env r.1) _ _ why q (λ s p. then_faults (m v env s.1) _ _ why p (λ u n. absurd (cc))))
  layer_faults (Expr-F.Call x es) env t why h = first_faults (all (map m es) env t) _ why h
  layer_faults _ env t why h = absurd (cc)

  operands_fault : (e : Expr) (env : Env) (t : ℕ) (why : Fault) → all (map m (operands e)) env t ≡ Faults why → m e env t ≡ Faults why
  operands_fault e env t why h = ap (λ f. f env t) (fold_out-Expr Part Mean part_at (mean_at items F) e) ∙ layer_faults (out-Expr e) env t why h

-- the operands weigh less than the form
layer_lighter : (d : Expr-F Clause Expr) → total (map weight (operands_at d)) < weight_at (map-Expr Clause Expr ℕ ℕ clause_weight weight d)
layer_lighter (Expr-F.Unary op e) = omega arith
layer_lighter (Expr-F.Binary op a b) = omega arith
layer_lighter (Expr-F.Tuple es) = omega arith
layer_lighter (Expr-F.At e place) = omega arith
layer_lighter (Expr-F.List type es) = omega arith
layer_lighter (Expr-F.Put a k v) = omega arith
layer_lighter (Expr-F.Call x es) = omega arith
layer_lighter _ = omega arith

operands_lighter : (e : Expr) → total (map weight (operands e)) < weight e
operands_lighter e = rw (fold_out-Expr ℕ ℕ clause_weight_at weight_at e) (layer_lighter (out-Expr e))

-- the first operand that faults decides the outcome
pub operand_decides : (c : Context) (e : Expr) (env : Env) (t : ℕ) (part : Expr) (left : ℕ) (why : Fault) → FirstFaults (mean_in c) (operands e) env t part left why → Decides c e env t part left
operand_decides c e env t part left why first = record {
  same = operands_fault c.items.now (functions_in c) e env t why first.whole ∙ sym first.part;
  lighter = omega (arith, operands_lighter e, first.lighter);
}
