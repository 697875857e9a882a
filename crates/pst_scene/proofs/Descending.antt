-- One step of the descent: what the whole comes to, by what a part comes to.
use Rattle.std.proofs.Common.{◌≡◌, ℕ, List, [], map, reverse, None, Some, subst, sym, ap, ◌∙◌}
use Rattle.pst_eval.proofs.Means.{mean_for}
use Rattle.pst_eval.specs.Callbacks.{at_names}
use Rattle.pst_eval.specs.Env.{mean_in}
use Rattle.pst_eval.specs.Meaning.{Called, Env, called, mean, part, visit}
use Rattle.pst_eval.specs.declared.context.Context.{Context}
use Rattle.pst_model.specs.declared.expr.Clause.{Clause}
use Rattle.pst_model.specs.declared.expr.Expr.{Expr, For}
use Rattle.pst_model.specs.declared.model.Item.{Item}
use Rattle.pst_model.specs.declared.model.Source.{Source}
use Rattle.pst_operators.specs.Operators.{list}
use Rattle.pst_operators.specs.Outcome.{Outcome, Gives, Faults, Stuck, and_then}
use Rattle.pst_scene.specs.Outcomes.{FaultsIn, outcome_at}
use Rattle.pst_scene.specs.declared.faulty.FaultyPart.{FaultyPart}
use Rattle.pst_value.specs.declared.fault.Fault.{Fault}
use Rattle.pst_value.specs.declared.value.Value.{Value}

-- the clauses of a comprehension fault
pub for_faults : (items : List Item) (F : List Called) (cs : List Clause) (b whole : Expr) (env : Env) (t : ℕ) (why : Fault)
    → whole ≡ For cs b → visit (map (part items F) cs) (mean items F b) env [] t ≡ Faults why → mean items F whole env t ≡ Faults why
for_faults items F cs b whole env t why form h =
    ap (λ d. mean items F d env t) form ∙ ap (λ f. f env t) (mean_for items F cs b) ∙ ap (λ o. and_then o (λ r. Gives (list r.0, r.1))) h

-- what an expression of the model means, by the context of its callbacks
pub at_start : (m : Source) (c : Context) (e : Expr) (env : Env) → c.items.now ≡ m.items → c.earlier.now ≡ m.items → at_names m e env ≡ mean_in c e env 1000000
unfolding at_names
at_start m c e env hi he = sym (ap (λ (xs : List Item). mean xs (called xs (reverse c.earlier.now)) e env 1000000) hi ∙ ap (λ (xs : List Item). mean m.items (called m.items (reverse xs)) e env 1000000) he)

-- the part that is found has the fault of the whole
pub found_in : (m : Source) (c : Context) (e : Expr) (env : Env) (p : FaultyPart) (why : Fault)
    → c.items.now ≡ m.items → c.earlier.now ≡ m.items → mean_in c e env 1000000 ≡ outcome_at c.items.now p → at_names m e env ≡ Faults why
    → FaultsIn m.items (at_names m e env) (Some p)
found_in m c e env p why hi he h f =
    let P : Outcome (Value × ℕ) → Type 0 = λ o. FaultsIn m.items o (Some p) in
    let q : mean_in c e env 1000000 ≡ outcome_at m.items p = h ∙ ap (λ (xs : List Item). outcome_at xs p) hi in
    subst P (sym f) (sym q ∙ (sym (at_start m c e env hi he) ∙ f))

-- what has a value has no part that faults
pub none_of_value : (items : List Item) (o : Outcome (Value × ℕ)) (v : Value) → ((left : ℕ) × (o ≡ Gives (v, left))) → FaultsIn items o None
none_of_value items o v h = let P : Outcome (Value × ℕ) → Type 0 = λ q. FaultsIn items q None in subst P (sym h.1) tt

-- nor has what is not well typed
pub none_of_stuck : (items : List Item) (o : Outcome (Value × ℕ)) → o ≡ Stuck → FaultsIn items o None
none_of_stuck items o h = let P : Outcome (Value × ℕ) → Type 0 = λ q. FaultsIn items q None in subst P (sym h) tt
