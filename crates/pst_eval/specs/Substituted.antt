-- Results in place of variables, in what an expression sees and in what it comes to.
use Rattle.std.specs.Prelude.{ℕ, List, [], ◌∷◌, Option}
use Rattle.pst_eval.specs.Meaning.{Env}
use Rattle.pst_operators.specs.Outcome.{Outcome, Gives, Faults, Stuck}
use Rattle.pst_value.specs.Subst.{substituted}
use Rattle.pst_value.specs.declared.value.Value.{Value}

-- the bindings, with results for the variables in their values
abbrev pub substituted_in : List (Option Value) → Env → Env
substituted_in results [] = []
substituted_in results (binding ∷ outer) =
    (binding.0, substituted results binding.1) ∷ substituted_in results outer

-- the outcome, with another value for its value; a fault and the turns left stay
abbrev pub mapped : {A B : Type 0} → (A → B) → Outcome (A × ℕ) → Outcome (B × ℕ)
mapped f (Gives r) = Gives (f r.0, r.1)
mapped f (Faults why) = Faults why
mapped f Stuck = Stuck

-- the outcome, with results for the variables in its value
abbrev pub substituted_outcome : List (Option Value) → Outcome (Value × ℕ) → Outcome (Value × ℕ)
substituted_outcome results = mapped (substituted results)
