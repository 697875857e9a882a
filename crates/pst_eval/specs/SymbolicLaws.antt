-- To put results in place of variables and then to evaluate is to evaluate and then to put them in.
use Rattle.std.specs.Prelude.{◌≡◌, ◌≢◌, ℕ, true, false, List, [], ◌∷◌, ◌++◌, map, reverse, Option}
use Rattle.pst_eval.specs.Callbacks.{init_of, command_of, pre_of, next_of, PreFits, NextFits}
use Rattle.pst_model.specs.Fitting.{is_state, fits_in}
use Rattle.pst_eval.specs.Meaning.{Env, Mean, called, mean}
use Rattle.pst_model.specs.declared.expr.Expr.{Expr}
use Rattle.pst_model.specs.declared.model.Item.{Item}
use Rattle.pst_model.specs.declared.model.Source.{Source}
use Rattle.pst_operators.specs.Outcome.{Stuck}
use Rattle.pst_model.specs.Rules.{Context, Has, Typed}
use Rattle.pst_model.specs.WellTyped.{WellModel}
use Rattle.pst_eval.specs.Substituted.{substituted_in, substituted_outcome}
use Rattle.pst_value.specs.Subst.{substituted}
use Rattle.pst_value.specs.declared.ty.Ty.{Ty}
use Rattle.pst_value.specs.declared.value.Value.{Value}

-- the names of the bindings are those of the context, and each value fits its type
abbrev pub EnvFits : Source → (free vars : List Ty) → Env → Context → Type 0
EnvFits m free vars [] [] = Unit {0}
EnvFits m free vars [] (c ∷ G) = ⊥
EnvFits m free vars (b ∷ env) [] = ⊥
EnvFits m free vars (b ∷ env) (c ∷ G) =
    (b.0 ≡ c.0) × (fits_in m free vars b.1 c.1 ≡ true) × EnvFits m free vars env G

-- what an expression means by the operations of the model and by the functions among these items
abbrev pub mean_over : Source → List Item → Expr → Mean
mean_over m before = mean m.items (called m.items (reverse before))

-- the expression is well typed in mode plain over the functions among these items
abbrev pub IsPlainOver : Source → List Item → Context → Expr → Ty → Type 0
IsPlainOver m before G e T = Typed m.items (reverse before) false (Has G e T)

-- For an expression of mode plain over the functions of a well-typed model, or over the first of them:
-- results for the variables in the environment, and then the meaning, is the meaning, and then results for
-- the variables in its value; faults and turns left are the same.
abbrev pub SymbolicEqualsReal : Type 0
SymbolicEqualsReal =
    (m : Source) → WellModel m → (before after : List Item) → m.items ≡ before ++ after
    → (G : Context) (e : Expr) (T : Ty) → IsPlainOver m before G e T
    → (free vars : List Ty) (env : Env) → EnvFits m free vars env G
    → (results : List (Option Value)) (turns : ℕ)
    → (mean_over m before e (substituted_in results env) turns
    ≡ substituted_outcome results (mean_over m before e env turns))
    × (mean_over m before e env turns ≢ Stuck)

-- the opening state stays as it is, whatever results are put in
abbrev pub InitIsReal : Type 0
InitIsReal =
    (m : Source) → WellModel m → (results : List (Option Value))
    → substituted_outcome results (init_of m) ≡ init_of m

-- the calls from a real state are those from the symbolic one, with results for their variables
abbrev pub CommandIsReal : Type 0
CommandIsReal =
    (m : Source) → WellModel m → (results : List (Option Value)) (free vars : List Ty) (s : Value)
    → is_state m free vars s ≡ true
    → command_of m (substituted results s) ≡ substituted_outcome results (command_of m s)

-- the precondition answers the same on real values as on symbolic ones
abbrev pub PreIsReal : Type 0
PreIsReal =
    (m : Source) → WellModel m
    → (results : List (Option Value)) (free vars : List Ty) (op : ℕ) (s : Value) (args : List Value)
    → PreFits m op s args free vars
    → pre_of m op (substituted results s) (map (substituted results) args) ≡ pre_of m op s args

-- the next real state is the next symbolic one, with results for its variables (where `r` is the variable of
-- a command whose result is known, it becomes the reference to that result)
abbrev pub NextIsReal : Type 0
NextIsReal =
    (m : Source) → WellModel m
    → (results : List (Option Value)) (free vars : List Ty) (op : ℕ) (s : Value) (args : List Value)
    (r : Value)
    → NextFits m op s args r free vars
    → next_of m op (substituted results s) (map (substituted results) args) (substituted results r)
    ≡ substituted_outcome results (next_of m op s args r)
