-- How the faulty part of an expression is found.
use Rattle.std.specs.Borrow.{Bor}
use Rattle.std.specs.Prelude.{◌≡◌, ℕ, ◌+◌, ◌<◌, ◌≤◌, ⊤, Bool, true, false, List, [], ◌∷◌, map, reverse, Option, Some, None}
use Rattle.pst_scene.specs.Outcomes.{outcome_at}
use Rattle.pst_scene.specs.declared.attempt.TriedAll.{TriedAll}
use Rattle.pst_scene.specs.declared.attempt.TriedAll.TheVariants.{Give as AllGive, Faults as AllFault, Stuck as AllStuck}
use Rattle.pst_scene.specs.declared.attempt.Tried.{Tried}
use Rattle.pst_scene.specs.declared.attempt.Tried.TheVariants.{Gives as Gives', Faults as Faults', Stuck as Stuck'}
use Rattle.pst_scene.specs.declared.descent.Visited.{Visited}
use Rattle.pst_scene.specs.declared.descent.Visited.TheVariants.{Built, Part, Itself}
use Rattle.pst_scene.specs.declared.faulty.FaultyPart.{FaultyPart}
use Rattle.pst_eval.specs.Env.{mean_in}
use Rattle.pst_eval.specs.declared.context.Context.{Context}
use Rattle.pst_eval.specs.Meaning.{Env, Mean, Run, ◌>>=◌, ◌>>◌, lift, all, applied, bound, called, mean}
use Rattle.pst_eval.specs.Weight.{weight, total, functions_weight}
use Rattle.pst_model.specs.Parts.{Name}
use Rattle.pst_model.specs.declared.expr.Clause.{Clause}
use Rattle.pst_model.specs.declared.expr.Expr.{Expr, Expr-F, And, Or, out-Expr}
use Rattle.pst_model.specs.declared.model.Fun.{Fun}
use Rattle.pst_model.specs.declared.model.Item.{Item}
use Rattle.pst_operators.specs.Outcome.{Outcome, Gives, Faults, Stuck, turn}
use Rattle.pst_value.specs.declared.fault.Fault.{Fault}
use Rattle.pst_value.specs.declared.value.Value.{Value}

-- what evaluating an expression comes to
abbrev pub Attempts : Outcome (Value × ℕ) → Tried → Type 0
Attempts o (Gives' v left) = o ≡ Gives (v, left)
Attempts o (Faults' why) = o ≡ Faults why
Attempts o Stuck' = o ≡ Stuck

-- the expressions that references point to
abbrev pub referred : List (Bor Expr) → List Expr
referred = map (λ e. e.now)

-- the first of the expressions that has no value faults
pub record FirstFaults (m : Expr → Mean) (es : List Expr) (env : Env) (turns : ℕ) (e : Expr) (left : ℕ)
    (why : Fault) : Type 0 where
  pub whole : all (map m es) env turns ≡ Faults why
  pub part : m e env left ≡ Faults why
  pub lighter : weight e ≤ total (map weight es)

-- what evaluating expressions comes to
abbrev pub AttemptsAll : (Expr → Mean) → List Expr → Env → ℕ → TriedAll → Type 0
AttemptsAll m es env turns (AllGive vs left) = all (map m es) env turns ≡ Gives (vs, left)
AttemptsAll m es env turns (AllFault e left why) = FirstFaults m es env turns e.now left why
AttemptsAll m es env turns AllStuck = all (map m es) env turns ≡ Stuck

-- what a function does over the items before it
abbrev pub does : List Item → Fun → List Item → List Value → Run Value
does items f earlier args =
    lift (bound f.params args) >>= (λ env. turn >> mean items (called items earlier) f.body env)

-- the last function of a name, with the items before it
pub record NamedIn (within : List Item) (name : Name) (f : Fun) (earlier : List Item) : Type 0 where
  pub same : (items : List Item) (args : List Value) (turns : ℕ)
      → applied (called items (reverse within)) name args turns ≡ does items f (reverse earlier) args turns
  pub lighter : weight f.body + functions_weight (reverse earlier) < functions_weight (reverse within)

-- what visiting the clauses comes to
abbrev pub Visits : List Item → Outcome (List Value × ℕ) → Visited → Type 0
Visits items o (Built vs left) = o ≡ Gives (vs, left)
Visits items o (Part p why) = (o ≡ Faults why) × (outcome_at items p ≡ Faults why)
Visits items o Itself = ⊤

-- the operands of a form that evaluates all its parts from left to right, in the names that it sees itself. Other forms
-- have none
abbrev pub operands_at : Expr-F Clause Expr → List Expr
operands_at (Expr-F.Unary operator e) = e ∷ []
operands_at (Expr-F.Binary operator a b) = a ∷ b ∷ []
operands_at (Expr-F.Tuple es) = es
operands_at (Expr-F.At e place) = e ∷ []
operands_at (Expr-F.List type es) = es
operands_at (Expr-F.Put m k v) = m ∷ k ∷ v ∷ []
operands_at (Expr-F.Call x es) = es
operands_at _ = []

abbrev pub operands : Expr → List Expr
operands e = operands_at (out-Expr e)

-- no fault
abbrev pub HasNoFault : {A : Type 0} → Outcome A → Type 0
HasNoFault (Gives a) = ⊤
HasNoFault (Faults why) = ⊥
HasNoFault Stuck = ⊤

-- what evaluating the operands from left to right comes to
abbrev pub evaluated_operands : Context → Expr → Env → Run (List Value)
evaluated_operands c e = all (map (mean_in c) (operands e))

-- an `and`, whose second operand is evaluated after true, or an `or`, whose second operand is evaluated after false
abbrev pub and_or : Bool → Expr → Expr → Expr
and_or true a b = And a b
and_or false a b = Or a b

-- no part decides the outcome of a form: an `if` is stuck, an `and` or an `or` does not fault, and no operand of any
-- other form faults
abbrev pub IsUndecided : Expr-F Clause Expr → Outcome (Value × ℕ) → Outcome (List Value × ℕ) → Type 0
IsUndecided (Expr-F.If test a b) whole parts = whole ≡ Stuck
IsUndecided (Expr-F.And a b) whole parts = HasNoFault whole
IsUndecided (Expr-F.Or a b) whole parts = HasNoFault whole
IsUndecided _ whole parts = HasNoFault parts

-- no part that sees the names of the whole decides its outcome. It says nothing of forms that bind names or apply a
-- function
abbrev pub HasNoDecidingPart : Context → Expr → Env → ℕ → Type 0
HasNoDecidingPart c e env turns = IsUndecided (out-Expr e) (mean_in c e env turns) (evaluated_operands c e env turns)

-- the part decides the outcome of the whole, and weighs less
pub record Decides (c : Context) (e : Expr) (env : Env) (turns : ℕ) (part : Expr) (left : ℕ) : Type 0 where
  pub same : mean_in c e env turns ≡ mean_in c part env left
  pub lighter : weight part < weight e

-- the part has the outcome, if there is one
abbrev pub SameIfSome : List Item → Outcome (Value × ℕ) → Option FaultyPart → Type 0
SameIfSome items o None = ⊤
SameIfSome items o (Some p) = o ≡ outcome_at items p

-- what adding an item to the list comes to
abbrev pub Appends : Outcome (List Value) → ℕ → Visited → Type 0
Appends o left (Built vs more) = (o ≡ Gives vs) × (more ≡ left)
Appends o left (Part p why) = ⊥
Appends o left Itself = ⊤
