-- How far values reach, and how far the value of an expression can.
use Rattle.std.specs.Prelude.{◌≡◌, ℕ, ◌≤◌, nat_lt, unsigned_abs, if◌then◌else◌, List, [], ◌∷◌, length}
use Rattle.pst_eval.specs.Meaning.{Env, Called, Run, frame, looked_up, mean}
use Rattle.pst_model.specs.Parts.{Name}
use Rattle.pst_model.specs.declared.expr.Expr.{Expr}
use Rattle.pst_model.specs.declared.model.Item.{Item}
use Rattle.pst_operators.specs.Outcome.{Outcome, Gives, Faults, Stuck}
use Rattle.pst_eval.specs.declared.reach.NamesWithReach.{NamesWithReach, Frame, With'}
use Rattle.pst_value.specs.declared.value.Value.{Value, fold-Value}
use Rattle.pst_value.specs.declared.value.Value.TheOpen.{Value-F}

abbrev pub greater : ℕ → ℕ → ℕ
greater a b = if nat_lt a b then b else a

abbrev pub greatest : List ℕ → ℕ
greatest [] = 0
greatest (n ∷ ns) = greater n (greatest ns)

-- ---- values

abbrev pub extent_at : Value-F ℕ → ℕ
extent_at (Value-F.Int n) = unsigned_abs n
extent_at (Value-F.Bool b) = 0
extent_at (Value-F.Text t) = length t
extent_at (Value-F.Tuple ns) = greatest ns
extent_at (Value-F.List ns) = length ns
extent_at (Value-F.Map ks ns) = length ks
extent_at (Value-F.Var n) = 0
extent_at (Value-F.Ref n m) = 0
extent_at (Value-F.Call op ns) = 0

-- how far a value reaches: the magnitude of an integer, the length of a text or a list, the number of keys of
-- a map, and the farthest of the items of a tuple
unfoldable pub reach_of_value : Value → ℕ
reach_of_value = fold-Value ℕ extent_at

-- the farthest of values
abbrev pub farthest : List Value → ℕ
farthest [] = 0
farthest (v ∷ vs) = greater (reach_of_value v) (farthest vs)

-- the value reaches so far at most
abbrev pub UpTo : ℕ → Value → Type 0
UpTo reach v = reach_of_value v ≤ reach

-- ---- names

-- an environment of these names, in which their values reach so far at most
abbrev pub Within : NamesWithReach → Env → Type 0
Within (Frame params values) env = env ≡ frame params.now values.now
Within (With' name reach r outer) [] = ⊥
Within (With' name reach r outer) (binding ∷ env) =
    (binding.0 ≡ name.now) × (reach_of_value binding.1 ≤ reach) × Within outer env

-- the value that the name has in each such environment reaches so far at most
abbrev pub NameReaches : NamesWithReach → Name → ℕ → Type 0
NameReaches names x reach = (env : Env) (v : Value) → Within names env → looked_up env x ≡ Gives v → UpTo reach v

-- ---- expressions

-- no fault: a value with the property, unless what is evaluated is ill typed
abbrev pub NoFault : {A : Type 0} → (A → Type 0) → Outcome (A × ℕ) → Type 0
NoFault P (Gives r) = P r.0
NoFault P (Faults why) = ⊥
NoFault P Stuck = Unit {0}

-- a run without a fault, whatever turns are left
abbrev pub Safe : {A : Type 0} → (A → Type 0) → Run A → Type 0
Safe P run = (turns : ℕ) → NoFault P (run turns)

-- In each environment of the names, over any items and functions, the expression does not fault, and its value
-- reaches so far at most.
abbrev pub Reaches : NamesWithReach → Expr → ℕ → Type 0
Reaches names e reach =
    (items : List Item) (functions : List Called) (env : Env) → Within names env
    → Safe (UpTo reach) (mean items functions e env)

-- each of the expressions
abbrev pub AllReach : NamesWithReach → List Expr → ℕ → Type 0
AllReach names [] reach = Unit {0}
AllReach names (e ∷ es) reach = Reaches names e reach × AllReach names es reach
