-- What each callback of a model means, and which calls of it are lawful.
use Rattle.std.specs.Prelude.{◌≡◌, ℕ, ⊤, true, List, [], ◌∷◌, reverse, Option, Some, None, Result, Ok, Err}
use Rattle.pst_eval.specs.Meaning.{Env, called, mean, frame}
use Rattle.pst_model.specs.Fitting.{fits_in, is_state, args_fit, result_fits, ref_fits}
use Rattle.pst_model.specs.Parts.{initial_state_of, calls_of, operation_of}
use Rattle.pst_model.specs.WellTyped.{name_s, name_r}
use Rattle.pst_model.specs.declared.expr.Expr.{Expr}
use Rattle.pst_model.specs.declared.model.Op.{Op}
use Rattle.pst_model.specs.declared.model.Source.{Source}
use Rattle.pst_operators.specs.Outcome.{Outcome, Gives, Faults, Stuck}
use Rattle.pst_value.specs.declared.fault.Fault.{Fault}
use Rattle.pst_value.specs.declared.ty.Ty.{Ty}
use Rattle.pst_value.specs.declared.value.Value.{Value}

-- the turns that a callback starts with
abbrev pub max_turns : ℕ
max_turns = 1000000

-- an expression of the model in the names that it sees, over all functions
unfoldable pub at_names : Source → Expr → Env → Outcome (Value × ℕ)
at_names m e env = mean m.items (called m.items (reverse m.items)) e env max_turns

-- an expression that stands in the model
abbrev pub of_expr : Source → Option Expr → Env → Outcome (Value × ℕ)
of_expr m None env = Stuck
of_expr m (Some e) env = at_names m e env

-- the opening state
unfoldable pub init_of : Source → Outcome (Value × ℕ)
init_of m = of_expr m (initial_state_of m.items) []

-- the calls to pick from
unfoldable pub command_of : Source → Value → Outcome (Value × ℕ)
command_of m s = of_expr m (calls_of m.items) ((name_s, s) ∷ [])

abbrev pub pre_in : Source → Option Op → Value → List Value → Outcome (Value × ℕ)
pre_in m None s args = Stuck
pre_in m (Some o) s args = at_names m o.pre ((name_s, s) ∷ frame o.params args)

-- the precondition of an operation, on the state and the arguments
unfoldable pub pre_of : Source → ℕ → Value → List Value → Outcome (Value × ℕ)
pre_of m op s args = pre_in m (operation_of m.items op) s args

abbrev pub next_in : Source → Option Op → Value → List Value → Value → Outcome (Value × ℕ)
next_in m None s args r = Stuck
next_in m (Some o) s args r = at_names m o.next ((name_r, r) ∷ (name_s, s) ∷ frame o.params args)

-- the next state, where `r` names the result
unfoldable pub next_of : Source → ℕ → Value → List Value → Value → Outcome (Value × ℕ)
next_of m op s args r = next_in m (operation_of m.items op) s args r

abbrev pub post_in : Source → Option Op → Value → List Value → Value → Outcome (Value × ℕ)
post_in m None s args r = Stuck
post_in m (Some o) s args r = at_names m o.post ((name_r, r) ∷ (name_s, s) ∷ frame o.params args)

-- the postcondition, where `r` is the plain result
unfoldable pub post_of : Source → ℕ → Value → List Value → Value → Outcome (Value × ℕ)
post_of m op s args r = post_in m (operation_of m.items op) s args r

-- what a callback answers: a value and the turns left, or a fault
abbrev pub Says : Outcome (Value × ℕ) → Result (Value × ℕ) Fault → Type 0
Says o (Ok p) = o ≡ Gives p
Says o (Err why) = o ≡ Faults why

-- ---- lawful calls

-- what `pre` may be asked
pub record PreFits (m : Source) (op : ℕ) (s : Value) (args : List Value) (free vars : List Ty) : Type 0 where
  pub state : is_state m free vars s ≡ true
  pub arguments : args_fit m free vars op args ≡ true

-- what `next` may be asked
pub record NextFits (m : Source) (op : ℕ) (s : Value) (args : List Value) (r : Value) (free vars : List Ty) :
    Type 0 where
  pub state : is_state m free vars s ≡ true
  pub arguments : args_fit m free vars op args ≡ true
  pub result : ref_fits m free vars op r ≡ true

-- what `post` may be asked: no variable stands open
pub record PostFits (m : Source) (op : ℕ) (s : Value) (args : List Value) (r : Value) (vars : List Ty) :
    Type 0 where
  pub state : is_state m [] vars s ≡ true
  pub arguments : args_fit m [] vars op args ≡ true
  pub result : result_fits m [] vars op r ≡ true

-- a value that is given fits the type
abbrev pub Given : Source → (free vars : List Ty) → Ty → Result (Value × ℕ) Fault → Type 0
Given m free vars t (Ok p) = fits_in m free vars p.0 t ≡ true
Given m free vars t (Err why) = ⊤

-- a value that is given fits the state's type
abbrev pub GivenState : Source → (free vars : List Ty) → Result (Value × ℕ) Fault → Type 0
GivenState m free vars (Ok p) = is_state m free vars p.0 ≡ true
GivenState m free vars (Err why) = ⊤
