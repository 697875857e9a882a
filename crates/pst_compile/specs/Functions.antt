-- The code of a model: that of its functions, and then that of its callbacks.
use Rattle.std.specs.Prelude.{ℕ, ◌+◌, max, List, [], ◌∷◌, ◌++◌, length, reverse, Option, Some, None}
use Rattle.pst_model.specs.Parts.{Name, initial_state_of, calls_of}
use Rattle.pst_model.specs.declared.expr.Expr.{Expr}
use Rattle.pst_model.specs.declared.model.Fun.{Fun}
use Rattle.pst_model.specs.declared.model.Item.{Item}
use Rattle.pst_model.specs.declared.model.Item.TheVariants as item
use Rattle.pst_model.specs.declared.model.Op.{Op}
use Rattle.pst_model.specs.declared.model.Param.{Param}
use Rattle.pst_model.specs.WellTyped.{name_s, name_r}
use Rattle.pst_machine.specs.declared.code.FunCode.{FunCode}
use Rattle.pst_machine.specs.declared.code.Instr.{Instr}
use Rattle.pst_machine.specs.declared.code.Instr.TheVariants.{Const, Move, Take, Unary, Binary, Put, At, Tuple, List as MakeList, Call, Append, Jump, Unless, Apply, Loop, Return}
use Rattle.pst_machine.specs.Listing.{code_text}
use Rattle.pst_compile.specs.Code.{Scope, number, parameter_scope, body_code}

-- ---- how many registers code needs

-- one past a register
abbrev pub past : ℕ → ℕ
past r = r + 1

-- one past the greatest of some registers
abbrev pub past_all : List ℕ → ℕ
past_all [] = 0
past_all (r ∷ rs) = max (past r) (past_all rs)

-- one past the greatest register of an instruction
abbrev pub past_instr : Instr → ℕ
past_instr (Const d v) = past d
past_instr (Move d a) = max (past d) (past a)
past_instr (Take d a) = max (past d) (past a)
past_instr (Unary op d a) = max (past d) (past a)
past_instr (Binary op d a b) = max (past d) (max (past a) (past b))
past_instr (Put d a b c) = max (max (past d) (past a)) (max (past b) (past c))
past_instr (At d a n) = max (past d) (past a)
past_instr (Tuple d rs) = max (past d) (past_all rs)
past_instr (MakeList d rs) = max (past d) (past_all rs)
past_instr (Call d op rs) = max (past d) (past_all rs)
past_instr (Append d a) = max (past d) (past a)
past_instr (Jump p) = 0
past_instr (Unless a p) = past a
past_instr (Apply d g rs) = max (past d) (past_all rs)
past_instr (Loop d a i p) = max (past d) (max (past a) (past i))
past_instr (Return a) = past a

-- one past the greatest register of code
abbrev pub frame_size : List Instr → ℕ
frame_size [] = 0
frame_size (i ∷ is) = max (past_instr i) (frame_size is)

-- ---- functions

-- a function of an expression over n registers of names
abbrev pub fun_code : List Item → (Name → Option ℕ) → ℕ → Scope → Expr → FunCode
fun_code items nums n sc e = record {
  args = n;
  registers = max n (frame_size (body_code items nums e sc n 0));
  body = body_code items nums e sc n 0;
}

-- a function of the model: its parameters have the first registers
abbrev pub function_code : List Item → (Name → Option ℕ) → Fun → FunCode
function_code items nums f = fun_code items nums (length f.params) (parameter_scope f.params 0) f.body

-- the functions among items, given the last first: each sees the earlier ones
abbrev pub functions_code : List Item → List Item → List FunCode
functions_code items [] = []
functions_code items (item.Fun f ∷ earlier) =
    functions_code items earlier ++ function_code items (number earlier) f ∷ []
functions_code items (_ ∷ earlier) = functions_code items earlier

-- ---- callbacks

abbrev pub optional_code : List Item → (Name → Option ℕ) → ℕ → Scope → Option Expr → FunCode
optional_code items nums n sc None = record { args = 0; registers = 0; body = [] }
optional_code items nums n sc (Some e) = fun_code items nums n sc e

-- the state in register 0, and the parameters
abbrev pub state_scope : List Param → Scope
state_scope ps = (name_s, 0) ∷ parameter_scope ps 1

-- the state in register 0, the result in register 1, and the parameters
abbrev pub result_scope : List Param → Scope
result_scope ps = (name_r, 1) ∷ (name_s, 0) ∷ parameter_scope ps 2

-- pre, next and post of an operation
abbrev pub operation_code : List Item → (Name → Option ℕ) → Op → List FunCode
operation_code items nums o =
    fun_code items nums (length o.params + 1) (state_scope o.params) o.pre
    ∷ fun_code items nums (length o.params + 2) (result_scope o.params) o.next
    ∷ fun_code items nums (length o.params + 2) (result_scope o.params) o.post
    ∷ []

-- those of each operation
abbrev pub operations_code : List Item → (Name → Option ℕ) → List Item → List FunCode
operations_code items nums [] = []
operations_code items nums (item.Op o ∷ rest) = operation_code items nums o ++ operations_code items nums rest
operations_code items nums (_ ∷ rest) = operations_code items nums rest

-- init, command, and the callbacks of the operations
abbrev pub callbacks_code : List Item → List FunCode
callbacks_code items =
    optional_code items (number (reverse items)) 0 [] (initial_state_of items)
    ∷ optional_code items (number (reverse items)) 1 ((name_s, 0) ∷ []) (calls_of items)
    ∷ operations_code items (number (reverse items)) items

-- the functions of a model, and then its callbacks
unfoldable pub whole_code : List Item → List FunCode
whole_code items = functions_code items (reverse items) ++ callbacks_code items

-- its text
abbrev pub listing_of : List Item → List ℕ
listing_of items = code_text 0 (whole_code items)
