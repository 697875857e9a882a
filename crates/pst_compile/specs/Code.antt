-- The instructions of an expression.
use Rattle.std.specs.Prelude.{ℕ, suc, ◌+◌, ◌^◌, pos, Bool, true, false, if◌then◌else◌, nat_lt, List, [], ◌∷◌, ◌++◌, length, Option, Some, None}
use Rattle.std.specs.Str.{bytes_eq}
use Rattle.pst_model.specs.Parts.{Name, operation_number}
use Rattle.pst_model.specs.declared.expr.Binary.{Binary as BinaryOperator}
use Rattle.pst_model.specs.declared.expr.Unary.{Unary as UnaryOperator}
use Rattle.pst_model.specs.declared.expr.Clause.{Clause, Clause-F, fold-Clause}
use Rattle.pst_model.specs.declared.expr.Expr.{Expr, Expr-F, fold-Expr}
use Rattle.pst_model.specs.declared.model.Item.{Item}
use Rattle.pst_model.specs.declared.model.Item.TheVariants as item
use Rattle.pst_model.specs.declared.model.Param.{Param}
use Rattle.pst_operators.specs.Maps.{map_of}
use Rattle.pst_operators.specs.Operators.{int, bool, text, list}
use Rattle.pst_value.specs.declared.value.Value.{Value}
use Rattle.pst_machine.specs.declared.code.Instr.{Instr}
use Rattle.pst_machine.specs.declared.code.Instr.TheVariants.{Const, Move, Take, Unary, Binary, Put, At, Tuple, List as MakeList, Call, Append, Jump, Unless, Apply, Loop, Return}

-- ---- blocks

-- the instructions that stand at a place
abbrev pub Block : Type 0
Block = ℕ → List Instr

abbrev pub one : Instr → Block
one i p = i ∷ []

infixr 10 ◌then◌
abbrev pub ◌then◌ : Block → Block → Block
(a then b) p = a p ++ b (p + length (a p))

abbrev pub nothing : Block
nothing p = []

-- code behind a jump over it, which is taken where the register is false
abbrev pub skipped_unless : ℕ → List Instr → ℕ → List Instr
skipped_unless r code p = Unless r (p + 1 + length code) ∷ code

-- the first code, or the second where the register is false
abbrev pub either : ℕ → List Instr → List Instr → ℕ → List Instr
either r first second p =
    Unless r (p + 1 + length first + 1)
    ∷ (first ++ Jump (p + 1 + length first + 1 + length second) ∷ second)

-- code for each item of the list in a, with the index in i and the item in d
abbrev pub looped : ℕ → ℕ → ℕ → List Instr → ℕ → List Instr
looped d a i body p = Jump (p + 1 + length body) ∷ (body ++ Loop d a i (p + 1) ∷ [])

abbrev pub where_true : ℕ → Block → Block
where_true r a p = skipped_unless r (a (p + 1)) p

abbrev pub choice : ℕ → Block → Block → Block
choice r a b p = either r (a (p + 1)) (b (p + 1 + length (a (p + 1)) + 1)) p

abbrev pub each : ℕ → ℕ → ℕ → Block → Block
each d a i body p = looped d a i (body (p + 1)) p

-- ---- names

-- the registers of the names
abbrev pub Scope : Type 0
Scope = List (Name × ℕ)

abbrev pub find : Scope → Name → Option ℕ
find [] x = None
find (b ∷ outer) x = if bytes_eq b.0 x then Some b.1 else find outer x

abbrev pub is_function : Item → Bool
is_function (item.Fun f) = true
is_function _ = false

-- whether an item is a function of the name
abbrev pub is_function_of : Item → Name → Bool
is_function_of (item.Fun f) x = bytes_eq f.name x
is_function_of _ x = false

-- how many functions there are among items
abbrev pub functions : List Item → ℕ
functions [] = 0
functions (i ∷ items) = if is_function i then suc (functions items) else functions items

-- the number of the last function of a name, among items given the last first
abbrev pub number : List Item → Name → Option ℕ
number [] x = None
number (i ∷ earlier) x = if is_function_of i x then Some (functions earlier) else number earlier x

-- where a name, an operation or a function is not known, which no well-typed model has, any code serves

abbrev pub move_from : ℕ → Option ℕ → Block
move_from r None = one (Move r r)
move_from r (Some a) = one (Move r a)

abbrev pub apply_to : ℕ → Option ℕ → List ℕ → Block
apply_to r None rs = one (Move r r)
apply_to r (Some g) rs = one (Apply r g rs)

abbrev pub call_to : ℕ → Option ℕ → List ℕ → Block
call_to r None rs = one (Move r r)
call_to r (Some number) rs = if nat_lt number (2 ^ 32) then one (Call r number rs) else one (Move r r)

-- ---- operands

-- The code of an expression leaves its value in a register, and changes none below it. It may also leave the
-- value in a register d below, in place of what that held, and then changes no other one below r. The code of
-- a name may be left out, where the name's own register serves.
pub record Coded : Type 0 where
  pub put : Scope → ℕ → Block
  pub overwrite : Scope → (d r : ℕ) → Block
  pub name : Option Name

abbrev pub CodedPart : Type 0
CodedPart = Clause-F (Unit {0}) Coded

-- a name's own register
abbrev pub own : Option Name → Scope → Option ℕ
own None sc = None
own (Some x) sc = find sc x

abbrev pub unless_own : Option ℕ → Block → Block
unless_own None b = b
unless_own (Some a) b = nothing

abbrev pub place : ℕ → Option ℕ → ℕ
place r None = r
place r (Some a) = a

-- the code of an operand, which is none where it has its own register
abbrev pub load : Coded → Scope → ℕ → Block
load c sc r = unless_own (own c.name sc) (c.put sc r)

-- the register of its value
abbrev pub at : Coded → Scope → ℕ → ℕ
at c sc r = place r (own c.name sc)

-- operands one after another, with registers from r on
abbrev pub load_all : List Coded → Scope → ℕ → Block
load_all [] sc r = nothing
load_all (e ∷ es) sc r = load e sc r then load_all es sc (r + 1)

-- the registers of their values
abbrev pub all_at : List Coded → Scope → ℕ → List ℕ
all_at [] sc r = []
all_at (e ∷ es) sc r = at e sc r ∷ all_at es sc (r + 1)

-- ---- forms, by the code of their parts: the value goes to register r

abbrev pub constant : Value → Scope → ℕ → Block
constant v sc r = one (Const r v)

abbrev pub name_code : Name → Scope → ℕ → Block
name_code x sc r = move_from r (find sc x)

abbrev pub let_code : Name → Coded → Coded → Scope → ℕ → Block
let_code x e b sc r = load e sc r then b.put ((x, at e sc r) ∷ sc) (r + 1) then one (Take r (r + 1))

abbrev pub overwriting_let : Name → Coded → Coded → Scope → (d r : ℕ) → Block
overwriting_let x e b sc d r = load e sc r then b.overwrite ((x, at e sc r) ∷ sc) d (r + 1)

abbrev pub if_code : Coded → Coded → Coded → Scope → ℕ → Block
if_code c a b sc r = load c sc r then choice (at c sc r) (a.put sc r) (b.put sc r)

abbrev pub overwriting_if : Coded → Coded → Coded → Scope → (d r : ℕ) → Block
overwriting_if c a b sc d r = load c sc r then choice (at c sc r) (a.overwrite sc d r) (b.overwrite sc d r)

-- the second only where the first is true
abbrev pub and_code : Coded → Coded → Scope → ℕ → Block
and_code a b sc r = a.put sc r then where_true r (b.put sc r)

-- the second only where the first is false
abbrev pub or_code : Coded → Coded → Scope → ℕ → Block
or_code a b sc r = a.put sc r then choice r nothing (b.put sc r)

abbrev pub unary_code : UnaryOperator → Coded → Scope → ℕ → Block
unary_code op e sc r = load e sc r then one (Unary op r (at e sc r))

abbrev pub at_code : Coded → ℕ → Scope → ℕ → Block
at_code e n sc r = load e sc r then one (At r (at e sc r) n)

-- the value goes to register d, which is r or one below
abbrev pub binary_code : BinaryOperator → Coded → Coded → Scope → (d r : ℕ) → Block
binary_code op a b sc d r =
    load a sc r then load b sc (r + 1) then one (Binary op d (at a sc r) (at b sc (r + 1)))

-- the map, the key and its value, one after another: the new map goes to register d, which is r or one below
abbrev pub put_code : Coded → Coded → Coded → Scope → (d r : ℕ) → Block
put_code m k v sc d r =
    load m sc r then load k sc (r + 1) then load v sc (r + 2)
    then one (Put d (at m sc r) (at k sc (r + 1)) (at v sc (r + 2)))

abbrev pub tuple_code : List Coded → Scope → ℕ → Block
tuple_code es sc r = load_all es sc r then one (Tuple r (all_at es sc r))

abbrev pub list_code : List Coded → Scope → ℕ → Block
list_code es sc r = load_all es sc r then one (MakeList r (all_at es sc r))

abbrev pub call_code : Option ℕ → List Coded → Scope → ℕ → Block
call_code op es sc r = load_all es sc r then call_to r op (all_at es sc r)

abbrev pub apply_code : Option ℕ → List Coded → Scope → ℕ → Block
apply_code g es sc r = load_all es sc r then apply_to r g (all_at es sc r)

-- what is inside, for each item of a list: the index is in register r + 1 and the item in r + 2
abbrev pub in_code : Name → Coded → (Scope → ℕ → Block) → Scope → ℕ → Block
in_code x e inside sc r =
    load e sc r then one (Const (r + 1) (int (pos 0)))
    then each (r + 2) (at e sc r) (r + 1) (inside ((x, r + 2) ∷ sc) (r + 3))

-- what is inside, where the test is true
abbrev pub when_code : Coded → (Scope → ℕ → Block) → Scope → ℕ → Block
when_code e inside sc r = load e sc r then where_true (at e sc r) (inside sc r)

-- clauses and a body, which append to the list in register built
abbrev pub visit_code : List CodedPart → Coded → ℕ → Scope → ℕ → Block
visit_code [] body built sc r = load body sc r then one (Append built (at body sc r))
visit_code (Clause-F.In x e ∷ rest) body built sc r = in_code x e (visit_code rest body built) sc r
visit_code (Clause-F.When e ∷ rest) body built sc r = when_code e (visit_code rest body built) sc r

abbrev pub for_code : List CodedPart → Coded → Scope → ℕ → Block
for_code clauses b sc r = one (Const r (list [])) then visit_code clauses b r sc (r + 1)

-- what is built is in register r + 1, the index in r + 2 and the item in r + 3: each turn overwrites the
-- first of them
abbrev pub fold_code : Name → Coded → Name → Coded → Coded → Scope → ℕ → Block
fold_code x e acc i b sc r =
    load e sc r then i.put sc (r + 1) then one (Const (r + 2) (int (pos 0)))
    then each (r + 3) (at e sc r) (r + 2) (b.overwrite ((acc, r + 1) ∷ (x, r + 3) ∷ sc) (r + 1) (r + 4))
    then one (Take r (r + 1))

-- ---- expressions

-- the value goes to register r, and moves from there to d
abbrev pub moved : (Scope → ℕ → Block) → Scope → (d r : ℕ) → Block
moved put sc d r = put sc r then one (Take d r)

abbrev pub no_name : (Scope → ℕ → Block) → Coded
no_name put = record { put = put; overwrite = moved put; name = None }

-- the code of a form whose last instruction may write its value to another register than r
abbrev pub to_either : (Scope → (d r : ℕ) → Block) → Coded
to_either put = record { put = λ sc r. put sc r r; overwrite = put; name = None }

-- the code of an expression, by that of its parts
abbrev pub code_at : List Item → (Name → Option ℕ) → Expr-F CodedPart Coded → Coded
code_at items funs (Expr-F.Int n) = no_name (constant (int n))
code_at items funs (Expr-F.Bool b) = no_name (constant (bool b))
code_at items funs (Expr-F.Text t) = no_name (constant (text t))
code_at items funs (Expr-F.Name x) =
    record { put = name_code x; overwrite = λ sc d r. name_code x sc d; name = Some x }
code_at items funs (Expr-F.Let x e b) =
    record { put = let_code x e b; overwrite = overwriting_let x e b; name = None }
code_at items funs (Expr-F.If c a b) =
    record { put = if_code c a b; overwrite = overwriting_if c a b; name = None }
code_at items funs (Expr-F.And a b) = no_name (and_code a b)
code_at items funs (Expr-F.Or a b) = no_name (or_code a b)
code_at items funs (Expr-F.Unary op e) = no_name (unary_code op e)
code_at items funs (Expr-F.Binary op a b) = to_either (binary_code op a b)
code_at items funs (Expr-F.Tuple es) = no_name (tuple_code es)
code_at items funs (Expr-F.At e n) = no_name (at_code e n)
code_at items funs (Expr-F.List type es) = no_name (list_code es)
code_at items funs (Expr-F.For clauses b) = no_name (for_code clauses b)
code_at items funs (Expr-F.Fold x e acc i b) = no_name (fold_code x e acc i b)
code_at items funs (Expr-F.Map k t) = no_name (constant (map_of [] []))
code_at items funs (Expr-F.Put m k v) = to_either (put_code m k v)
code_at items funs (Expr-F.Call x es) = no_name (call_code (operation_number items x) es)
code_at items funs (Expr-F.Apply f es) = no_name (apply_code (funs f) es)

abbrev pub coded_part_at : Clause-F CodedPart Coded → CodedPart
coded_part_at (Clause-F.In x e) = Clause-F.In x e
coded_part_at (Clause-F.When e) = Clause-F.When e

-- the code of an expression, where a call names an operation of the items, and an application a function by
-- its number
abbrev pub code : List Item → (Name → Option ℕ) → Expr → Coded
code items funs = fold-Expr CodedPart Coded coded_part_at (code_at items funs)

abbrev pub part_code : List Item → (Name → Option ℕ) → Clause → CodedPart
part_code items funs = fold-Clause CodedPart Coded coded_part_at (code_at items funs)

-- ---- functions

-- the parameters in registers from r on
abbrev pub parameter_scope : List Param → ℕ → Scope
parameter_scope [] r = []
parameter_scope (p ∷ ps) r = (p.name, r) ∷ parameter_scope ps (r + 1)

-- an expression over n registers of names, and the return
abbrev pub body_code : List Item → (Name → Option ℕ) → Expr → Scope → ℕ → Block
body_code items funs e sc n = load (code items funs e) sc n then one (Return (at (code items funs e) sc n))
