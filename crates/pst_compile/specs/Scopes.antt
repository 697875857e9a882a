-- What the borrowed names and the context of the compiler stand for.
use Rattle.std.specs.Prelude.{ℕ, ◌∷◌, reverse, Option}
use Rattle.pst_machine.specs.declared.code.FunCode.{FunCode}
use Rattle.pst_eval.specs.declared.context.Context.{Context}
use Rattle.pst_model.specs.declared.expr.Clause.{Clause}
use Rattle.pst_model.specs.declared.expr.Expr.{Expr}
use Rattle.pst_model.specs.Parts.{Name}
use Rattle.pst_compile.specs.Code.{Scope, Coded, CodedPart, parameter_scope, code, part_code, number}
use Rattle.pst_compile.specs.Functions.{fun_code}
use Rattle.pst_compile.specs.declared.names.Names.{Names, Frame, With'}

-- the registers of the names
abbrev pub scope_of : Names → Scope
scope_of (Frame params first) = parameter_scope params.now first
scope_of (With' name register r outer) = (name.now, register) ∷ scope_of outer

-- the code of an expression in its context
abbrev pub code_in : Context → Expr → Coded
code_in c = code c.items.now (number (reverse c.earlier.now))

-- that of a clause
abbrev pub part_in : Context → Clause → CodedPart
part_in c = part_code c.items.now (number (reverse c.earlier.now))

-- the numbers of the functions that an expression sees
abbrev pub numbers_in : Context → Name → Option ℕ
numbers_in c = number (reverse c.earlier.now)

-- the function of an expression, whose names have so many registers
abbrev pub function_in : Context → ℕ → Scope → Expr → FunCode
function_in c = fun_code c.items.now (numbers_in c)
