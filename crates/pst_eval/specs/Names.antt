-- Names that stand in expressions.
use Rattle.std.specs.Prelude.{◌≡◌, ℕ, ◌||◌, Bool, true, false, List, [], Option, Some, None}
use Rattle.std.specs.List.{list_any}
use Rattle.std.specs.Str.{bytes_eq}
use Rattle.pst_eval.specs.Callbacks.{next_of}
use Rattle.pst_model.specs.Fitting.{args_fit, is_state}
use Rattle.pst_model.specs.Parts.{Name, operation_of}
use Rattle.pst_model.specs.WellTyped.{name_r, WellModel}
use Rattle.pst_model.specs.declared.expr.Clause.{Clause, Clause-F, fold-Clause}
use Rattle.pst_model.specs.declared.expr.Expr.{Expr, Expr-F, fold-Expr}
use Rattle.pst_model.specs.declared.model.Op.{Op}
use Rattle.pst_model.specs.declared.model.Source.{Source}
use Rattle.pst_operators.specs.Outcome.{Gives}
use Rattle.pst_value.specs.Subst.{numbered}
use Rattle.pst_value.specs.declared.ty.Ty.{Ty}
use Rattle.pst_value.specs.declared.value.Value.{Value}

abbrev pub one_of_them : Bool → Bool
one_of_them b = b

-- one form, where it is known of each part whether the name stands in it
abbrev pub names_at : Name → Expr-F Bool Bool → Bool
names_at name (Expr-F.Int n) = false
names_at name (Expr-F.Bool b) = false
names_at name (Expr-F.Text t) = false
names_at name (Expr-F.Name x) = bytes_eq name x
names_at name (Expr-F.Let x e b) = e || b
names_at name (Expr-F.If c a b) = c || (a || b)
names_at name (Expr-F.And a b) = a || b
names_at name (Expr-F.Or a b) = a || b
names_at name (Expr-F.Unary operator e) = e
names_at name (Expr-F.Binary operator a b) = a || b
names_at name (Expr-F.Tuple es) = list_any one_of_them es
names_at name (Expr-F.At e place) = e
names_at name (Expr-F.List type es) = list_any one_of_them es
names_at name (Expr-F.For clauses b) = list_any one_of_them clauses || b
names_at name (Expr-F.Fold x e acc i b) = e || (i || b)
names_at name (Expr-F.Map k t) = false
names_at name (Expr-F.Put m k v) = m || (k || v)
names_at name (Expr-F.Call x es) = list_any one_of_them es
names_at name (Expr-F.Apply f es) = list_any one_of_them es

abbrev pub clause_names_at : Clause-F Bool Bool → Bool
clause_names_at (Clause-F.In x e) = e
clause_names_at (Clause-F.When e) = e

-- whether the name stands in an expression, not as a binder's
abbrev pub names : Name → Expr → Bool
names name = fold-Expr Bool Bool clause_names_at (names_at name)

abbrev pub clause_names : Name → Clause → Bool
clause_names name = fold-Clause Bool Bool clause_names_at (names_at name)

-- the result stands in the expression of the operation's next state
abbrev pub next_names_result_in : Option Op → Bool
next_names_result_in None = false
next_names_result_in (Some o) = names name_r o.next

-- whether the next state after a call of the operation depends on its result, by the form of the model
abbrev pub next_names_result : Source → ℕ → Bool
next_names_result m op = next_names_result_in (operation_of m.items op)

-- where it does not, it is the same whatever the result is
abbrev pub UnnamedResultsChangeNothing : Type 0
UnnamedResultsChangeNothing =
    (m : Source) (op : ℕ) → next_names_result m op ≡ false
    → (s : Value) (args : List Value) (r other : Value) → next_of m op s args r ≡ next_of m op s args other

-- and no variable stands open in it, where none does in the state before it and in the arguments of the command of
-- a number
abbrev pub UnnamedResultsLeaveStates : Type 0
UnnamedResultsLeaveStates =
    (m : Source) → WellModel m → (op : ℕ) → next_names_result m op ≡ false
    → (vars : List Ty) (number : ℕ) (o : Op) → operation_of m.items op ≡ Some o → numbered vars number ≡ Some o.result
    → (s : Value) (args : List Value) (r : Value) (p : Value × ℕ)
    → is_state m [] vars s ≡ true → args_fit m [] vars op args ≡ true → next_of m op s args r ≡ Gives p
    → is_state m [] vars p.0 ≡ true
