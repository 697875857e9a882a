-- Each callback of a well-typed model runs, and gives a value of its type.
use Rattle.std.proofs.Common.{◌≡◌, ◌≢◌, ℕ, true, List, [], ◌∷◌, Some, Result, Ok, Err, sym, ap, subst}
use Rattle.std.specs.Prelude.{IfOk}
use Rattle.std.specs.declared.alloc.AllocError.{AllocError}
use Rattle.pst_eval.specs.Meaning.{frame}
use Rattle.pst_model.specs.Parts.{initial_state_of, calls_of, operation_of, parameters_of}
use Rattle.pst_model.specs.declared.expr.Expr.{Expr}
use Rattle.pst_model.specs.declared.model.Op.{Op}
use Rattle.pst_model.specs.declared.model.Source.{Source}
use Rattle.pst_operators.specs.Outcome.{Outcome, Stuck}
use Rattle.pst_model.specs.WellTyped.{name_s, name_r, WellModel}
use Rattle.pst_value.specs.Fits.{fits}
use Rattle.pst_value.specs.declared.fault.Fault.{Fault}
use Rattle.pst_value.specs.declared.ty.Ty.{Ty}
use Rattle.pst_value.specs.declared.ty.Ty.TheVariants as ty
use Rattle.pst_value.specs.declared.value.Value.{Value}
use Rattle.pst_eval.specs.Callbacks.{at_names, of_expr, init_of, command_of, pre_in, pre_of, next_in, next_of, post_in, post_of, PreFits, NextFits, PostFits, Says, Given, GivenState}
use Rattle.pst_model.specs.Fitting.{is_state}
use Rattle.pst_eval.proofs.Fitting.{Fit, fit_bool}
use Rattle.pst_eval.proofs.Forms.{bool_form}
use Rattle.pst_eval.proofs.Table.{init_by, command_by, pre_by, next_by, post_by, by_not_stuck, given_by, state_given}

abbrev pub Answer : Type 0
Answer = Result (Result (Value × ℕ) Fault) AllocError

if_ok_map : (P Q : Result (Value × ℕ) Fault → Type 0) (r : Answer) → ((a : Result (Value × ℕ) Fault) → P a → Q a) → IfOk r P → IfOk r Q
if_ok_map P Q (Ok a) f h = f a h
if_ok_map P Q (Err e) f h = h

pub says_at : (o p : Outcome (Value × ℕ)) (r : Answer) → o ≡ p → IfOk r (λ a. Says o a) → IfOk r (λ a. Says p a)
says_at o p r e h = let C : Outcome (Value × ℕ) → Type 0 = λ q. IfOk r (λ a. Says q a) in subst C e h

any_bool : (m : Source) (free vars : List Ty) (a : Result (Value × ℕ) Fault) → Given m free vars ty.Bool a → Given m [] [] ty.Bool a
any_bool m free vars (Ok p) h =
    let b = bool_form free vars (parameters_of m.items) p.0 h in
    let P : Value → Type 0 = λ v. fits [] [] (parameters_of m.items) v ty.Bool ≡ true in
    subst P (sym b.1) (fit_bool [] [] (parameters_of m.items) b.0)
any_bool m free vars (Err why) h = h

-- ---- init

pub init_is : (m : Source) (e : Expr) → initial_state_of m.items ≡ Some e → init_of m ≡ at_names m e []
unfolding init_of
init_is m e h = ap (λ o. of_expr m o []) h

pub init_starts : (m : Source) → WellModel m → init_of m ≢ Stuck
init_starts m w = by_not_stuck (λ v. Fit [] [] (parameters_of m.items) v w.state) _ (init_by [] [] m w)

pub init_gives : (m : Source) (r : Answer) → WellModel m → IfOk r (λ a. Says (init_of m) a) → IfOk r (λ a. (free vars : List Ty) → GivenState m free vars a)
init_gives m r w h = if_ok_map (λ a. Says (init_of m) a) (λ a. (free vars : List Ty) → GivenState m free vars a) r (λ a s free vars. state_given m w free vars a (given_by m free vars w.state _ a s (init_by free vars m w))) h

-- ---- command

pub command_is : (m : Source) (e : Expr) (s : Value) → calls_of m.items ≡ Some e → command_of m s ≡ at_names m e ((name_s, s) ∷ [])
unfolding command_of
command_is m e s h = ap (λ o. of_expr m o ((name_s, s) ∷ [])) h

pub command_starts : (m : Source) (s : Value) → WellModel m → ((free : List Ty) × (vars : List Ty) × (is_state m free vars s ≡ true)) → command_of m s ≢ Stuck
command_starts m s w h = by_not_stuck (λ v. Fit h.0 h.1 (parameters_of m.items) v (ty.List ty.Call)) _ (command_by h.0 h.1 m s w h.2)

pub command_gives : (m : Source) (s : Value) (r : Answer) → WellModel m → IfOk r (λ a. Says (command_of m s) a) → IfOk r (λ a. (free vars : List Ty) → is_state m free vars s ≡ true → Given m free vars (ty.List ty.Call) a)
command_gives m s r w h = if_ok_map (λ a. Says (command_of m s) a) (λ a. (free vars : List Ty) → is_state m free vars s ≡ true → Given m free vars (ty.List ty.Call) a) r (λ a says free vars i. given_by m free vars (ty.List ty.Call) _ a says (command_by free vars m s w i)) h

-- ---- pre

pub pre_is : (m : Source) (op : ℕ) (o : Op) (s : Value) (args : List Value) → operation_of m.items op ≡ Some o → pre_of m op s args ≡ at_names m o.pre ((name_s, s) ∷ frame o.params args)
unfolding pre_of
pre_is m op o s args e = ap (λ q. pre_in m q s args) e

pub pre_starts : (m : Source) (op : ℕ) (s : Value) (args : List Value) → WellModel m → ((free : List Ty) × (vars : List Ty) × PreFits m op s args free vars) → pre_of m op s args ≢ Stuck
pre_starts m op s args w h = by_not_stuck (λ v. Fit h.0 h.1 (parameters_of m.items) v ty.Bool) _ (pre_by h.0 h.1 m op s args w h.2)

pub pre_gives : (m : Source) (op : ℕ) (s : Value) (args : List Value) (r : Answer) → WellModel m → ((free : List Ty) × (vars : List Ty) × PreFits m op s args free vars) → IfOk r (λ a. Says (pre_of m op s args) a) → IfOk r (λ a. Given m [] [] ty.Bool a)
pre_gives m op s args r w h i = if_ok_map (λ a. Says (pre_of m op s args) a) (λ a. Given m [] [] ty.Bool a) r (λ a says. any_bool m h.0 h.1 a (given_by m h.0 h.1 ty.Bool _ a says (pre_by h.0 h.1 m op s args w h.2))) i

-- ---- next

pub next_is : (m : Source) (op : ℕ) (o : Op) (s : Value) (args : List Value) (r : Value) → operation_of m.items op ≡ Some o → next_of m op s args r ≡ at_names m o.next ((name_r, r) ∷ (name_s, s) ∷ frame o.params args)
unfolding next_of
next_is m op o s args r e = ap (λ q. next_in m q s args r) e

pub next_starts : (m : Source) (op : ℕ) (s : Value) (args : List Value) (r : Value) → WellModel m → ((free : List Ty) × (vars : List Ty) × NextFits m op s args r free vars) → next_of m op s args r ≢ Stuck
next_starts m op s args r w h = by_not_stuck (λ v. Fit h.0 h.1 (parameters_of m.items) v w.state) _ (next_by h.0 h.1 m op s args r w h.2)

pub next_gives : (m : Source) (op : ℕ) (s : Value) (args : List Value) (r : Value) (q : Answer) → WellModel m → IfOk q (λ a. Says (next_of m op s args r) a)
    → IfOk q (λ a. (free vars : List Ty) → NextFits m op s args r free vars → GivenState m free vars a)
next_gives m op s args r q w i = if_ok_map (λ a. Says (next_of m op s args r) a) (λ a. (free vars : List Ty) → NextFits m op s args r free vars → GivenState m free vars a) q (λ a says free vars h. state_given m w free vars a (given_by m free vars w.state _ a says (next_by free vars m op s args r w h))) i

-- ---- post

pub post_is : (m : Source) (op : ℕ) (o : Op) (s : Value) (args : List Value) (r : Value) → operation_of m.items op ≡ Some o → post_of m op s args r ≡ at_names m o.post ((name_r, r) ∷ (name_s, s) ∷ frame o.params args)
unfolding post_of
post_is m op o s args r e = ap (λ q. post_in m q s args r) e

pub post_starts : (m : Source) (op : ℕ) (s : Value) (args : List Value) (r : Value) → WellModel m → ((vars : List Ty) × PostFits m op s args r vars) → post_of m op s args r ≢ Stuck
post_starts m op s args r w h = by_not_stuck (λ v. Fit [] h.0 (parameters_of m.items) v ty.Bool) _ (post_by h.0 m op s args r w h.1)

pub post_gives : (m : Source) (op : ℕ) (s : Value) (args : List Value) (r : Value) (q : Answer) → WellModel m → ((vars : List Ty) × PostFits m op s args r vars) → IfOk q (λ a. Says (post_of m op s args r) a) → IfOk q (λ a. Given m [] [] ty.Bool a)
post_gives m op s args r q w h i = if_ok_map (λ a. Says (post_of m op s args r) a) (λ a. Given m [] [] ty.Bool a) q (λ a says. any_bool m [] h.0 a (given_by m [] h.0 ty.Bool _ a says (post_by h.0 m op s args r w h.1))) i
