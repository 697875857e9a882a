-- Each compiled callback has the outcome of its meaning alone.
use Rattle.std.proofs.Common.{◌≡◌, ◌≢◌, ℕ, suc, ◌+◌, ◌*◌, Bool, true, false, ◌&&◌, List, [], ◌∷◌, ◌++◌, length, map, reverse, Some, Result, Ok, Err, refl, sym, ap, ◌∙◌, subst, arith}
use Rattle.std.proofs.lemmas.Option.{slice_get_within}
use Rattle.pst_model.specs.Parts.{operation_of, types_of}
use Rattle.pst_model.specs.declared.expr.Expr.{Expr}
use Rattle.pst_model.specs.declared.model.Op.{Op}
use Rattle.pst_model.specs.declared.model.Param.{Param}
use Rattle.pst_model.specs.declared.model.Source.{Source}
use Rattle.pst_operators.specs.Outcome.{Gives, Faults, Stuck}
use Rattle.pst_model.specs.WellTyped.{name_s, name_r, WellModel}
use Rattle.pst_value.specs.Fits.{fit_each}
use Rattle.pst_value.specs.declared.ty.Ty.{Ty}
use Rattle.pst_value.specs.declared.value.Value.{Value}
use Rattle.pst_eval.specs.Meaning.{Env, frame}
use Rattle.pst_eval.specs.Callbacks.{max_turns, at_names, init_of, command_of, pre_of, next_of, post_of, PreFits, NextFits, PostFits, Says}
use Rattle.pst_model.specs.Fitting.{is_state, args_fit, args_fit_in}
use Rattle.pst_eval.proofs.Calls.{init_is, init_starts, command_is, command_starts, pre_is, pre_starts, next_is, next_starts, post_is, post_starts}
use Rattle.pst_eval.proofs.Table.{the_operation}
use Rattle.pst_machine.specs.declared.code.FunCode.{FunCode}
use Rattle.pst_machine.specs.Machine.{Regs, filled, End}
use Rattle.std.specs.Prelude.{IfOk}
use Rattle.std.specs.declared.alloc.AllocError.{AllocError}
use Rattle.pst_value.specs.declared.fault.Fault.{Fault}
use Rattle.pst_machine.proofs.Stepping.{one_outcome}
use Rattle.pst_compile.specs.Code.{Scope, functions, number, parameter_scope}
use Rattle.pst_compile.specs.Functions.{whole_code, state_scope, result_scope}
use Rattle.pst_compile.specs.Compiled.{IsCompiled, DoesOnly}
use Rattle.pst_compile.proofs.Calls.{IsCode, row_filled, parameters_hold, nothing_holds}
use Rattle.pst_compile.proofs.Checking.{whole_has, init_stands, command_stands, pre_stands, next_stands, post_stands}
use Rattle.pst_compile.proofs.Good.{Below, Holds, holds_with}
use Rattle.pst_compile.proofs.Whole.{IsWell, callback_runs}

well_end : (o : End) → o ≢ Stuck → IsWell o
well_end (Gives r) h = tt
well_end (Faults why) h = tt
well_end Stuck h = absurd (h refl)

-- an expression of the model whose code is function g
names_only : (m : Source) (g n : ℕ) (sc : Scope) (e : Expr) (env : Env) (vs : List Value) → IsCode (whole_code m.items) m.items (number (reverse m.items)) g n sc e → n ≡ length vs → ((rest : Regs) → Holds (Below n) sc env (filled vs ++ rest)) → at_names m e env ≢ Stuck → DoesOnly (whole_code m.items) g vs (at_names m e env)
unfolding at_names
names_only m g n sc e env vs is equal holds well =
    let runs = callback_runs (whole_code m.items) m.items (reverse m.items) (whole_has m.items) g n sc e is env vs max_turns equal holds (well_end _ well) in
    record {
      within = slice_get_within (whole_code m.items) g is.fc is.here;
      well = well;
      only = λ x r. one_outcome (whole_code m.items) g vs max_turns x _ r runs;
    }

-- the same of a code that is the model's
pub only_at : (m : Source) (code : List FunCode) (g g' : ℕ) (vs : List Value) (o o' : End) → code ≡ whole_code m.items → g ≡ g' → o ≡ o' → DoesOnly (whole_code m.items) g' vs o' → DoesOnly code g vs o
only_at m code g g' vs o o' ec eg eo d =
    subst (λ c. DoesOnly c g vs o) (sym ec) (subst (λ k. DoesOnly (whole_code m.items) k vs o) (sym eg) (subst (DoesOnly (whole_code m.items) g' vs) (sym eo) d))

pub init_only : (m : Source) (code : List FunCode) (base g : ℕ) → WellModel m → IsCompiled m.items code base → g ≡ base + 0 → DoesOnly code g [] (init_of m)
init_only m code base g w c eg =
    let e = init_is m w.opening w.opening_is in
    only_at m code g (functions (reverse m.items) + 0) [] (init_of m) (at_names m w.opening []) c.code_is (eg ∙ ap (λ n. n + 0) c.base_is) e
    (names_only m (functions (reverse m.items) + 0) 0 [] w.opening [] [] (init_stands m.items w.opening w.opening_is) refl (λ rest. nothing_holds (whole_code m.items) 0 [] _) (λ s. init_starts m w (e ∙ s)))

pub command_only : (m : Source) (code : List FunCode) (base g : ℕ) (s : Value) → WellModel m → IsCompiled m.items code base → ((free : List Ty) × (vars : List Ty) × (is_state m free vars s ≡ true)) → g ≡ base + 1 → DoesOnly code g (s ∷ []) (command_of m s)
command_only m code base g s w c h eg =
    let e = command_is m w.calls s w.calls_is in
    only_at m code g (functions (reverse m.items) + 1) (s ∷ []) (command_of m s) (at_names m w.calls ((name_s, s) ∷ [])) c.code_is (eg ∙ ap (λ n. n + 1) c.base_is) e
    (names_only m (functions (reverse m.items) + 1) 1 ((name_s, 0) ∷ []) w.calls ((name_s, s) ∷ []) (s ∷ []) (command_stands m.items w.calls w.calls_is) refl
    (λ rest. holds_with (Below 1) [] [] _ name_s 0 s (omega arith) refl (nothing_holds (whole_code m.items) 1 [] _)) (λ z. command_starts m s w h (e ∙ z)))

-- as many arguments as parameters
each_length : (fs : List (Ty → Bool)) (ps : List Param) → fit_each fs (types_of ps) ≡ true → length ps ≡ length fs
each_length [] [] h = refl
each_length [] (p ∷ ps) h = absurd cc
each_length (f ∷ fs) [] h = absurd cc
each_length (f ∷ fs) (p ∷ ps) h = ap suc (each_length fs ps (second (f p.ty) (fit_each fs (types_of ps)) h))
  where
    second : (a b : Bool) → (a && b) ≡ true → b ≡ true
    second true b h = h
    second false b h = absurd cc

map_length : (vs : List Value) (f : Value → Ty → Bool) → length (map f vs) ≡ length vs
map_length [] f = refl
map_length (v ∷ vs) f = ap suc (map_length vs f)

args_length : (m : Source) (free vars : List Ty) (op : ℕ) (o : Op) (args : List Value) → operation_of m.items op ≡ Some o → args_fit m free vars op args ≡ true → length o.params ≡ length args
unfolding args_fit
args_length m free vars op o args e h = each_length _ o.params (ap (λ q. args_fit_in m free vars q args) (sym e) ∙ h) ∙ map_length args _

state_holds : (m : Source) (ps : List Param) (s : Value) (args : List Value) → length ps ≡ length args → (rest : Regs) → Holds (Below (length ps + 1)) (state_scope ps) ((name_s, s) ∷ frame ps args) (filled (s ∷ args) ++ rest)
state_holds m ps s args e rest =
    let row = row_filled (whole_code m.items) [] (s ∷ args) rest in
    holds_with (Below (length ps + 1)) (parameter_scope ps 1) (frame ps args) _ name_s 0 s (omega arith) row.0 (parameters_hold (whole_code m.items) ps args 1 (length ps + 1) _ (omega arith) e row.1)

result_holds : (m : Source) (ps : List Param) (s r : Value) (args : List Value) → length ps ≡ length args → (rest : Regs) → Holds (Below (length ps + 2)) (result_scope ps) ((name_r, r) ∷ (name_s, s) ∷ frame ps args) (filled (s ∷ r ∷ args) ++ rest)
result_holds m ps s r args e rest =
    let row = row_filled (whole_code m.items) [] (s ∷ r ∷ args) rest in
    holds_with (Below (length ps + 2)) ((name_s, 0) ∷ parameter_scope ps 2) ((name_s, s) ∷ frame ps args) _ name_r 1 r (omega arith) row.1.0
    (holds_with (Below (length ps + 2)) (parameter_scope ps 2) (frame ps args) _ name_s 0 s (omega arith) row.0 (parameters_hold (whole_code m.items) ps args 2 (length ps + 2) _ (omega arith) e row.1.1))

pub pre_only : (m : Source) (code : List FunCode) (base g op : ℕ) (s : Value) (args : List Value) → WellModel m → IsCompiled m.items code base → ((free : List Ty) × (vars : List Ty) × PreFits m op s args free vars) → g ≡ base + 3 * op + 2 → DoesOnly code g (s ∷ args) (pre_of m op s args)
pre_only m code base g op s args w c h eg =
    let q = the_operation h.0 h.1 m op args h.2.arguments in
    let o = q.0 in
    let e = pre_is m op o s args q.1 in
    let n = args_length m h.0 h.1 op o args q.1 h.2.arguments in
    only_at m code g (functions (reverse m.items) + 3 * op + 2) (s ∷ args) (pre_of m op s args) (at_names m o.pre ((name_s, s) ∷ frame o.params args)) c.code_is (eg ∙ ap (λ k. k + 3 * op + 2) c.base_is) e
    (names_only m _ (length o.params + 1) (state_scope o.params) o.pre ((name_s, s) ∷ frame o.params args) (s ∷ args) (pre_stands m.items op o q.1) (omega (arith, n)) (state_holds m o.params s args n) (λ z. pre_starts m op s args w h (e ∙ z)))

pub next_only : (m : Source) (code : List FunCode) (base g op : ℕ) (s : Value) (args : List Value) (r : Value) → WellModel m → IsCompiled m.items code base → ((free : List Ty) × (vars : List Ty) × NextFits m op s args r free vars) → g ≡ base + 3 * op + 3 → DoesOnly code g (s ∷ r ∷ args) (next_of m op s args r)
next_only m code base g op s args r w c h eg =
    let q = the_operation h.0 h.1 m op args h.2.arguments in
    let o = q.0 in
    let e = next_is m op o s args r q.1 in
    let n = args_length m h.0 h.1 op o args q.1 h.2.arguments in
    only_at m code g (functions (reverse m.items) + 3 * op + 3) (s ∷ r ∷ args) (next_of m op s args r) (at_names m o.next ((name_r, r) ∷ (name_s, s) ∷ frame o.params args)) c.code_is (eg ∙ ap (λ k. k + 3 * op + 3) c.base_is) e
    (names_only m _ (length o.params + 2) (result_scope o.params) o.next ((name_r, r) ∷ (name_s, s) ∷ frame o.params args) (s ∷ r ∷ args) (next_stands m.items op o q.1) (omega (arith, n)) (result_holds m o.params s r args n) (λ z. next_starts m op s args r w h (e ∙ z)))

pub post_only : (m : Source) (code : List FunCode) (base g op : ℕ) (s : Value) (args : List Value) (r : Value) → WellModel m → IsCompiled m.items code base → ((vars : List Ty) × PostFits m op s args r vars) → g ≡ base + 3 * op + 4 → DoesOnly code g (s ∷ r ∷ args) (post_of m op s args r)
post_only m code base g op s args r w c h eg =
    let q = the_operation [] h.0 m op args h.1.arguments in
    let o = q.0 in
    let e = post_is m op o s args r q.1 in
    let n = args_length m [] h.0 op o args q.1 h.1.arguments in
    only_at m code g (functions (reverse m.items) + 3 * op + 4) (s ∷ r ∷ args) (post_of m op s args r) (at_names m o.post ((name_r, r) ∷ (name_s, s) ∷ frame o.params args)) c.code_is (eg ∙ ap (λ k. k + 3 * op + 4) c.base_is) e
    (names_only m _ (length o.params + 2) (result_scope o.params) o.post ((name_r, r) ∷ (name_s, s) ∷ frame o.params args) (s ∷ r ∷ args) (post_stands m.items op o q.1) (omega (arith, n)) (result_holds m o.params s r args n) (λ z. post_starts m op s args r w h (e ∙ z)))

abbrev pub Answer : Type 0
Answer = Result (Result (Value × ℕ) Fault) AllocError

pub says_of : (code : List FunCode) (fun : ℕ) (args : List Value) (o : End) (r : Answer) → DoesOnly code fun args o → IfOk r (λ a. (x : End) → DoesOnly code fun args x → Says x a) → IfOk r (λ a. Says o a)
says_of code fun args o (Ok a) d h = h o d
says_of code fun args o (Err e) d h = h

-- what is known of compiled callbacks, of the model that contracts see
pub well_of : (m t k : Source) → k ≡ t → t ≡ m → WellModel k → WellModel m
well_of m t k e f w = subst WellModel (e ∙ f) w

pub compiled_of : (m t : Source) (code : List FunCode) (base : ℕ) → t ≡ m → IsCompiled t.items code base → IsCompiled m.items code base
compiled_of m t code base f c = let C : Source → Type 0 = λ s. IsCompiled s.items code base in subst C f c
