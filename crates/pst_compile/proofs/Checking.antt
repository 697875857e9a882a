-- The whole code passes the machine's check, and holds each function and each callback.
use Rattle.std.proofs.Common.{◌≡◌, ◌&&◌, ℕ, zero, suc, ◌+◌, ◌*◌, ◌<◌, List, [], ◌∷◌, ◌++◌, length, reverse, Option, Some, None, refl, sym, ap, ◌∙◌, subst, arith, length-append, append_assoc}
use Rattle.std.specs.Prelude.{Bool, true, false, nat_le, IsTrue, max, slice_get}
use Rattle.std.proofs.Math.Seq.{get_or-append_seam}
use Rattle.std.proofs.lemmas.Option.{slice_get-get_or}
use Rattle.pst_model.specs.Parts.{Name, initial_state_of, calls_of, operations_of, operation_of}
use Rattle.pst_model.specs.declared.expr.Expr.{Expr}
use Rattle.pst_model.specs.declared.model.Item.{Item}
use Rattle.pst_model.specs.declared.model.Item.TheVariants as item
use Rattle.pst_model.specs.declared.model.Op.{Op}
use Rattle.pst_model.specs.WellTyped.{name_s}
use Rattle.pst_machine.specs.declared.code.FunCode.{FunCode}
use Rattle.pst_machine.specs.declared.code.Instr.{Instr}
use Rattle.pst_machine.specs.declared.code.Instr.TheVariants.{Return}
use Rattle.pst_machine.specs.Lawful.{body_fits, fun_fits, code_fits}
use Rattle.pst_compile.specs.Code.{Scope, load, at, code as code_of, body_code, functions, number, parameter_scope}
use Rattle.pst_compile.specs.Functions.{frame_size, fun_code, functions_code, optional_code, operations_code, callbacks_code, whole_code, state_scope, result_scope}
use Rattle.pst_compile.proofs.Calls.{IsCode}
use Rattle.pst_compile.proofs.Lawful.{AllPlaced, is_le, body_fit}
use Rattle.pst_compile.proofs.Main.{HasFuns}
use Rattle.pst_compile.proofs.Placing.{load_lawful, expr_lawful, number_low}

and_of : (a b : Bool) → IsTrue a → IsTrue b → IsTrue (a && b)
and_of true b h k = k
and_of false b h k = absurd cc

-- what follows a lawful block: the return
return_placed : (g q hi : ℕ) (is : List Instr) (a : ℕ) → AllPlaced g hi q is → AllPlaced g hi q (is ++ Return a ∷ [])
return_placed g q hi [] a h = (tt, tt)
return_placed g q hi (i ∷ is) a h = (h.0, return_placed g (q + 1) hi is a h.1)

pub function_fits : (g : ℕ) (items : List Item) (nums : Name → Option ℕ) → ((x : Name) (k : ℕ) → nums x ≡ Some k → k < g) → (n : ℕ) (sc : Scope) (e : Expr) → IsTrue (fun_fits g (fun_code items nums n sc e))
function_fits g items nums low n sc e =
    let c = code_of items nums e in
    let b = load c sc n in
    let is = body_code items nums e sc n 0 in
    let m = max n (frame_size is) in
    let hi = 0 + length (b 0) in
    let lt : hi < length is = omega (arith, length-append (b 0) (Return (at c sc n) ∷ [])) in
    let placed = return_placed g 0 hi (b 0) (at c sc n) ((load_lawful g c (expr_lawful g items nums low e) sc n).by 0) in
    let fc = fun_code items nums n sc e in
    and_of (nat_le n m) (body_fits g fc 0 is) (is_le n m (omega arith)) (body_fit g fc hi 0 is lt (omega arith) placed)

-- ---- functions

code_one : (k : ℕ) (rest : List FunCode) → IsTrue (code_fits (k + 1) rest) → IsTrue (code_fits (suc k) rest)
code_one k rest h = let e : k + 1 ≡ suc k = omega arith in subst (λ n. IsTrue (code_fits n rest)) e h

one_code : (k : ℕ) (rest : List FunCode) → IsTrue (code_fits (suc k) rest) → IsTrue (code_fits (k + 1) rest)
one_code k rest h = let e : suc k ≡ k + 1 = omega arith in subst (λ n. IsTrue (code_fits n rest)) e h

functions_fit : (items fs : List Item) (rest : List FunCode) → IsTrue (code_fits (functions fs) rest) → IsTrue (code_fits 0 (functions_code items fs ++ rest))
functions_fit items [] rest h = h
functions_fit items (item.Fun f ∷ fs) rest h =
    let fc = fun_code items (number fs) (length f.params) (parameter_scope f.params 0) f.body in
    subst (λ l. IsTrue (code_fits 0 l)) (sym (append_assoc (functions_code items fs) (fc ∷ []) rest))
    (functions_fit items fs (fc ∷ rest) (and_of (fun_fits (functions fs) fc) _ (function_fits (functions fs) items (number fs) (number_low fs) _ _ f.body) (one_code (functions fs) rest h)))
functions_fit items (item.State t ∷ fs) rest h = functions_fit items fs rest h
functions_fit items (item.Init e ∷ fs) rest h = functions_fit items fs rest h
functions_fit items (item.Command e ∷ fs) rest h = functions_fit items fs rest h
functions_fit items (item.Op o ∷ fs) rest h = functions_fit items fs rest h

optional_fits : (g : ℕ) (items : List Item) (nums : Name → Option ℕ) → ((x : Name) (k : ℕ) → nums x ≡ Some k → k < g) → (n : ℕ) (sc : Scope) (e : Option Expr) → IsTrue (fun_fits g (optional_code items nums n sc e))
optional_fits g items nums low n sc None = refl
optional_fits g items nums low n sc (Some e) = function_fits g items nums low n sc e

low_next : (g : ℕ) (nums : Name → Option ℕ) → ((x : Name) (k : ℕ) → nums x ≡ Some k → k < g) → (x : Name) (k : ℕ) → nums x ≡ Some k → k < g + 1
low_next g nums low x k e = let lt = low x k e in omega (arith, lt)

operations_fit : (g : ℕ) (items : List Item) (nums : Name → Option ℕ) → ((x : Name) (k : ℕ) → nums x ≡ Some k → k < g) → (rest : List Item) → IsTrue (code_fits g (operations_code items nums rest))
operations_fit g items nums low [] = refl
operations_fit g items nums low (item.Op o ∷ rest) =
    let low1 = low_next g nums low in
    let low2 = low_next (g + 1) nums low1 in
    let n1 = length o.params + 1 in
    let n2 = length o.params + 2 in
    let s1 = state_scope o.params in
    let s2 = result_scope o.params in
    let f1 = fun_code items nums n1 s1 o.pre in
    let f2 = fun_code items nums n2 s2 o.next in
    let f3 = fun_code items nums n2 s2 o.post in
    let t3 = code_fits (g + 1 + 1 + 1) (operations_code items nums rest) in
    let t2 = fun_fits (g + 1 + 1) f3 && t3 in
    let t1 = fun_fits (g + 1) f2 && t2 in
    and_of (fun_fits g f1) t1 (function_fits g items nums low n1 s1 o.pre)
    (and_of (fun_fits (g + 1) f2) t2 (function_fits (g + 1) items nums low1 n2 s2 o.next)
    (and_of (fun_fits (g + 1 + 1) f3) t3 (function_fits (g + 1 + 1) items nums low2 n2 s2 o.post) (operations_fit (g + 1 + 1 + 1) items nums (low_next (g + 1 + 1) nums low2) rest)))
operations_fit g items nums low (item.State t ∷ rest) = operations_fit g items nums low rest
operations_fit g items nums low (item.Init e ∷ rest) = operations_fit g items nums low rest
operations_fit g items nums low (item.Command e ∷ rest) = operations_fit g items nums low rest
operations_fit g items nums low (item.Fun f ∷ rest) = operations_fit g items nums low rest

pub whole_fits : (items : List Item) → IsTrue (code_fits 0 (whole_code items))
unfolding whole_code
whole_fits items =
    let fs = reverse items in
    let g = functions fs in
    let nums = number fs in
    let low = number_low fs in
    let low1 = low_next g nums low in
    let f1 = optional_code items nums 0 [] (initial_state_of items) in
    let f2 = optional_code items nums 1 ((name_s, 0) ∷ []) (calls_of items) in
    let t2 = code_fits (g + 1 + 1) (operations_code items nums items) in
    functions_fit items fs (callbacks_code items)
    (and_of (fun_fits g f1) (fun_fits (g + 1) f2 && t2) (optional_fits g items nums low 0 [] (initial_state_of items))
    (and_of (fun_fits (g + 1) f2) t2 (optional_fits (g + 1) items nums low1 1 ((name_s, 0) ∷ []) (calls_of items)) (operations_fit (g + 1 + 1) items nums (low_next (g + 1) nums low1) items)))

-- ---- where they stand

stands : (pre : List FunCode) (fc : FunCode) (rest : List FunCode) → slice_get (pre ++ fc ∷ rest) (length pre) ≡ Some fc
stands pre fc rest =
    let within : length pre < length (pre ++ fc ∷ rest) = omega (arith, length-append pre (fc ∷ rest)) in
    slice_get-get_or (pre ++ fc ∷ rest) (length pre) fc within ∙ ap Some (get_or-append_seam pre fc rest fc)

functions_length : (items fs : List Item) → length (functions_code items fs) ≡ functions fs
functions_length items [] = refl
functions_length items (item.Fun f ∷ fs) =
    let n = functions_length items fs in
    let fc = fun_code items (number fs) (length f.params) (parameter_scope f.params 0) f.body in
    length-append (functions_code items fs) (fc ∷ []) ∙ (omega (arith, n))
functions_length items (item.State t ∷ fs) = functions_length items fs
functions_length items (item.Init e ∷ fs) = functions_length items fs
functions_length items (item.Command e ∷ fs) = functions_length items fs
functions_length items (item.Op o ∷ fs) = functions_length items fs

is_code : (code : List FunCode) (items : List Item) (nums : Name → Option ℕ) (g n : ℕ) (sc : Scope) (e : Expr) → slice_get code g ≡ Some (fun_code items nums n sc e) → IsCode code items nums g n sc e
is_code code items nums g n sc e h = record { fc = fun_code items nums n sc e; here = h; args = refl; body = refl }

functions_stand : (items fs : List Item) (rest : List FunCode) → HasFuns (functions_code items fs ++ rest) items fs
functions_stand items [] rest = tt
functions_stand items (item.Fun f ∷ fs) rest =
    let fc = fun_code items (number fs) (length f.params) (parameter_scope f.params 0) f.body in
    let pre = functions_code items fs in
    let here : slice_get (pre ++ fc ∷ rest) (functions fs) ≡ Some fc = ap (slice_get (pre ++ fc ∷ rest)) (sym (functions_length items fs)) ∙ stands pre fc rest in
    subst (λ l. HasFuns l items (item.Fun f ∷ fs)) (sym (append_assoc pre (fc ∷ []) rest)) (is_code (pre ++ fc ∷ rest) items (number fs) (functions fs) _ _ f.body here, functions_stand items fs (fc ∷ rest))
functions_stand items (item.State t ∷ fs) rest = functions_stand items fs rest
functions_stand items (item.Init e ∷ fs) rest = functions_stand items fs rest
functions_stand items (item.Command e ∷ fs) rest = functions_stand items fs rest
functions_stand items (item.Op o ∷ fs) rest = functions_stand items fs rest

pub whole_has : (items : List Item) → HasFuns (whole_code items) items (reverse items)
unfolding whole_code
whole_has items = functions_stand items (reverse items) (callbacks_code items)

past : (pre rest : List FunCode) (k : ℕ) → slice_get (pre ++ rest) (length pre + k) ≡ slice_get rest k
past [] rest k = let e : 0 + k ≡ k = omega arith in ap (slice_get rest) e
past (fc ∷ pre) rest k = let e : length (fc ∷ pre) + k ≡ suc (length pre + k) = omega arith in ap (slice_get (fc ∷ (pre ++ rest))) e ∙ past pre rest k

callback_stands : (items : List Item) (k : ℕ) (fc : FunCode) → slice_get (callbacks_code items) k ≡ Some fc → slice_get (whole_code items) (functions (reverse items) + k) ≡ Some fc
unfolding whole_code
callback_stands items k fc h =
    let pre = functions_code items (reverse items) in
    ap (λ n. slice_get (pre ++ callbacks_code items) (n + k)) (sym (functions_length items (reverse items))) ∙ past pre (callbacks_code items) k ∙ h

pub init_stands : (items : List Item) (e : Expr) → initial_state_of items ≡ Some e → IsCode (whole_code items) items (number (reverse items)) (functions (reverse items) + 0) 0 [] e
init_stands items e h = is_code _ items _ _ 0 [] e (callback_stands items 0 _ (ap (λ o. Some (optional_code items (number (reverse items)) 0 [] o)) h))

pub command_stands : (items : List Item) (e : Expr) → calls_of items ≡ Some e → IsCode (whole_code items) items (number (reverse items)) (functions (reverse items) + 1) 1 ((name_s, 0) ∷ []) e
command_stands items e h = is_code _ items _ _ 1 ((name_s, 0) ∷ []) e (callback_stands items 1 _ (ap (λ o. Some (optional_code items (number (reverse items)) 1 ((name_s, 0) ∷ []) o)) h))

-- the three functions of an operation
record Three (items : List Item) (nums : Name → Option ℕ) (o : Op) (codes : List FunCode) (k : ℕ) : Type 0 where
  pre : slice_get codes k ≡ Some (fun_code items nums (length o.params + 1) (state_scope o.params) o.pre)
  next : slice_get codes (suc k) ≡ Some (fun_code items nums (length o.params + 2) (result_scope o.params) o.next)
  post : slice_get codes (suc (suc k)) ≡ Some (fun_code items nums (length o.params + 2) (result_scope o.params) o.post)

three : (items : List Item) (nums : Name → Option ℕ) (rest : List Item) (op : ℕ) (o : Op) → slice_get (operations_of rest) op ≡ Some o → Three items nums o (operations_code items nums rest) (3 * op)
three items nums [] op o e = absurd cc
three items nums (item.Op p ∷ rest) zero o e =
    let same : p ≡ o = cc in
    subst (λ z. Three items nums z (operations_code items nums (item.Op p ∷ rest)) 0) same (record { pre = refl; next = refl; post = refl })
three items nums (item.Op p ∷ rest) (suc op) o e =
    let t = three items nums rest op o e in
    let k : 3 * suc op ≡ suc (suc (suc (3 * op))) = omega arith in
    subst (Three items nums o (operations_code items nums (item.Op p ∷ rest))) (sym k) (record { pre = t.pre; next = t.next; post = t.post })
three items nums (item.State t ∷ rest) op o e = three items nums rest op o e
three items nums (item.Init i ∷ rest) op o e = three items nums rest op o e
three items nums (item.Command c ∷ rest) op o e = three items nums rest op o e
three items nums (item.Fun f ∷ rest) op o e = three items nums rest op o e

stands_at : (items : List Item) (k n : ℕ) (sc : Scope) (e : Expr) (m : ℕ) → slice_get (operations_code items (number (reverse items)) items) k ≡ Some (fun_code items (number (reverse items)) n sc e) → functions (reverse items) + suc (suc k) ≡ m → IsCode (whole_code items) items (number (reverse items)) m n sc e
stands_at items k n sc e m h is = subst (λ g. IsCode (whole_code items) items (number (reverse items)) g n sc e) is (is_code (whole_code items) items (number (reverse items)) _ n sc e (callback_stands items (suc (suc k)) _ h))

pub pre_stands : (items : List Item) (op : ℕ) (o : Op) → operation_of items op ≡ Some o → IsCode (whole_code items) items (number (reverse items)) (functions (reverse items) + 3 * op + 2) (length o.params + 1) (state_scope o.params) o.pre
pre_stands items op o e = stands_at items (3 * op) _ (state_scope o.params) o.pre _ (three items (number (reverse items)) items op o e).pre (omega arith)

pub next_stands : (items : List Item) (op : ℕ) (o : Op) → operation_of items op ≡ Some o → IsCode (whole_code items) items (number (reverse items)) (functions (reverse items) + 3 * op + 3) (length o.params + 2) (result_scope o.params) o.next
next_stands items op o e = stands_at items (suc (3 * op)) _ (result_scope o.params) o.next _ (three items (number (reverse items)) items op o e).next (omega arith)

pub post_stands : (items : List Item) (op : ℕ) (o : Op) → operation_of items op ≡ Some o → IsCode (whole_code items) items (number (reverse items)) (functions (reverse items) + 3 * op + 4) (length o.params + 2) (result_scope o.params) o.post
post_stands items op o e = stands_at items (suc (suc (3 * op))) _ (result_scope o.params) o.post _ (three items (number (reverse items)) items op o e).post (omega arith)
