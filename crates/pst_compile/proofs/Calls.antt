-- Applications, and what a function's code does.
use Rattle.std.proofs.Common.{◌≡◌, ◌==◌, ℕ, zero, suc, ◌+◌, ◌-◌, ◌<◌, ◌≤◌, List, [], ◌∷◌, ◌++◌, length, Option, Some, refl, sym, ap, ◌∙◌, subst, arith, append_assoc, length-append}
use Rattle.std.specs.Prelude.{Bool, true, false, if◌then◌else◌, slice_get}
use Rattle.std.proofs.Math.Seq.{get_or-append_seam}
use Rattle.std.proofs.lemmas.Bool.Decides.{nat_tests}
use Rattle.std.proofs.lemmas.Option.{slice_get-get_or}
use Rattle.pst_model.specs.Parts.{Name}
use Rattle.pst_model.specs.declared.expr.Expr.{Expr}
use Rattle.pst_model.specs.declared.model.Item.{Item}
use Rattle.pst_model.specs.declared.model.Param.{Param}
use Rattle.pst_value.specs.declared.value.Value.{Value}
use Rattle.pst_eval.specs.Meaning.{Env, Mean, Run, Called, ◌>>=◌, ◌>>◌, lift, frame, bound, applied, all}
use Rattle.pst_operators.specs.Outcome.{Outcome, Gives, Faults, Stuck, and_then, or_stuck, turn}
use Rattle.pst_machine.specs.declared.code.Instr.{Instr}
use Rattle.pst_machine.specs.declared.code.Instr.TheVariants.{Apply, Return}
use Rattle.pst_machine.specs.declared.code.FunCode.{FunCode}
use Rattle.pst_machine.specs.declared.machine.Frame.{Frame}
use Rattle.pst_machine.specs.Machine.{Regs, read, write, read_all, State, Continues, using, opening, filled, empty_regs, return_to, body_of, fetch, step, with_turn}
use Rattle.pst_compile.specs.Code.{Block, one, ◌then◌, Scope, Coded, load, at, load_all, all_at, apply_to, code as code_of, parameter_scope, body_code, no_name}
use Rattle.pst_compile.proofs.Steps.{state_at, one_step, one_halt, comes_on, HasAt, has_front, has_back, Reaches, before, obeys, Runs, runs_weaken, runs_then, Written}
use Rattle.pst_compile.proofs.Rules.{runs_stuck}
use Rattle.pst_compile.proofs.Good.{Below, Holds, holds_with, ValueAt, value_written, OperandAt, Good}
use Rattle.pst_compile.proofs.Forms.{good_put, operand}
use Rattle.pst_compile.proofs.Rows.{AllGood, Row, all_runs}

module _ (code : List FunCode) where
  -- an application of the function of a name does what the meaning's function does
  pub record Calls (nums : Name → Option ℕ) (funs : List Called) : Type 0 where
    pub by : (x : Name) (vs : List Value) (f : ℕ) (callers : List Frame) (d : ℕ) (rs : List ℕ) (regs : Regs) (turns : ℕ) → read_all regs rs ≡ Gives vs → Runs code f callers (apply_to d (nums x) rs) regs turns (Written code f callers regs d) (applied funs x vs turns)

  pub apply_good : (nums : Name → Option ℕ) (funs : List Called) → Calls nums funs → (x : Name) (cs : List Coded) (ms : List Mean) → AllGood code cs ms → Good code (no_name (λ sc r. load_all cs sc r then apply_to r (nums x) (all_at cs sc r))) (λ env. all ms env >>= (λ vs. applied funs x vs))
  apply_good nums funs calls x cs ms g = good_put code _ _ (λ f callers sc r env regs turns h.
      let rs = all_at cs sc r in
      let last = apply_to r (nums x) rs in
      runs_then code f callers (load_all cs sc r) last regs turns (Row code r rs [] regs) (ValueAt r regs) (all ms env turns) (λ vs. applied funs x vs) (all_runs code cs ms g [] f callers sc r env regs turns h)
      (λ vs left regs1 q. runs_weaken code f callers last regs1 left (Written code f callers regs1 r) (ValueAt r regs) (applied funs x vs left) (λ v regs2 w. value_written r regs regs1 regs2 v q.keeps w)
      (calls.by x vs f callers r rs regs1 left (q.reads ∙ ap Gives (sym q.is)))))

  -- ---- functions

  pub has_all : (g : ℕ) (is pre : List Instr) → body_of (slice_get code g) ≡ pre ++ is → HasAt code g (length pre) is
  has_all g [] pre e = tt
  has_all g (i ∷ is) pre e =
      let within : length pre < length (pre ++ i ∷ is) = omega (arith, length-append pre (i ∷ is)) in
      let here = ap (λ b. slice_get b (length pre)) e ∙ slice_get-get_or (pre ++ i ∷ is) (length pre) i within ∙ ap Some (get_or-append_seam pre i is i) in
      let n : length (pre ++ i ∷ []) ≡ length pre + 1 = omega (arith, length-append pre (i ∷ [])) in
      (here, subst (λ m. HasAt code g m is) n (has_all g is (pre ++ i ∷ []) (e ∙ sym (append_assoc pre (i ∷ []) is))))

  -- the values are in the registers from k on
  abbrev RowAt : Regs → ℕ → List Value → Type 0
  RowAt regs k [] = Unit {0}
  RowAt regs k (v ∷ vs) = (read regs k ≡ Gives v) × RowAt regs (k + 1) vs

  read_past : (pre : Regs) (v : Value) (rest : Regs) → read (pre ++ Some v ∷ rest) (length pre) ≡ Gives v
  read_past [] v rest = refl
  read_past (o ∷ pre) v rest = read_past pre v rest

  pub row_filled : (pre : Regs) (vs : List Value) (rest : Regs) → RowAt (pre ++ (filled vs ++ rest)) (length pre) vs
  row_filled pre [] rest = tt
  row_filled pre (v ∷ vs) rest =
      let n : length (pre ++ Some v ∷ []) ≡ length pre + 1 = omega (arith, length-append pre (Some v ∷ [])) in
      let r = row_filled (pre ++ Some v ∷ []) vs rest in
      let r' = subst (λ l. RowAt l (length (pre ++ Some v ∷ [])) vs) (append_assoc pre (Some v ∷ []) (filled vs ++ rest)) r in
      (read_past pre v (filled vs ++ rest), subst (λ m. RowAt (pre ++ (filled (v ∷ vs) ++ rest)) m vs) n r')

  pub nothing_holds : (n : ℕ) (sc : Scope) (regs : Regs) → Holds (Below n) sc [] regs
  nothing_holds n sc regs = record { by = λ x v e. absurd cc }

  pub parameters_hold : (ps : List Param) (vs : List Value) (k n : ℕ) (regs : Regs) → k + length ps ≤ n → length ps ≡ length vs → RowAt regs k vs → Holds (Below n) (parameter_scope ps k) (frame ps vs) regs
  parameters_hold [] vs k n regs le e row = nothing_holds n [] regs
  parameters_hold (p ∷ ps) [] k n regs le e row = nothing_holds n _ regs
  parameters_hold (p ∷ ps) (v ∷ vs) k n regs le e row =
      holds_with (Below n) (parameter_scope ps (k + 1)) (frame ps vs) regs p.name k v (omega arith) row.0 (parameters_hold ps vs (k + 1) n regs (omega arith) (omega arith) row.1)

  -- the function's code is this one's, over n registers of names
  pub record IsCode (items : List Item) (nums : Name → Option ℕ) (g n : ℕ) (sc : Scope) (e : Expr) : Type 0 where
    pub fc : FunCode
    pub here : slice_get code g ≡ Some fc
    pub args : fc.args ≡ n
    pub body : fc.body ≡ body_code items nums e sc n 0

  -- after the body its value goes back to the caller
  returned : (g n a q : ℕ) (f p d : ℕ) (regs0 : Regs) (callers : List Frame) (s : State) (regs : Regs) (m : Outcome (Value × ℕ)) → fetch code g q ≡ Some (Return a) → Reaches code g (record { fun = f; place = p; regs = regs; dest = d } ∷ callers) s q (OperandAt (Below n) n a regs0) m → Reaches code f callers s p (Written code f callers regs d) m
  returned g n a q f p d regs0 callers s regs (Gives r) h x =
      let fr : Frame = record { fun = f; place = p; regs = regs; dest = d } in
      (write regs d r.0, refl, comes_on code s _ _ x.2 (one_step code _ _ (obeys code g (fr ∷ callers) q x.0 r.1 (Return a) h ∙ ap (λ o. using o (λ v. return_to (fr ∷ callers) v r.1)) x.1.value)))
  returned g n a q f p d regs0 callers s regs (Faults why) h x = x
  returned g n a q f p d regs0 callers s regs Stuck h x = tt

  pub open_if : (t : Bool) (regs : Regs) → t ≡ true → (if t then Gives regs else Stuck) ≡ Gives regs
  open_if true regs e = refl
  open_if false regs e = absurd cc

  pub same_length : (m n : ℕ) → m ≡ n → (m == n) ≡ true
  same_length m n e = grind (arith, nat_tests)

  pub opens : (fc : FunCode) (vs : List Value) → fc.args ≡ length vs → opening fc vs ≡ Gives (filled vs ++ empty_regs (fc.registers - fc.args))
  opens fc vs e = open_if (fc.args == length vs) _ (same_length fc.args (length vs) e)

  -- a body comes to its return
  pub body_reaches : (items : List Item) (nums : Name → Option ℕ) (g n : ℕ) (sc : Scope) (e : Expr) (m : Mean) (is : IsCode items nums g n sc e) → Good code (code_of items nums e) m → (callers : List Frame) (env : Env) (inner : Regs) (left : ℕ) → Holds (Below n) sc env inner
      → (q : ℕ) × (fetch code g q ≡ Some (Return (at (code_of items nums e) sc n))) × Reaches code g callers (state_at g 0 inner left callers) q (OperandAt (Below n) n (at (code_of items nums e) sc n) inner) (m env left)
  body_reaches items nums g n sc e m is good callers env inner left holds =
      let c = code_of items nums e in
      let b = load c sc n in
      let at0 : HasAt code g 0 (body_code items nums e sc n 0) = has_all g (body_code items nums e sc n 0) [] (ap body_of is.here ∙ is.body) in (
        0 + length (b 0),
        (has_back code g 0 (b 0) (Return (at c sc n) ∷ []) at0).0,
        (operand code c m good g callers sc n env inner left holds).at 0 (has_front code g 0 (b 0) (Return (at c sc n) ∷ []) at0),
      )

  -- the turn, and then the function
  entered : (f : ℕ) (callers : List Frame) (p d : ℕ) (regs : Regs) (turns : ℕ) (run : Run Value) (next : ℕ → State) → step code (state_at f p regs turns callers) ≡ with_turn turns (λ left. Continues (next left)) → ((left : ℕ) → Reaches code f callers (next left) (p + 1) (Written code f callers regs d) (run left)) → Reaches code f callers (state_at f p regs turns callers) (p + 1) (Written code f callers regs d) ((turn >> run) turns)
  entered f callers p d regs zero run next e h = one_halt code _ _ e
  entered f callers p d regs (suc left) run next e h = before code f callers _ (next left) (p + 1) (Written code f callers regs d) (run left) (one_step code _ _ e) (h left)

  called_runs : (items : List Item) (nums : Name → Option ℕ) (g : ℕ) (ps : List Param) (e : Expr) (m : Mean) → IsCode items nums g (length ps) (parameter_scope ps 0) e → Good code (code_of items nums e) m → (vs : List Value) → length ps ≡ length vs → (f : ℕ) (callers : List Frame) (d : ℕ) (rs : List ℕ) (regs : Regs) (turns : ℕ) → read_all regs rs ≡ Gives vs → Runs code f callers (one (Apply d g rs)) regs turns (Written code f callers regs d) ((turn >> m (frame ps vs)) turns)
  called_runs items nums g ps e m is good vs equal f callers d rs regs turns reads = record {
    at = λ p has.
        let n = length ps in
        let inner = filled vs ++ empty_regs (is.fc.registers - is.fc.args) in
        let fr : Frame = record { fun = f; place = p + 1; regs = regs; dest = d } in
        let enter = λ (left : ℕ). state_at g 0 inner left (fr ∷ callers) in
        let stepped : step code (state_at f p regs turns callers) ≡ with_turn turns (λ left. Continues (enter left)) =
        obeys code f callers p regs turns (Apply d g rs) has.0
        ∙ ap (λ o. using o (λ vs. using (or_stuck (slice_get code g)) (λ fc. using (opening fc vs) (λ inner. with_turn turns (λ left. Continues (state_at g 0 inner left (fr ∷ callers))))))) reads
        ∙ ap (λ o. using (or_stuck o) (λ fc. using (opening fc vs) (λ inner. with_turn turns (λ left. Continues (state_at g 0 inner left (fr ∷ callers)))))) is.here
        ∙ ap (λ o. using o (λ inner. with_turn turns (λ left. Continues (state_at g 0 inner left (fr ∷ callers))))) (opens is.fc vs (is.args ∙ equal)) in
        let holds : Holds (Below n) (parameter_scope ps 0) (frame ps vs) inner = parameters_hold ps vs 0 n inner (omega arith) equal (row_filled [] vs _) in
        entered f callers p d regs turns (m (frame ps vs)) enter stepped (λ left.
        let b = body_reaches items nums g n (parameter_scope ps 0) e m is good (fr ∷ callers) (frame ps vs) inner left holds in
        returned g n _ b.0 f (p + 1) d inner callers (enter left) regs (m (frame ps vs) left) b.1 b.2);
  }

  bound_runs : (t : Bool) (ps : List Param) (vs : List Value) (run : Env → Run Value) (b : Block) (f : ℕ) (callers : List Frame) (d : ℕ) (regs : Regs) (turns : ℕ) → (t ≡ true → Runs code f callers b regs turns (Written code f callers regs d) (run (frame ps vs) turns)) → Runs code f callers b regs turns (Written code f callers regs d) (and_then (lift (if t then Gives (frame ps vs) else Stuck) turns) (λ r. run r.0 r.1))
  bound_runs true ps vs run b f callers d regs turns h = h refl
  bound_runs false ps vs run b f callers d regs turns h = runs_stuck code f callers b regs turns (Written code f callers regs d)

  equal_lengths : (m n : ℕ) → (m == n) ≡ true → m ≡ n
  equal_lengths m n e = grind (arith, nat_tests)

  pub applied_runs : (items : List Item) (nums : Name → Option ℕ) (g : ℕ) (ps : List Param) (e : Expr) (m : Mean) → IsCode items nums g (length ps) (parameter_scope ps 0) e → Good code (code_of items nums e) m → (vs : List Value) (f : ℕ) (callers : List Frame) (d : ℕ) (rs : List ℕ) (regs : Regs) (turns : ℕ) → read_all regs rs ≡ Gives vs → Runs code f callers (one (Apply d g rs)) regs turns (Written code f callers regs d) ((lift (bound ps vs) >>= (λ env. turn >> m env)) turns)
  applied_runs items nums g ps e m is good vs f callers d rs regs turns reads =
      bound_runs (length ps == length vs) ps vs (λ env. turn >> m env) (one (Apply d g rs)) f callers d regs turns
      (λ t. called_runs items nums g ps e m is good vs (equal_lengths (length ps) (length vs) t) f callers d rs regs turns reads)
