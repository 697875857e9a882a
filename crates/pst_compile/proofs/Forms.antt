-- Each form's code does what the form means, if its parts' codes do.
use Rattle.std.proofs.Common.{◌≡◌, ℕ, ◌+◌, ◌<◌, List, ◌∷◌, Some, None, refl, sym, ap, ◌∙◌, subst, arith}
use Rattle.std.specs.Prelude.{Bool, true, false, if◌then◌else◌}
use Rattle.pst_model.specs.Parts.{Name}
use Rattle.pst_model.specs.declared.expr.Binary.{Binary as BinaryOperator}
use Rattle.pst_value.specs.declared.value.Value.{Value}
use Rattle.pst_eval.specs.Meaning.{Env, looked_up, Mean, Run, ◌>>=◌, lift, pure, truth}
use Rattle.pst_operators.specs.Maps as maps
use Rattle.pst_operators.specs.Operators.{truth_of, bool, binary}
use Rattle.pst_operators.specs.Outcome.{Outcome, Gives, Faults, Stuck, and_then}
use Rattle.pst_machine.specs.declared.code.Instr.{Instr}
use Rattle.pst_machine.specs.declared.code.Instr.TheVariants.{Const, Move, Take, Binary, Put}
use Rattle.pst_machine.specs.declared.code.FunCode.{FunCode}
use Rattle.pst_machine.specs.declared.machine.Frame.{Frame}
use Rattle.pst_machine.specs.Machine.{Regs, read, write, cleared, put, execute, using, advance}
use Rattle.pst_compile.specs.Code.{Block, one, ◌then◌, nothing, where_true, choice, Scope, find, move_from, Coded, load, at, no_name, to_either}
use Rattle.pst_compile.proofs.Regs.{read_write}
use Rattle.pst_compile.proofs.Shapes.{IsQuiet, truth_quiet, truth_is}
use Rattle.pst_compile.proofs.Steps.{state_at, one_step, Runs, obeys, runs_weaken, runs_then, runs_follow, runs_put, Written}
use Rattle.pst_compile.proofs.Rules.{runs_stuck, runs_sure, runs_quiet, runs_nothing, runs_where, runs_choice}
use Rattle.pst_compile.proofs.Good.{Below, But, Keeps, keeps_all, keeps_then, keeps_less, keeps_write, keeps_cleared, Holds, holds_keep, holds_more, holds_with, looked_quiet, ValueAt, below_not, value_written, value_after, OperandAt, OverAt, keeps_but, over_written, over_after, below_one, Good, operand_runs}

module _ (code : List FunCode) where
  -- one instruction, which puts a value into register r
  pub put_value : (f : ℕ) (callers : List Frame) (i : Instr) (r : ℕ) (regs regs1 : Regs) (turns : ℕ) (o : Outcome Value) → Keeps (Below r) regs regs1 → ((p : ℕ) → execute code i (state_at f p regs1 turns callers) ≡ put r o (state_at f p regs1 turns callers)) → Runs code f callers (one i) regs1 turns (ValueAt r regs) (lift o turns)
  put_value f callers i r regs regs1 turns o k h =
      runs_weaken code f callers (one i) regs1 turns (Written code f callers regs1 r) (ValueAt r regs) (lift o turns) (λ v regs2 w. value_written r regs regs1 regs2 v k w) (runs_put code f callers i regs1 turns r o h)

  -- one instruction, which writes a value to register d
  pub write_value : (f : ℕ) (callers : List Frame) (i : Instr) (d : ℕ) (regs : Regs) (turns : ℕ) (o : Outcome Value) (Q : Value → Regs → Type 0) → ((v : Value) → Q v (write regs d v)) → ((p : ℕ) → execute code i (state_at f p regs turns callers) ≡ put d o (state_at f p regs turns callers)) → Runs code f callers (one i) regs turns Q (lift o turns)
  write_value f callers i d regs turns o Q q h =
      runs_weaken code f callers (one i) regs turns (Written code f callers regs d) Q (lift o turns) (λ v regs2 w. subst (Q v) (sym w) (q v)) (runs_put code f callers i regs turns d o h)

  -- a value moves down to its register
  pub take_runs : (f : ℕ) (callers : List Frame) (d a : ℕ) (regs : Regs) (turns : ℕ) (v : Value) (Q : Value → Regs → Type 0) → read regs a ≡ Gives v → Q v (write (cleared regs a) d v) → Runs code f callers (one (Take d a)) regs turns Q (Gives (v, turns))
  take_runs f callers d a regs turns v Q e q = record {
    at = λ p has.
        (write (cleared regs a) d v, q, one_step code _ _ (obeys code f callers p regs turns (Take d a) has.0 ∙ ap (λ o. using o (λ v. advance (state_at f p regs turns callers) (write (cleared regs a) d v))) e));
  }

  -- what holds of code that leaves its value in register r
  abbrev pub Puts : (Scope → ℕ → Block) → Mean → Type 0
  Puts c m = (f : ℕ) (callers : List Frame) (sc : Scope) (r : ℕ) (env : Env) (regs : Regs) (turns : ℕ) → Holds (Below r) sc env regs → Runs code f callers (c sc r) regs turns (ValueAt r regs) (m env turns)

  -- the value moves from there to register d
  moved_runs : (c : Scope → ℕ → Block) (m : Mean) → Puts c m → (f : ℕ) (callers : List Frame) (sc : Scope) (d r : ℕ) (env : Env) (regs : Regs) (turns : ℕ) → d < r → Holds (Below r) sc env regs → Runs code f callers (c sc r then one (Take d r)) regs turns (OverAt d r regs) (m env turns)
  moved_runs c m puts f callers sc d r env regs turns lt h =
      runs_follow code f callers (c sc r) (one (Take d r)) regs turns (ValueAt r regs) (OverAt d r regs) (m env turns) (puts f callers sc r env regs turns h)
      (λ v left regs1 q. take_runs f callers d r regs1 left v (OverAt d r regs) q.value
      (over_written d r regs (cleared regs1 r) v (keeps_cleared (But d r) regs regs1 r (λ b. let u = b.0 in absurd (omega arith)) (keeps_but d r regs regs1 q.keeps))))

  -- code that is no name's
  pub good_put : (c : Scope → ℕ → Block) (m : Mean) → Puts c m → Good code (no_name c) m
  good_put c m h = record { by = h; over = λ f callers sc d r env regs turns lt k. moved_runs c m h f callers sc d r env regs turns lt k; named = λ x e env turns. absurd cc }

  -- code whose last instruction may write to another register than r
  pub good_either : (c : Scope → ℕ → ℕ → Block) (m : Mean) → ((f : ℕ) (callers : List Frame) (sc : Scope) (d r : ℕ) (env : Env) (regs : Regs) (turns : ℕ) (Q : Value → Regs → Type 0) → ((v : Value) (regs1 : Regs) → Keeps (Below r) regs regs1 → Q v (write regs1 d v)) → Holds (Below r) sc env regs → Runs code f callers (c sc d r) regs turns Q (m env turns)) → Good code (to_either c) m
  good_either c m h = record {
    by = λ f callers sc r env regs turns k. h f callers sc r r env regs turns (ValueAt r regs) (λ v regs1 kept. value_written r regs regs1 _ v kept refl) k;
    over = λ f callers sc d r env regs turns lt k. h f callers sc d r env regs turns (OverAt d r regs) (λ v regs1 kept. over_written d r regs regs1 v (keeps_but d r regs regs1 kept)) k;
    named = λ x e env turns. absurd cc;
  }

  pub const_good : (v : Value) → Good code (no_name (λ sc r. one (Const r v))) (λ env turns. Gives (v, turns))
  const_good v = good_put _ _ (λ f callers sc r env regs turns h. put_value f callers (Const r v) r regs regs turns (Gives v) (keeps_all (Below r) regs) (λ p. refl))

  name_runs : (x : Name) (f : ℕ) (callers : List Frame) (sc : Scope) (d r : ℕ) (env : Env) (regs : Regs) (turns : ℕ) (Q : Value → Regs → Type 0) → ((v : Value) → Q v (write regs d v)) → Holds (Below r) sc env regs → (o : Outcome Value) → looked_up env x ≡ o → IsQuiet o → Runs code f callers (move_from d (find sc x)) regs turns Q (lift o turns)
  name_runs x f callers sc d r env regs turns Q q h (Gives v) e quiet =
      let g = h.by x v e in
      subst (λ n. Runs code f callers (move_from d n) regs turns Q (Gives (v, turns))) (sym g.1)
      (write_value f callers (Move d g.0) d regs turns (Gives v) Q q (λ p. ap (λ o. put d o (state_at f p regs turns callers)) g.3))
  name_runs x f callers sc d r env regs turns Q q h (Faults why) e quiet = absurd quiet
  name_runs x f callers sc d r env regs turns Q q h Stuck e quiet = runs_stuck code f callers _ regs turns Q

  pub name_good : (x : Name) → Good code (record { put = λ sc r. move_from r (find sc x); overwrite = λ sc d r. move_from d (find sc x); name = Some x }) (λ env. lift (looked_up env x))
  name_good x = record {
    named = λ y e env turns. ap (λ z. lift (looked_up env z) turns) (let same : x ≡ y = cc in same);
    by = λ f callers sc r env regs turns h.
        name_runs x f callers sc r r env regs turns (ValueAt r regs) (λ v. value_written r regs regs _ v (keeps_all (Below r) regs) refl) h (looked_up env x) refl (looked_quiet env x);
    over = λ f callers sc d r env regs turns lt h.
        name_runs x f callers sc d r env regs turns (OverAt d r regs) (λ v. over_written d r regs regs v (keeps_all (But d r) regs)) h (looked_up env x) refl (looked_quiet env x);
  }

  -- names' registers are below the next ones
  pub more : (r k : ℕ) → Below r k → Below (r + 1) k
  more r k lt = omega arith

  same_below : (r k : ℕ) → Below r k → k < r
  same_below r k lt = lt

  pub operand : (c : Coded) (m : Mean) → Good code c m → (f : ℕ) (callers : List Frame) (sc : Scope) (r : ℕ) (env : Env) (regs : Regs) (turns : ℕ) → Holds (Below r) sc env regs → Runs code f callers (load c sc r) regs turns (OperandAt (Below r) r (at c sc r) regs) (m env turns)
  operand c m g f callers sc r env regs turns h = operand_runs code c m g (Below r) f callers sc r env regs turns (same_below r) h

  -- a value, and an instruction that makes another of it
  pub unary_good : (c : Coded) (m : Mean) (i : ℕ → ℕ → Instr) (op : Value → Outcome Value) → ((r a : ℕ) (f p : ℕ) (regs : Regs) (turns : ℕ) (callers : List Frame) → execute code (i r a) (state_at f p regs turns callers) ≡ put r (and_then (read regs a) op) (state_at f p regs turns callers)) → Good code c m → Good code (no_name (λ sc r. load c sc r then one (i r (at c sc r)))) (λ env turns. and_then (m env turns) (λ w. lift (op w.0) w.1))
  unary_good c m i op does g = good_put _ _ (λ f callers sc r env regs turns h.
      let a = at c sc r in
      runs_then code f callers (load c sc r) (one (i r a)) regs turns (OperandAt (Below r) r a regs) (ValueAt r regs) (m env turns) (λ v left. lift (op v) left) (operand c m g f callers sc r env regs turns h)
      (λ v left regs1 q. put_value f callers (i r a) r regs regs1 left (op v) q.keeps (λ p. does r a f p regs1 left callers ∙ ap (λ o. put r (and_then o op) (state_at f p regs1 left callers)) q.value)))

  pub taken : (f : ℕ) (callers : List Frame) (r a : ℕ) (regs regs1 : Regs) (turns : ℕ) (v : Value) → r < a → Keeps (Below r) regs regs1 → read regs1 a ≡ Gives v → Runs code f callers (one (Take r a)) regs1 turns (ValueAt r regs) (Gives (v, turns))
  taken f callers r a regs regs1 turns v lt k e =
      take_runs f callers r a regs1 turns v (ValueAt r regs) e (record {
        keeps = keeps_write (Below r) regs (cleared regs1 a) r v (below_not r) (keeps_cleared (Below r) regs regs1 a (λ b. absurd (omega arith)) k);
        value = read_write (cleared regs1 a) r v;
      })

  -- a name whose value is that of an operand
  bound_holds : (x : Name) (c : Coded) (sc : Scope) (r : ℕ) (env : Env) (regs regs1 : Regs) (v : Value) → Holds (Below r) sc env regs → OperandAt (Below r) r (at c sc r) regs v regs1 → Holds (Below (r + 1)) ((x, at c sc r) ∷ sc) ((x, v) ∷ env) regs1
  bound_holds x c sc r env regs regs1 v h q =
      let a = at c sc r in
      holds_with (Below (r + 1)) sc env regs1 x a v (below_one r a regs regs1 v q) q.value (holds_more (Below r) (Below (r + 1)) sc env regs1 (more r) (holds_keep (Below r) sc env regs regs1 q.keeps h))

  let_runs : (x : Name) (c c' : Coded) (m m' : Mean) → Good code c m → Good code c' m' → Puts (λ sc r. load c sc r then c'.put ((x, at c sc r) ∷ sc) (r + 1) then one (Take r (r + 1))) (λ env turns. and_then (m env turns) (λ w. m' ((x, w.0) ∷ env) w.1))
  let_runs x c c' m m' g g' = λ f callers sc r env regs turns h.
      let a = at c sc r in
      runs_then code f callers (load c sc r) (c'.put ((x, a) ∷ sc) (r + 1) then one (Take r (r + 1))) regs turns (OperandAt (Below r) r a regs) (ValueAt r regs) (m env turns) (λ v left. m' ((x, v) ∷ env) left) (operand c m g f callers sc r env regs turns h)
      (λ v left regs1 q.
      let inner = bound_holds x c sc r env regs regs1 v h q in
      runs_follow code f callers (c'.put ((x, a) ∷ sc) (r + 1)) (one (Take r (r + 1))) regs1 left (ValueAt (r + 1) regs1) (ValueAt r regs) (m' ((x, v) ∷ env) left) (g'.by f callers ((x, a) ∷ sc) (r + 1) ((x, v) ∷ env) regs1 left inner)
      (λ w left' regs2 q'. taken f callers r (r + 1) regs regs2 left' w (omega arith) (keeps_then (Below r) regs regs1 regs2 q.keeps (keeps_less (Below r) (Below (r + 1)) regs1 regs2 (more r) q'.keeps)) q'.value))

  overwriting_let_runs : (x : Name) (c c' : Coded) (m m' : Mean) → Good code c m → Good code c' m' → (f : ℕ) (callers : List Frame) (sc : Scope) (d r : ℕ) (env : Env) (regs : Regs) (turns : ℕ) → d < r → Holds (Below r) sc env regs → Runs code f callers (load c sc r then c'.overwrite ((x, at c sc r) ∷ sc) d (r + 1)) regs turns (OverAt d r regs) (and_then (m env turns) (λ w. m' ((x, w.0) ∷ env) w.1))
  overwriting_let_runs x c c' m m' g g' f callers sc d r env regs turns lt h =
      let a = at c sc r in
      let body = c'.overwrite ((x, a) ∷ sc) d (r + 1) in
      runs_then code f callers (load c sc r) body regs turns (OperandAt (Below r) r a regs) (OverAt d r regs) (m env turns) (λ v left. m' ((x, v) ∷ env) left) (operand c m g f callers sc r env regs turns h)
      (λ v left regs1 q.
      runs_weaken code f callers body regs1 left (OverAt d (r + 1) regs1) (OverAt d r regs) (m' ((x, v) ∷ env) left) (λ w regs2 z. over_after d r (r + 1) regs regs1 regs2 w (omega arith) q.keeps z)
      (g'.over f callers ((x, a) ∷ sc) d (r + 1) ((x, v) ∷ env) regs1 left (omega arith) (bound_holds x c sc r env regs regs1 v h q)))

  pub let_good : (x : Name) (c c' : Coded) (m m' : Mean) → Good code c m → Good code c' m' → Good code (record { put = λ sc r. load c sc r then c'.put ((x, at c sc r) ∷ sc) (r + 1) then one (Take r (r + 1)); overwrite = λ sc d r. load c sc r then c'.overwrite ((x, at c sc r) ∷ sc) d (r + 1); name = None }) (λ env turns. and_then (m env turns) (λ w. m' ((x, w.0) ∷ env) w.1))
  let_good x c c' m m' g g' = record { by = let_runs x c c' m m' g g'; over = overwriting_let_runs x c c' m m' g g'; named = λ y e env turns. absurd cc }

  pub binary_good : (op : BinaryOperator) (c c' : Coded) (m m' : Mean) → Good code c m → Good code c' m' → Good code (to_either (λ sc d r. load c sc r then load c' sc (r + 1) then one (Binary op d (at c sc r) (at c' sc (r + 1))))) (λ env turns. and_then (m env turns) (λ v. and_then (m' env v.1) (λ w. lift (binary op v.0 w.0) w.1)))
  binary_good op c c' m m' g g' = good_either _ _ (λ f callers sc d r env regs turns Q done h.
      let a = at c sc r in
      let b = at c' sc (r + 1) in
      runs_then code f callers (load c sc r) (load c' sc (r + 1) then one (Binary op d a b)) regs turns (OperandAt (Below r) r a regs) Q (m env turns) (λ v left. and_then (m' env left) (λ w. lift (binary op v w.0) w.1)) (operand c m g f callers sc r env regs turns h)
      (λ v left regs1 q.
      let inner = holds_more (Below r) (Below (r + 1)) sc env regs1 (more r) (holds_keep (Below r) sc env regs regs1 q.keeps h) in
      runs_then code f callers (load c' sc (r + 1)) (one (Binary op d a b)) regs1 left (OperandAt (Below (r + 1)) (r + 1) b regs1) Q (m' env left) (λ w left'. lift (binary op v w) left') (operand c' m' g' f callers sc (r + 1) env regs1 left inner)
      (λ w left' regs2 q'.
      let first : read regs2 a ≡ Gives v = q'.keeps.at a (below_one r a regs regs1 v q) ∙ q.value in
      let kept = keeps_then (Below r) regs regs1 regs2 q.keeps (keeps_less (Below r) (Below (r + 1)) regs1 regs2 (more r) q'.keeps) in
      write_value f callers (Binary op d a b) d regs2 left' (binary op v w) Q (λ u. done u regs2 kept)
      (λ p. ap (λ o. put d (and_then o (λ v. and_then (read regs2 b) (binary op v))) (state_at f p regs2 left' callers)) first ∙ ap (λ o. put d (and_then o (binary op v)) (state_at f p regs2 left' callers)) q'.value))))

  pub put_good : (c c' c'' : Coded) (m m' m'' : Mean) → Good code c m → Good code c' m' → Good code c'' m'' → Good code (to_either (λ sc d r. load c sc r then load c' sc (r + 1) then load c'' sc (r + 2) then one (Put d (at c sc r) (at c' sc (r + 1)) (at c'' sc (r + 2))))) (λ env turns. and_then (m env turns) (λ x. and_then (m' env x.1) (λ y. and_then (m'' env y.1) (λ z. lift (maps.put x.0 y.0 z.0) z.1))))
  put_good c c' c'' m m' m'' g g' g'' = good_either _ _ (λ f callers sc t r env regs turns Q done h.
      let a = at c sc r in
      let b = at c' sc (r + 1) in
      let d = at c'' sc (r + 2) in
      let last = one (Put t a b d) in
      let wide = λ (k : ℕ) (lt : k < r). let le : k < r + 2 = omega arith in le in
      runs_then code f callers (load c sc r) (load c' sc (r + 1) then load c'' sc (r + 2) then last) regs turns (OperandAt (Below r) r a regs) Q (m env turns) (λ x left. and_then (m' env left) (λ y. and_then (m'' env y.1) (λ z. lift (maps.put x y.0 z.0) z.1))) (operand c m g f callers sc r env regs turns h)
      (λ x left regs1 q.
      let h1 = holds_keep (Below r) sc env regs regs1 q.keeps h in
      runs_then code f callers (load c' sc (r + 1)) (load c'' sc (r + 2) then last) regs1 left (OperandAt (Below (r + 1)) (r + 1) b regs1) Q (m' env left) (λ y left'. and_then (m'' env left') (λ z. lift (maps.put x y z.0) z.1)) (operand c' m' g' f callers sc (r + 1) env regs1 left (holds_more (Below r) (Below (r + 1)) sc env regs1 (more r) h1))
      (λ y left' regs2 q'.
      let k12 : Keeps (Below r) regs1 regs2 = keeps_less (Below r) (Below (r + 1)) regs1 regs2 (more r) q'.keeps in
      let h2 = holds_more (Below r) (Below (r + 2)) sc env regs2 wide (holds_keep (Below r) sc env regs1 regs2 k12 h1) in
      runs_then code f callers (load c'' sc (r + 2)) last regs2 left' (OperandAt (Below (r + 2)) (r + 2) d regs2) Q (m'' env left') (λ z left''. lift (maps.put x y z) left'') (operand c'' m'' g'' f callers sc (r + 2) env regs2 left' h2)
      (λ z left'' regs3 q''.
      let k13 : Keeps (Below r) regs regs3 = keeps_then (Below r) regs regs2 regs3 (keeps_then (Below r) regs regs1 regs2 q.keeps k12) (keeps_less (Below r) (Below (r + 2)) regs2 regs3 wide q''.keeps) in
      let under : a < r + 1 = below_one r a regs regs1 x q in
      let first : read regs3 a ≡ Gives x = q''.keeps.at a (omega arith) ∙ q'.keeps.at a under ∙ q.value in
      let low : b < r + 1 + 1 = below_one (r + 1) b regs1 regs2 y q' in
      let second : read regs3 b ≡ Gives y = q''.keeps.at b (omega arith) ∙ q'.value in
      write_value f callers (Put t a b d) t regs3 left'' (maps.put x y z) Q (λ u. done u regs3 k13)
      (λ p. ap (λ o. put t (and_then o (λ x. and_then (read regs3 b) (λ y. and_then (read regs3 d) (λ z. maps.put x y z)))) (state_at f p regs3 left'' callers)) first
      ∙ ap (λ o. put t (and_then o (λ y. and_then (read regs3 d) (λ z. maps.put x y z))) (state_at f p regs3 left'' callers)) second
      ∙ ap (λ o. put t (and_then o (λ z. maps.put x y z)) (state_at f p regs3 left'' callers)) q''.value)))))

  pub truth_read : (r : ℕ) (regs : Regs) (v : Value) (t : Bool) → read regs r ≡ Gives v → truth_of v ≡ Gives t → and_then (read regs r) truth_of ≡ Gives t
  truth_read r regs v t e h = ap (λ o. and_then o truth_of) e ∙ h

  pub runs_after : (f : ℕ) (callers : List Frame) (c : Coded) (m : Mean) (sc : Scope) (r : ℕ) (env : Env) (regs regs1 : Regs) (turns : ℕ) → Good code c m → Holds (Below r) sc env regs → Keeps (Below r) regs regs1 → Runs code f callers (c.put sc r) regs1 turns (ValueAt r regs) (m env turns)
  runs_after f callers c m sc r env regs regs1 turns g h k =
      runs_weaken code f callers (c.put sc r) regs1 turns (ValueAt r regs1) (ValueAt r regs) (m env turns) (λ v regs2 q. value_after r regs regs1 regs2 v k q) (g.by f callers sc r env regs1 turns (holds_keep (Below r) sc env regs regs1 k h))

  abbrev if_side : Mean → Mean → Env → Bool → Run Value
  if_side ma mb env t = if t then ma env else mb env

  -- the truth of an operand, and what follows
  truth_then : (f : ℕ) (callers : List Frame) (b : Block) (regs : Regs) (turns : ℕ) (Q : Value → Regs → Type 0) (v : Value) (k : Bool → Run Value) → ((t : Bool) → truth_of v ≡ Gives t → Runs code f callers b regs turns Q (k t turns)) → Runs code f callers b regs turns Q (and_then (lift (truth_of v) turns) (λ t. k t.0 t.1))
  truth_then f callers b regs turns Q v k h = runs_quiet code f callers b regs turns Q (truth_of v) k (truth_quiet v) h

  -- a truth is one after the other
  truth_split : (m : Outcome (Value × ℕ)) (k : Bool → Run Value) → and_then (and_then m (λ w. lift (truth_of w.0) w.1)) (λ t. k t.0 t.1) ≡ and_then m (λ w. and_then (lift (truth_of w.0) w.1) (λ t. k t.0 t.1))
  truth_split (Gives w) k = refl
  truth_split (Faults why) k = refl
  truth_split Stuck k = refl

  over_later : (f : ℕ) (callers : List Frame) (c : Coded) (m : Mean) (sc : Scope) (d r : ℕ) (env : Env) (regs regs1 : Regs) (turns : ℕ) → Good code c m → d < r → Holds (Below r) sc env regs → Keeps (Below r) regs regs1 → Runs code f callers (c.overwrite sc d r) regs1 turns (OverAt d r regs) (m env turns)
  over_later f callers c m sc d r env regs regs1 turns g lt h k =
      runs_weaken code f callers (c.overwrite sc d r) regs1 turns (OverAt d r regs1) (OverAt d r regs) (m env turns) (λ v regs2 q. over_after d r r regs regs1 regs2 v (omega arith) k q) (g.over f callers sc d r env regs1 turns lt (holds_keep (Below r) sc env regs regs1 k h))

  if_runs : (c : Coded) (m ma mb : Mean) → Good code c m → (f : ℕ) (callers : List Frame) (sc : Scope) (r : ℕ) (env : Env) (regs : Regs) (turns : ℕ) (ba bb : Block) (Q : Value → Regs → Type 0) → ((regs1 : Regs) (left : ℕ) → Keeps (Below r) regs regs1 → Runs code f callers ba regs1 left Q (ma env left)) → ((regs1 : Regs) (left : ℕ) → Keeps (Below r) regs regs1 → Runs code f callers bb regs1 left Q (mb env left)) → Holds (Below r) sc env regs → Runs code f callers (load c sc r then choice (at c sc r) ba bb) regs turns Q ((truth m env >>= if_side ma mb env) turns)
  if_runs c m ma mb g f callers sc r env regs turns ba bb Q runs_a runs_b h =
      let q0 = at c sc r in
      let both = choice q0 ba bb in
      subst (Runs code f callers (load c sc r then both) regs turns Q) (sym (truth_split (m env turns) (if_side ma mb env)))
      (runs_then code f callers (load c sc r) both regs turns (OperandAt (Below r) r q0 regs) Q (m env turns) (λ v left. and_then (lift (truth_of v) left) (λ t. if_side ma mb env t.0 t.1)) (operand c m g f callers sc r env regs turns h)
      (λ v left regs1 q. truth_then f callers both regs1 left Q v (if_side ma mb env)
      (λ t e. runs_choice code f callers q0 ba bb regs1 left Q (λ t. if_side ma mb env t left) t (truth_read q0 regs1 v t q.value e) (runs_a regs1 left q.keeps) (runs_b regs1 left q.keeps))))

  pub if_good : (c a b : Coded) (m ma mb : Mean) → Good code c m → Good code a ma → Good code b mb → Good code (record { put = λ sc r. load c sc r then choice (at c sc r) (a.put sc r) (b.put sc r); overwrite = λ sc d r. load c sc r then choice (at c sc r) (a.overwrite sc d r) (b.overwrite sc d r); name = None }) (λ env. truth m env >>= if_side ma mb env)
  if_good c a b m ma mb g ga gb = record {
    by = λ f callers sc r env regs turns h. if_runs c m ma mb g f callers sc r env regs turns (a.put sc r) (b.put sc r) (ValueAt r regs)
        (λ regs1 left k. runs_after f callers a ma sc r env regs regs1 left ga h k) (λ regs1 left k. runs_after f callers b mb sc r env regs regs1 left gb h k) h;
    over = λ f callers sc d r env regs turns lt h. if_runs c m ma mb g f callers sc r env regs turns (a.overwrite sc d r) (b.overwrite sc d r) (OverAt d r regs)
        (λ regs1 left k. over_later f callers a ma sc d r env regs regs1 left ga lt h k) (λ regs1 left k. over_later f callers b mb sc d r env regs regs1 left gb lt h k) h;
    named = λ x e env turns. absurd cc;
  }

  -- a truth that is in its register already
  truth_stays : (f : ℕ) (callers : List Frame) (r : ℕ) (regs regs1 : Regs) (turns : ℕ) (v : Value) (o : Outcome Bool) → truth_of v ≡ o → IsQuiet o → ValueAt r regs v regs1 → Runs code f callers nothing regs1 turns (ValueAt r regs) (and_then (lift o turns) (λ u. Gives (bool u.0, u.1)))
  truth_stays f callers r regs regs1 turns v (Gives t) e quiet q = runs_nothing code f callers regs1 turns (ValueAt r regs) (bool t) (subst (λ w. ValueAt r regs w regs1) (truth_is v t e) q)
  truth_stays f callers r regs regs1 turns v (Faults why) e quiet q = absurd quiet
  truth_stays f callers r regs regs1 turns v Stuck e quiet q = runs_stuck code f callers nothing regs1 turns (ValueAt r regs)

  -- the second truth
  second : (b : Coded) (mb : Mean) → Good code b mb → (f : ℕ) (callers : List Frame) (sc : Scope) (r : ℕ) (env : Env) (regs regs1 : Regs) (turns : ℕ) → Holds (Below r) sc env regs → Keeps (Below r) regs regs1 → Runs code f callers (b.put sc r) regs1 turns (ValueAt r regs) ((truth mb env >>= (λ u. pure (bool u))) turns)
  second b mb gb f callers sc r env regs regs1 turns h k =
      subst (Runs code f callers (b.put sc r) regs1 turns (ValueAt r regs)) (sym (truth_split (mb env turns) (λ u. pure (bool u))))
      (runs_sure code f callers (b.put sc r) regs1 turns (ValueAt r regs) (ValueAt r regs) (mb env turns) (λ w left. and_then (lift (truth_of w) left) (λ u. Gives (bool u.0, u.1))) (runs_after f callers b mb sc r env regs regs1 turns gb h k)
      (λ w left' regs2 q'. truth_stays f callers r regs regs2 left' w (truth_of w) refl (truth_quiet w) q'))

  abbrev and_side : Mean → Env → Bool → Run Value
  and_side mb env t = if t then (truth mb env >>= (λ u. pure (bool u))) else pure (bool false)

  pub and_good : (a b : Coded) (ma mb : Mean) → Good code a ma → Good code b mb → Good code (no_name (λ sc r. a.put sc r then where_true r (b.put sc r))) (λ env. truth ma env >>= and_side mb env)
  and_good a b ma mb ga gb = good_put _ _ (λ f callers sc r env regs turns h.
      let last = where_true r (b.put sc r) in
      subst (Runs code f callers (a.put sc r then last) regs turns (ValueAt r regs)) (sym (truth_split (ma env turns) (and_side mb env)))
      (runs_then code f callers (a.put sc r) last regs turns (ValueAt r regs) (ValueAt r regs) (ma env turns) (λ v left. and_then (lift (truth_of v) left) (λ t. and_side mb env t.0 t.1)) (ga.by f callers sc r env regs turns h)
      (λ v left regs1 q. truth_then f callers last regs1 left (ValueAt r regs) v (and_side mb env)
      (λ t e. runs_where code f callers r (b.put sc r) regs1 left (ValueAt r regs) (λ t. and_side mb env t left) t (truth_read r regs1 v t q.value e)
      (λ yes. second b mb gb f callers sc r env regs regs1 left h q.keeps)
      (λ else_. runs_nothing code f callers regs1 left (ValueAt r regs) (bool false) (subst (λ w. ValueAt r regs w regs1) (truth_is v false (e ∙ ap Gives else_)) q))))))

  abbrev or_side : Mean → Env → Bool → Run Value
  or_side mb env t = if t then pure (bool true) else (truth mb env >>= (λ u. pure (bool u)))

  or_by : (b : Coded) (mb : Mean) → Good code b mb → (f : ℕ) (callers : List Frame) (sc : Scope) (r : ℕ) (env : Env) (regs regs1 : Regs) (turns : ℕ) (v : Value) (t : Bool) → Holds (Below r) sc env regs → ValueAt r regs v regs1 → truth_of v ≡ Gives t → Runs code f callers (choice r nothing (b.put sc r)) regs1 turns (ValueAt r regs) (or_side mb env t turns)
  or_by b mb gb f callers sc r env regs regs1 turns v true h q e =
      runs_choice code f callers r nothing (b.put sc r) regs1 turns (ValueAt r regs) (λ t. (if t then pure (bool true) else λ n. Stuck) turns) true (truth_read r regs1 v true q.value e)
      (runs_nothing code f callers regs1 turns (ValueAt r regs) (bool true) (subst (λ w. ValueAt r regs w regs1) (truth_is v true e) q))
      (runs_stuck code f callers (b.put sc r) regs1 turns (ValueAt r regs))
  or_by b mb gb f callers sc r env regs regs1 turns v false h q e =
      runs_choice code f callers r nothing (b.put sc r) regs1 turns (ValueAt r regs) (λ t. (if t then (λ n. Stuck) else (truth mb env >>= (λ u. pure (bool u)))) turns) false (truth_read r regs1 v false q.value e)
      (runs_stuck code f callers nothing regs1 turns (ValueAt r regs))
      (second b mb gb f callers sc r env regs regs1 turns h q.keeps)

  pub or_good : (a b : Coded) (ma mb : Mean) → Good code a ma → Good code b mb → Good code (no_name (λ sc r. a.put sc r then choice r nothing (b.put sc r))) (λ env. truth ma env >>= or_side mb env)
  or_good a b ma mb ga gb = good_put _ _ (λ f callers sc r env regs turns h.
      let last = choice r nothing (b.put sc r) in
      subst (Runs code f callers (a.put sc r then last) regs turns (ValueAt r regs)) (sym (truth_split (ma env turns) (or_side mb env)))
      (runs_then code f callers (a.put sc r) last regs turns (ValueAt r regs) (ValueAt r regs) (ma env turns) (λ v left. and_then (lift (truth_of v) left) (λ t. or_side mb env t.0 t.1)) (ga.by f callers sc r env regs turns h)
      (λ v left regs1 q. truth_then f callers last regs1 left (ValueAt r regs) v (or_side mb env)
      (λ t e. or_by b mb gb f callers sc r env regs regs1 left v t h q e))))
