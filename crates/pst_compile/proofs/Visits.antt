-- The code of comprehensions and folds.
use Rattle.std.proofs.Common.{◌≡◌, ℕ, zero, suc, ◌+◌, ◌<◌, List, [], ◌∷◌, length, refl, sym, ap, ◌∙◌, subst, arith}
use Rattle.std.specs.Prelude.{Bool, if◌then◌else◌, pos}
use Rattle.pst_model.specs.Parts.{Name}
use Rattle.pst_model.specs.declared.expr.Clause.{Clause-F}
use Rattle.pst_value.specs.declared.value.Value.{Value}
use Rattle.pst_eval.specs.Meaning.{Env, Mean, Part, Run, ◌>>=◌, lift, pure, visit, visit_each, comprehension, fold_over}
use Rattle.pst_operators.specs.Operators.{truth_of, items_of, append, int, list}
use Rattle.pst_operators.specs.Outcome.{Outcome, Gives, Faults, Stuck, and_then, turn}
use Rattle.pst_machine.specs.declared.code.Instr.TheVariants.{Const, Take, Append}
use Rattle.pst_machine.specs.declared.code.FunCode.{FunCode}
use Rattle.pst_machine.specs.declared.machine.Frame.{Frame}
use Rattle.pst_machine.specs.Machine.{Regs, read, write, put}
use Rattle.pst_compile.specs.Code.{Block, one, ◌then◌, where_true, each, Scope, Coded, CodedPart, load, at, visit_code, no_name}
use Rattle.pst_compile.proofs.Regs.{read_write, read_other}
use Rattle.pst_compile.proofs.Shapes.{truth_quiet, items_quiet, items_is, items_list}
use Rattle.pst_compile.proofs.Steps.{state_at, one_step, before, there, obeys, Runs, runs_weaken, runs_then, runs_follow, runs_put, Written}
use Rattle.pst_compile.proofs.Rules.{runs_quiet, runs_nothing, runs_where, runs_each}
use Rattle.pst_compile.proofs.Good.{Below, But, Keeps, keeps_all, keeps_then, keeps_less, keeps_write, Holds, holds_keep, holds_more, holds_with, ValueAt, OverAt, OperandAt, Low, IsHere, IsOwn, below_one, Good, operand_runs}
use Rattle.pst_compile.proofs.Forms.{truth_read, taken, good_put, operand, more}

module _ (code : List FunCode) where
  abbrev pub PartGood : CodedPart → Part → Type 0
  PartGood (Clause-F.In x c) (Clause-F.In y m) = (x ≡ y) × Good code c m
  PartGood (Clause-F.In x c) (Clause-F.When m) = ⊥
  PartGood (Clause-F.When c) (Clause-F.In y m) = ⊥
  PartGood (Clause-F.When c) (Clause-F.When m) = Good code c m

  abbrev pub PartsGood : List CodedPart → List Part → Type 0
  PartsGood [] [] = Unit {0}
  PartsGood [] (m ∷ ms) = ⊥
  PartsGood (c ∷ cs) [] = ⊥
  PartsGood (c ∷ cs) (m ∷ ms) = PartGood c m × PartsGood cs ms

  -- the list is in its register, and the others below r are as they were
  pub record BuiltAt (built r : ℕ) (regs : Regs) (vs : List Value) (regs' : Regs) : Type 0 where
    pub keeps : Keeps (But built r) regs regs'
    pub value : read regs' built ≡ Gives (list vs)

  -- a constant, and what follows
  runs_const : {A : Type 0} (f : ℕ) (callers : List Frame) (d : ℕ) (v : Value) (b : Block) (regs : Regs) (turns : ℕ) (Q : A → Regs → Type 0) (m : Outcome (A × ℕ)) → Runs code f callers b (write regs d v) turns Q m → Runs code f callers (one (Const d v) then b) regs turns Q m
  runs_const f callers d v b regs turns Q m h = record {
    at = λ p has.
        let e : p + 1 + length (b (p + 1)) ≡ p + length ((one (Const d v) then b) p) = omega arith in
        there code f callers _ _ _ Q m e (before code f callers _ (state_at f (p + 1) (write regs d v) turns callers) _ Q m (one_step code _ _ (obeys code f callers p regs turns (Const d v) has.0)) (h.at (p + 1) has.1));
  }

  -- the list of an appending instruction
  runs_list : (f : ℕ) (callers : List Frame) (b : Block) (regs : Regs) (turns : ℕ) (Q : Value → Regs → Type 0) (o : Outcome (List Value)) → Runs code f callers b regs turns Q (lift (and_then o (λ ws. Gives (list ws))) turns) → Runs code f callers b regs turns (λ ws regs'. Q (list ws) regs') (lift o turns)
  runs_list f callers b regs turns Q (Gives ws) h = record { at = h.at }
  runs_list f callers b regs turns Q (Faults why) h = record { at = h.at }
  runs_list f callers b regs turns Q Stuck h = record { at = h.at }

  built_written : (built r : ℕ) (regs regs1 regs2 : Regs) (ws : List Value) → Keeps (But built r) regs regs1 → regs2 ≡ write regs1 built (list ws) → BuiltAt built r regs ws regs2
  built_written built r regs regs1 regs2 ws k e =
      subst (BuiltAt built r regs ws) (sym e) (record { keeps = keeps_write (But built r) regs regs1 built (list ws) (λ h. h.1 refl) k; value = read_write regs1 built (list ws) })

  append_runs : (f : ℕ) (callers : List Frame) (built r a : ℕ) (regs regs1 : Regs) (turns : ℕ) (vs : List Value) (v : Value) → Keeps (But built r) regs regs1 → read regs1 built ≡ Gives (list vs) → read regs1 a ≡ Gives v → Runs code f callers (one (Append built a)) regs1 turns (BuiltAt built r regs) (lift (append vs v) turns)
  append_runs f callers built r a regs regs1 turns vs v k eb ev =
      runs_weaken code f callers (one (Append built a)) regs1 turns (λ ws regs2. Written code f callers regs1 built (list ws) regs2) (BuiltAt built r regs) (lift (append vs v) turns)
      (λ ws regs2 w. built_written built r regs regs1 regs2 ws k w)
      (runs_list f callers (one (Append built a)) regs1 turns (Written code f callers regs1 built) (append vs v)
      (runs_put code f callers (Append built a) regs1 turns built (and_then (append vs v) (λ ws. Gives (list ws)))
      (λ p. ap (λ o. put built (and_then o (λ v. and_then (and_then (read regs1 built) items_of) (λ vs. and_then (append vs v) (λ ws. Gives (list ws))))) (state_at f p regs1 turns callers)) ev
      ∙ ap (λ o. put built (and_then (and_then o items_of) (λ vs. and_then (append vs v) (λ ws. Gives (list ws)))) (state_at f p regs1 turns callers)) eb
      ∙ ap (λ o. put built (and_then o (λ vs. and_then (append vs v) (λ ws. Gives (list ws)))) (state_at f p regs1 turns callers)) (items_list vs))))

  each_more : (rest : Env → List Value → Run (List Value)) (x : Name) (env : Env) (v : Value) (vs built : List Value) (left : ℕ) → visit_each rest x env (v ∷ vs) built left ≡ and_then (turn left) (λ u. and_then (rest ((x, v) ∷ env) built u.1) (λ r. visit_each rest x env vs r.0 r.1))
  each_more rest x env v vs built zero = refl
  each_more rest x env v vs built (suc left) = refl

  fold_more : (m : Mean) (x acc : Name) (env : Env) (v : Value) (vs : List Value) (built : Value) (left : ℕ) → fold_over m x acc env (v ∷ vs) built left ≡ and_then (turn left) (λ u. and_then (m ((acc, built) ∷ (x, v) ∷ env) u.1) (λ r. fold_over m x acc env vs r.0 r.1))
  fold_more m x acc env v vs built zero = refl
  fold_more m x acc env v vs built (suc left) = refl

  items_read : (r : ℕ) (regs : Regs) (v : Value) (vs : List Value) → read regs r ≡ Gives v → items_of v ≡ Gives vs → read regs r ≡ Gives (list vs)
  items_read r regs v vs e h = e ∙ ap Gives (items_is v vs h)

  built_after : (built r : ℕ) (regs regs1 regs2 : Regs) (vs : List Value) → Keeps (But built r) regs regs1 → BuiltAt built r regs1 vs regs2 → BuiltAt built r regs vs regs2
  built_after built r regs regs1 regs2 vs k q = record { keeps = keeps_then (But built r) regs regs1 regs2 k q.keeps; value = q.value }

  low_but : (built r a : ℕ) → Low (But built r) r a → a < r + 1
  low_but built r a (IsHere e) = omega (arith, e)
  low_but built r a (IsOwn h) = let u = h.0 in omega (arith, u)

  low_wide : (built r a : ℕ) → built < r → Low (But built r) r a → But built (r + 3) a
  low_wide built r a lt (IsHere e) = (omega (arith, e), λ z. absurd (omega (arith, e, z, lt)))
  low_wide built r a lt (IsOwn h) = let u = h.0 in (omega (arith, u), h.1)

  visit_runs : (cs : List CodedPart) (ms : List Part) → PartsGood cs ms → (cb : Coded) (mb : Mean) → Good code cb mb → (f : ℕ) (callers : List Frame) (built : ℕ) (sc : Scope) (r : ℕ) (env : Env) (regs : Regs) (turns : ℕ) (vs : List Value) → built < r → Holds (But built r) sc env regs → read regs built ≡ Gives (list vs) → Runs code f callers (visit_code cs cb built sc r) regs turns (BuiltAt built r regs) (visit ms mb env vs turns)
  visit_runs [] [] g cb mb gb f callers built sc r env regs turns vs lt h eb =
      let a = at cb sc r in
      runs_then code f callers (load cb sc r) (one (Append built a)) regs turns (OperandAt (But built r) r a regs) (BuiltAt built r regs) (mb env turns) (λ v. lift (append vs v)) (operand_runs code cb mb gb (But built r) f callers sc r env regs turns (λ k b. b.0) h)
      (λ v left regs1 q. append_runs f callers built r a regs regs1 left vs v (keeps_less (But built r) (Below r) regs regs1 (λ k b. b.0) q.keeps) (q.keeps.at built lt ∙ eb) q.value)
  visit_runs [] (m ∷ ms) g cb mb gb f callers built sc r env regs turns vs lt h eb = absurd g
  visit_runs (c ∷ cs) [] g cb mb gb f callers built sc r env regs turns vs lt h eb = absurd g
  visit_runs (Clause-F.In x c ∷ cs) (Clause-F.When m ∷ ms) g cb mb gb f callers built sc r env regs turns vs lt h eb = absurd g.0
  visit_runs (Clause-F.When c ∷ cs) (Clause-F.In y m ∷ ms) g cb mb gb f callers built sc r env regs turns vs lt h eb = absurd g.0
  visit_runs (Clause-F.When c ∷ cs) (Clause-F.When m ∷ ms) g cb mb gb f callers built sc r env regs turns vs lt h eb =
      let next = visit_code cs cb built sc r in
      let side = λ (t : Bool). let run : Run (List Value) = (if t then visit ms mb env vs else pure vs) in run in
      let a = at c sc r in
      runs_then code f callers (load c sc r) (where_true a next) regs turns (OperandAt (But built r) r a regs) (BuiltAt built r regs) (m env turns) (λ v. lift (truth_of v) >>= side) (operand_runs code c m g.0 (But built r) f callers sc r env regs turns (λ k b. b.0) h)
      (λ v left regs1 q.
      let k = keeps_less (But built r) (Below r) regs regs1 (λ k b. b.0) q.keeps in
      let eb1 : read regs1 built ≡ Gives (list vs) = q.keeps.at built lt ∙ eb in
      runs_quiet code f callers (where_true a next) regs1 left (BuiltAt built r regs) (truth_of v) side (truth_quiet v)
      (λ t e. runs_where code f callers a next regs1 left (BuiltAt built r regs) (λ t. side t left) t (truth_read code a regs1 v t q.value e)
      (λ yes. runs_weaken code f callers next regs1 left (BuiltAt built r regs1) (BuiltAt built r regs) (visit ms mb env vs left) (λ ws regs2 w. built_after built r regs regs1 regs2 ws k w)
      (visit_runs cs ms g.1 cb mb gb f callers built sc r env regs1 left vs lt (holds_keep (But built r) sc env regs regs1 k h) eb1))
      (λ else_. runs_nothing code f callers regs1 left (BuiltAt built r regs) vs (record { keeps = k; value = eb1 }))))
  visit_runs (Clause-F.In x c ∷ cs) (Clause-F.In y m ∷ ms) g cb mb gb f callers built sc r env regs turns vs lt h eb =
      let next = visit_code cs cb built ((x, r + 2) ∷ sc) (r + 3) in
      let a = at c sc r in
      let loop = each (r + 2) a (r + 1) next in
      let st = λ (v : Value) (ws : List Value). visit ms mb ((y, v) ∷ env) ws in
      runs_then code f callers (load c sc r) (one (Const (r + 1) (int (pos 0))) then loop) regs turns (OperandAt (But built r) r a regs) (BuiltAt built r regs) (m env turns) (λ v. lift (items_of v) >>= (λ items. visit_each (visit ms mb) y env items vs)) (operand_runs code c m g.0.1 (But built r) f callers sc r env regs turns (λ k b. b.0) h)
      (λ v left regs1 q.
      let k = keeps_less (But built r) (Below r) regs regs1 (λ k b. b.0) q.keeps in
      let eb1 : read regs1 built ≡ Gives (list vs) = q.keeps.at built lt ∙ eb in
      let under : a < r + 1 = low_but built r a q.low in
      let wider : But built (r + 3) a = low_wide built r a lt q.low in
      runs_quiet code f callers (one (Const (r + 1) (int (pos 0))) then loop) regs1 left (BuiltAt built r regs) (items_of v) (λ items. visit_each (visit ms mb) y env items vs) (items_quiet v)
      (λ items e.
      let regs2 = write regs1 (r + 1) (int (pos 0)) in
      let k2 : Keeps (But built r) regs regs2 = keeps_write (But built r) regs regs1 (r + 1) (int (pos 0)) (λ b. let u = b.0 in absurd (omega arith)) k in
      let eb2 : read regs2 built ≡ Gives (list vs) = read_other regs1 (r + 1) (int (pos 0)) built (λ e. absurd (omega arith)) ∙ eb1 in
      let ha2 : read regs2 a ≡ Gives (list items) = read_other regs1 (r + 1) (int (pos 0)) a (λ e. absurd (omega arith)) ∙ items_read a regs1 v items q.value e in
      let hi2 : read regs2 (r + 1) ≡ Gives (int (pos 0)) = read_write regs1 (r + 1) (int (pos 0)) in
      runs_const f callers (r + 1) (int (pos 0)) loop regs1 left (BuiltAt built r regs) (visit_each (visit ms mb) y env items vs left)
      (runs_each code f callers (r + 2) a (r + 1) next items (BuiltAt built r regs) st (visit_each (visit ms mb) y env)
      (record {
        apart_ai = λ e. absurd (omega arith);
        apart_ad = λ e. absurd (omega arith);
        apart_id = λ e. absurd (omega arith);
        none = λ b left. refl;
        more = λ v vs b left. each_more (visit ms mb) y env v vs b left;
        writes = λ b regs3 n w i. record {
          keeps = keeps_write (But built r) regs (write regs3 (r + 1) n) (r + 2) w (λ b. let u = b.0 in absurd (omega arith)) (keeps_write (But built r) regs regs3 (r + 1) n (λ b. let u = b.0 in absurd (omega arith)) i.keeps);
          value = read_other (write regs3 (r + 1) n) (r + 2) w built (λ e. absurd (omega arith)) ∙ read_other regs3 (r + 1) n built (λ e. absurd (omega arith)) ∙ i.value;
        };
        turn = λ w ws left regs3 n i ha hi hd.
            let wide = λ (k : ℕ) (b : But built r k). let u = b.0 in let le : k < r + 3 = omega arith in let both : But built (r + 3) k = (le, b.1) in both in
            let outer = holds_more (But built r) (But built (r + 3)) sc env regs3 wide (holds_keep (But built r) sc env regs regs3 i.keeps h) in
            let here : But built (r + 3) (r + 2) = (omega arith, λ e. absurd (omega arith)) in
            let inner = subst (λ z. Holds (But built (r + 3)) ((x, r + 2) ∷ sc) ((z, w) ∷ env) regs3) g.0.0 (holds_with (But built (r + 3)) sc env regs3 x (r + 2) w here hd outer) in
            runs_weaken code f callers next regs3 left (BuiltAt built (r + 3) regs3) _ (st w ws left)
            (λ us regs4 z. (
              record { keeps = keeps_then (But built r) regs regs3 regs4 i.keeps (keeps_less (But built r) (But built (r + 3)) regs3 regs4 wide z.keeps); value = z.value },
              z.keeps.at a wider ∙ ha,
              z.keeps.at (r + 1) (omega arith, λ e. absurd (omega arith)) ∙ hi,
            ))
            (visit_runs cs ms g.1 cb mb gb f callers built ((x, r + 2) ∷ sc) (r + 3) ((y, w) ∷ env) regs3 left ws (omega arith) inner i.value);
      }) regs2 left vs (record { keeps = k2; value = eb2 }) ha2 hi2)))

  runs_list_of : (f : ℕ) (callers : List Frame) (b : Block) (regs : Regs) (turns : ℕ) (Q : List Value → Regs → Type 0) (Q' : Value → Regs → Type 0) (m : Outcome (List Value × ℕ)) → ((vs : List Value) (regs' : Regs) → Q vs regs' → Q' (list vs) regs') → Runs code f callers b regs turns Q m → Runs code f callers b regs turns Q' (and_then m (λ r. Gives (list r.0, r.1)))
  runs_list_of f callers b regs turns Q Q' (Gives r) w h = record { at = λ p has. let x = h.at p has in (x.0, w r.0 x.0 x.1, x.2) }
  runs_list_of f callers b regs turns Q Q' (Faults why) w h = record { at = h.at }
  runs_list_of f callers b regs turns Q Q' Stuck w h = record { at = h.at }

  pub for_good : (cs : List CodedPart) (ms : List Part) (cb : Coded) (mb : Mean) → PartsGood cs ms → Good code cb mb → Good code (no_name (λ sc r. one (Const r (list [])) then visit_code cs cb r sc (r + 1))) (comprehension ms mb)
  for_good cs ms cb mb g gb = good_put code _ _ (λ f callers sc r env regs turns h.
      let regs1 = write regs r (list []) in
      let next = visit_code cs cb r sc (r + 1) in
      let k : Keeps (Below r) regs regs1 = keeps_write (Below r) regs regs r (list []) (λ b. absurd (omega arith)) (keeps_all (Below r) regs) in
      let wide = λ (k : ℕ) (b : k < r). let both : But r (r + 1) k = (omega arith, λ e. absurd (omega arith)) in both in
      runs_const f callers r (list []) next regs turns (ValueAt r regs) (comprehension ms mb env turns)
      (runs_list_of f callers next regs1 turns (BuiltAt r (r + 1) regs1) (ValueAt r regs) (visit ms mb env [] turns)
      (λ vs regs2 q. record { keeps = keeps_then (Below r) regs regs1 regs2 k (keeps_less (Below r) (But r (r + 1)) regs1 regs2 wide q.keeps); value = q.value })
      (visit_runs cs ms g cb mb gb f callers r sc (r + 1) env regs1 turns [] (omega arith) (holds_more (Below r) (But r (r + 1)) sc env regs1 wide (holds_keep (Below r) sc env regs regs1 k h)) (read_write regs r (list [])))))

  -- what a fold has built is in register r + 1
  record FoldAt (r : ℕ) (regs : Regs) (v : Value) (regs' : Regs) : Type 0 where
    keeps : Keeps (Below r) regs regs'
    value : read regs' (r + 1) ≡ Gives v

  fold_turn : (x acc : Name) (cb : Coded) (mb : Mean) → Good code cb mb → (f : ℕ) (callers : List Frame) (sc : Scope) (r a : ℕ) → a < r + 1 → (env : Env) (regs : Regs) → Holds (Below r) sc env regs → (items : List Value) (w b : Value) (left : ℕ) (regs3 : Regs) (n : ℕ) → FoldAt r regs b regs3 → read regs3 a ≡ Gives (list items) → read regs3 (r + 2) ≡ Gives (int (pos n)) → read regs3 (r + 3) ≡ Gives w → Runs code f callers (cb.overwrite ((acc, r + 1) ∷ (x, r + 3) ∷ sc) (r + 1) (r + 4)) regs3 left (λ b' regs'. FoldAt r regs b' regs' × (read regs' a ≡ Gives (list items)) × (read regs' (r + 2) ≡ Gives (int (pos n)))) (mb ((acc, b) ∷ (x, w) ∷ env) left)
  fold_turn x acc cb mb gb f callers sc r a under env regs h items w b left regs3 n i ha hi hd =
      let wide = λ (k : ℕ) (lt : k < r). let le : k < r + 4 = omega arith in le in
      let outer = holds_more (Below r) (Below (r + 4)) sc env regs3 wide (holds_keep (Below r) sc env regs regs3 i.keeps h) in
      let inner = holds_with (Below (r + 4)) ((x, r + 3) ∷ sc) ((x, w) ∷ env) regs3 acc (r + 1) b (omega arith) i.value (holds_with (Below (r + 4)) sc env regs3 x (r + 3) w (omega arith) hd outer) in
      let sc' : Scope = (acc, r + 1) ∷ (x, r + 3) ∷ sc in
      let env' : Env = (acc, b) ∷ (x, w) ∷ env in
      runs_weaken code f callers (cb.overwrite sc' (r + 1) (r + 4)) regs3 left (OverAt (r + 1) (r + 4) regs3) _ (mb env' left)
      (λ v regs4 q. (
        record { keeps = record { at = λ k lt. q.keeps.at k (wide k lt, λ z. absurd (omega arith)) ∙ i.keeps.at k lt }; value = q.value },
        q.keeps.at a (omega arith, λ z. absurd (omega arith)) ∙ ha,
        q.keeps.at (r + 2) (omega arith, λ z. absurd (omega arith)) ∙ hi,
      ))
      (gb.over f callers sc' (r + 1) (r + 4) env' regs3 left (omega arith) inner)

  pub fold_good : (x acc : Name) (c ci cb : Coded) (m mi mb : Mean) → Good code c m → Good code ci mi → Good code cb mb → Good code (no_name (λ sc r. load c sc r then ci.put sc (r + 1) then one (Const (r + 2) (int (pos 0))) then each (r + 3) (at c sc r) (r + 2) (cb.overwrite ((acc, r + 1) ∷ (x, r + 3) ∷ sc) (r + 1) (r + 4)) then one (Take r (r + 1)))) (λ env. m env >>= (λ v. lift (items_of v) >>= (λ vs. mi env >>= fold_over mb x acc env vs)))
  fold_good x acc c ci cb m mi mb g gi gb = good_put code _ _ (λ f callers sc r env regs turns h.
      let a = at c sc r in
      let body = cb.overwrite ((acc, r + 1) ∷ (x, r + 3) ∷ sc) (r + 1) (r + 4) in
      let last = each (r + 3) a (r + 2) body then one (Take r (r + 1)) in
      let looping = one (Const (r + 2) (int (pos 0))) then last in
      runs_then code f callers (load c sc r) (ci.put sc (r + 1) then looping) regs turns (OperandAt (Below r) r a regs) (ValueAt r regs) (m env turns) (λ v. lift (items_of v) >>= (λ vs. mi env >>= fold_over mb x acc env vs)) (operand code c m g f callers sc r env regs turns h)
      (λ v left regs1 q. runs_quiet code f callers (ci.put sc (r + 1) then looping) regs1 left (ValueAt r regs) (items_of v) (λ vs. mi env >>= fold_over mb x acc env vs) (items_quiet v)
      (λ items e.
      let under : a < r + 1 = below_one r a regs regs1 v q in
      let h1 = holds_keep (Below r) sc env regs regs1 q.keeps h in
      runs_then code f callers (ci.put sc (r + 1)) looping regs1 left (ValueAt (r + 1) regs1) (ValueAt r regs) (mi env left) (fold_over mb x acc env items) (gi.by f callers sc (r + 1) env regs1 left (holds_more (Below r) (Below (r + 1)) sc env regs1 (more code r) h1))
      (λ w left2 regs2 q2.
      let regs3 = write regs2 (r + 2) (int (pos 0)) in
      let k2 : Keeps (Below r) regs regs2 = keeps_then (Below r) regs regs1 regs2 q.keeps (keeps_less (Below r) (Below (r + 1)) regs1 regs2 (more code r) q2.keeps) in
      let k3 : Keeps (Below r) regs regs3 = keeps_write (Below r) regs regs2 (r + 2) (int (pos 0)) (λ b. absurd (omega arith)) k2 in
      let ha : read regs3 a ≡ Gives (list items) = read_other regs2 (r + 2) (int (pos 0)) a (λ e. absurd (omega arith)) ∙ q2.keeps.at a under ∙ items_read a regs1 v items q.value e in
      let hb : read regs3 (r + 1) ≡ Gives w = read_other regs2 (r + 2) (int (pos 0)) (r + 1) (λ e. absurd (omega arith)) ∙ q2.value in
      runs_const f callers (r + 2) (int (pos 0)) last regs2 left2 (ValueAt r regs) (fold_over mb x acc env items w left2)
      (runs_follow code f callers (each (r + 3) a (r + 2) body) (one (Take r (r + 1))) regs3 left2 (FoldAt r regs) (ValueAt r regs) (fold_over mb x acc env items w left2)
      (runs_each code f callers (r + 3) a (r + 2) body items (FoldAt r regs) (λ v b. mb ((acc, b) ∷ (x, v) ∷ env)) (fold_over mb x acc env)
      (record {
        apart_ai = λ e. absurd (omega arith);
        apart_ad = λ e. absurd (omega arith);
        apart_id = λ e. absurd (omega arith);
        none = λ b left. refl;
        more = λ v vs b left. fold_more mb x acc env v vs b left;
        writes = λ b regs4 n u i. record {
          keeps = keeps_write (Below r) regs (write regs4 (r + 2) n) (r + 3) u (λ b. absurd (omega arith)) (keeps_write (Below r) regs regs4 (r + 2) n (λ b. absurd (omega arith)) i.keeps);
          value = read_other (write regs4 (r + 2) n) (r + 3) u (r + 1) (λ e. absurd (omega arith)) ∙ read_other regs4 (r + 2) n (r + 1) (λ e. absurd (omega arith)) ∙ i.value;
        };
        turn = λ u b left regs4 n i ha hi hd. fold_turn x acc cb mb gb f callers sc r a under env regs h items u b left regs4 n i ha hi hd;
      }) regs3 left2 w (record { keeps = k3; value = hb }) ha (read_write regs2 (r + 2) (int (pos 0))))
      (λ u left3 regs4 i. taken code f callers r (r + 1) regs regs4 left3 u (omega arith) i.keeps i.value))))))
