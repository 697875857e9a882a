-- The code of several expressions, one after another.
use Rattle.std.proofs.Common.{◌≡◌, ℕ, ◌+◌, ◌^◌, List, [], ◌∷◌, ◌++◌, Option, Some, None, refl, sym, ap, ◌∙◌, append_assoc}
use Rattle.std.specs.Prelude.{Bool, true, false, if◌then◌else◌, nat_lt}
use Rattle.pst_value.specs.declared.value.Value.{Value}
use Rattle.pst_eval.specs.Meaning.{Env, Mean, ◌>>=◌, lift, pure, all, all_from, call_of}
use Rattle.pst_operators.specs.Operators.{call}
use Rattle.pst_operators.specs.Outcome.{Gives, Stuck, and_then}
use Rattle.pst_machine.specs.declared.code.Instr.{Instr}
use Rattle.pst_machine.specs.declared.code.Instr.TheVariants.{Call}
use Rattle.pst_machine.specs.declared.code.FunCode.{FunCode}
use Rattle.pst_machine.specs.declared.machine.Frame.{Frame}
use Rattle.pst_machine.specs.Machine.{Regs, read, read_all, put, execute}
use Rattle.pst_compile.specs.Code.{Block, one, ◌then◌, Scope, Coded, load, at, load_all, all_at, call_to, no_name}
use Rattle.pst_compile.proofs.Steps.{state_at, Runs, runs_weaken, runs_then}
use Rattle.pst_compile.proofs.Rules.{runs_stuck, runs_nothing}
use Rattle.pst_compile.proofs.Good.{Below, Keeps, keeps_all, keeps_then, keeps_less, Holds, holds_keep, holds_more, ValueAt, OperandAt, below_one, Good}
use Rattle.pst_compile.proofs.Forms.{put_value, good_put, operand, more}

module _ (code : List FunCode) where
  abbrev pub AllGood : List Coded → List Mean → Type 0
  AllGood [] [] = Unit {0}
  AllGood [] (m ∷ ms) = ⊥
  AllGood (c ∷ cs) [] = ⊥
  AllGood (c ∷ cs) (m ∷ ms) = Good code c m × AllGood cs ms

  -- after those that are done the values are in these registers
  pub record Row (r : ℕ) (rs : List ℕ) (done : List Value) (regs : Regs) (vs : List Value) (regs' : Regs) : Type 0 where
    pub keeps : Keeps (Below r) regs regs'
    pub news : List Value
    pub is : vs ≡ done ++ news
    pub reads : read_all regs' rs ≡ Gives news

  append_nil : (vs : List Value) → vs ≡ vs ++ []
  append_nil [] = refl
  append_nil (v ∷ vs) = ap (λ l. v ∷ l) (append_nil vs)

  read_more : (regs : Regs) (r : ℕ) (rs : List ℕ) (v : Value) (vs : List Value) → read regs r ≡ Gives v → read_all regs rs ≡ Gives vs → read_all regs (r ∷ rs) ≡ Gives (v ∷ vs)
  read_more regs r rs v vs e h = ap (λ o. and_then o (λ v. and_then (read_all regs rs) (λ vs. Gives (v ∷ vs)))) e ∙ ap (λ o. and_then o (λ vs. Gives (v ∷ vs))) h

  pub all_runs : (cs : List Coded) (ms : List Mean) → AllGood cs ms → (done : List Value) (f : ℕ) (callers : List Frame) (sc : Scope) (r : ℕ) (env : Env) (regs : Regs) (turns : ℕ) → Holds (Below r) sc env regs → Runs code f callers (load_all cs sc r) regs turns (Row r (all_at cs sc r) done regs) (all_from done ms env turns)
  all_runs [] [] g done f callers sc r env regs turns h = runs_nothing code f callers regs turns (Row r [] done regs) done (record { keeps = keeps_all (Below r) regs; news = []; is = append_nil done; reads = refl })
  all_runs [] (m ∷ ms) g done f callers sc r env regs turns h = absurd g
  all_runs (c ∷ cs) [] g done f callers sc r env regs turns h = absurd g
  all_runs (c ∷ cs) (m ∷ ms) g done f callers sc r env regs turns h =
      let a = at c sc r in
      let rs = all_at cs sc (r + 1) in
      runs_then code f callers (load c sc r) (load_all cs sc (r + 1)) regs turns (OperandAt (Below r) r a regs) (Row r (a ∷ rs) done regs) (m env turns) (λ v left. all_from (done ++ v ∷ []) ms env left) (operand code c m g.0 f callers sc r env regs turns h)
      (λ v left regs1 q.
      let inner = holds_more (Below r) (Below (r + 1)) sc env regs1 (more code r) (holds_keep (Below r) sc env regs regs1 q.keeps h) in
      runs_weaken code f callers (load_all cs sc (r + 1)) regs1 left (Row (r + 1) rs (done ++ v ∷ []) regs1) (Row r (a ∷ rs) done regs) (all_from (done ++ v ∷ []) ms env left)
      (λ vs regs2 w. record {
        keeps = keeps_then (Below r) regs regs1 regs2 q.keeps (keeps_less (Below r) (Below (r + 1)) regs1 regs2 (more code r) w.keeps);
        news = v ∷ w.news;
        is = w.is ∙ append_assoc done (v ∷ []) w.news;
        reads = read_more regs2 a rs v w.news (w.keeps.at a (below_one r a regs regs1 v q) ∙ q.value) w.reads;
      })
      (all_runs cs ms g.1 (done ++ v ∷ []) f callers sc (r + 1) env regs1 left inner))

  made : (i : ℕ → List ℕ → Instr) (mk : List Value → Value) → ((r : ℕ) (rs : List ℕ) (f p : ℕ) (regs : Regs) (turns : ℕ) (callers : List Frame) → execute code (i r rs) (state_at f p regs turns callers) ≡ put r (and_then (read_all regs rs) (λ vs. Gives (mk vs))) (state_at f p regs turns callers)) → (rs : List ℕ) (f : ℕ) (callers : List Frame) (r : ℕ) (regs regs1 : Regs) (left : ℕ) (vs : List Value) → Row r rs [] regs vs regs1 → Runs code f callers (one (i r rs)) regs1 left (ValueAt r regs) (Gives (mk vs, left))
  made i mk does rs f callers r regs regs1 left vs q =
      put_value code f callers (i r rs) r regs regs1 left (Gives (mk vs)) q.keeps
      (λ p. does r rs f p regs1 left callers ∙ ap (λ o. put r (and_then o (λ vs. Gives (mk vs))) (state_at f p regs1 left callers)) (q.reads ∙ ap Gives (sym q.is)))

  -- an instruction that makes a value of the row
  pub row_good : (cs : List Coded) (ms : List Mean) (i : ℕ → List ℕ → Instr) (mk : List Value → Value) → ((r : ℕ) (rs : List ℕ) (f p : ℕ) (regs : Regs) (turns : ℕ) (callers : List Frame) → execute code (i r rs) (state_at f p regs turns callers) ≡ put r (and_then (read_all regs rs) (λ vs. Gives (mk vs))) (state_at f p regs turns callers)) → AllGood cs ms → Good code (no_name (λ sc r. load_all cs sc r then one (i r (all_at cs sc r)))) (λ env. all ms env >>= (λ vs. pure (mk vs)))
  row_good cs ms i mk does g = good_put code _ _ (λ f callers sc r env regs turns h.
      let rs = all_at cs sc r in
      runs_then code f callers (load_all cs sc r) (one (i r rs)) regs turns (Row r rs [] regs) (ValueAt r regs) (all ms env turns) (λ vs. pure (mk vs)) (all_runs cs ms g [] f callers sc r env regs turns h)
      (λ vs left regs1 q. made i mk does rs f callers r regs regs1 left vs q))

  call_made : (t : Bool) (number : ℕ) (rs : List ℕ) (f : ℕ) (callers : List Frame) (r : ℕ) (regs regs1 : Regs) (left : ℕ) (vs : List Value) (b : Block) → Row r rs [] regs vs regs1 → Runs code f callers (if t then one (Call r number rs) else b) regs1 left (ValueAt r regs) (lift (if t then Gives (call number vs) else Stuck) left)
  call_made true number rs f callers r regs regs1 left vs b q = made (λ r rs. Call r number rs) (call number) (λ r rs f p regs turns callers. refl) rs f callers r regs regs1 left vs q
  call_made false number rs f callers r regs regs1 left vs b q = runs_stuck code f callers b regs1 left (ValueAt r regs)

  call_runs : (n : Option ℕ) (rs : List ℕ) (f : ℕ) (callers : List Frame) (r : ℕ) (regs regs1 : Regs) (left : ℕ) (vs : List Value) → Row r rs [] regs vs regs1 → Runs code f callers (call_to r n rs) regs1 left (ValueAt r regs) (lift (call_of n vs) left)
  call_runs None rs f callers r regs regs1 left vs q = runs_stuck code f callers _ regs1 left (ValueAt r regs)
  call_runs (Some number) rs f callers r regs regs1 left vs q = call_made (nat_lt number (2 ^ 32)) number rs f callers r regs regs1 left vs _ q

  pub call_good : (n : Option ℕ) (cs : List Coded) (ms : List Mean) → AllGood cs ms → Good code (no_name (λ sc r. load_all cs sc r then call_to r n (all_at cs sc r))) (λ env. all ms env >>= (λ vs. lift (call_of n vs)))
  call_good n cs ms g = good_put code _ _ (λ f callers sc r env regs turns h.
      let rs = all_at cs sc r in
      runs_then code f callers (load_all cs sc r) (call_to r n rs) regs turns (Row r rs [] regs) (ValueAt r regs) (all ms env turns) (λ vs. lift (call_of n vs)) (all_runs cs ms g [] f callers sc r env regs turns h)
      (λ vs left regs1 q. call_runs n rs f callers r regs regs1 left vs q))
