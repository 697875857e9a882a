-- How the machine comes from one state to another, and the rules by which blocks are put together.
use Rattle.std.proofs.Common.{◌≡◌, ℕ, suc, ◌+◌, List, [], ◌∷◌, ◌++◌, length, Some, refl, ap, ◌∙◌, subst, arith, length-append}
use Rattle.pst_value.specs.declared.value.Value.{Value}
use Rattle.pst_operators.specs.Outcome.{Outcome, Gives, Faults, Stuck, and_then}
use Rattle.pst_machine.specs.declared.code.Instr.{Instr}
use Rattle.pst_machine.specs.declared.code.FunCode.{FunCode}
use Rattle.pst_machine.specs.declared.machine.Frame.{Frame}
use Rattle.pst_machine.specs.Machine.{Regs, write, State, End, Continues, Halts, continue_with, put, execute, fetch, execute_fetched, step, steps, Ends}
use Rattle.pst_compile.specs.Code.{Block, one, ◌then◌}

abbrev pub state_at : (fun place : ℕ) → Regs → (turns : ℕ) → List Frame → State
state_at fun place regs turns callers = record { fun = fun; place = place; regs = regs; turns = turns; callers = callers }

module _ (code : List FunCode) where
  -- the end of the one is the end of the other
  pub record Comes (s s' : State) : Type 0 where
    pub by : (o : End) → Ends code s' o → Ends code s o

  pub stays : (s : State) → Comes s s
  stays s = record { by = λ o e. e }

  pub comes_on : (a b c : State) → Comes a b → Comes b c → Comes a c
  comes_on a b c h k = record { by = λ o e. h.by o (k.by o e) }

  pub one_step : (s s' : State) → step code s ≡ Continues s' → Comes s s'
  one_step s s' h = record { by = λ o e. record { after = suc e.after; leads = ap (λ n. continue_with n (steps code e.after)) h ∙ e.leads } }

  pub one_halt : (s : State) (o : End) → step code s ≡ Halts o → Ends code s o
  one_halt s o h = record { after = 1; leads = ap (λ n. continue_with n (steps code 0)) h }

  -- the instructions stand in function f at this place
  abbrev pub HasAt : ℕ → ℕ → List Instr → Type 0
  HasAt f p [] = Unit {0}
  HasAt f p (i ∷ is) = (fetch code f p ≡ Some i) × HasAt f (p + 1) is

  pub has_front : (f p : ℕ) (a b : List Instr) → HasAt f p (a ++ b) → HasAt f p a
  has_front f p [] b h = tt
  has_front f p (i ∷ a) b h = (h.0, has_front f (p + 1) a b h.1)

  pub has_back : (f p : ℕ) (a b : List Instr) → HasAt f p (a ++ b) → HasAt f (p + length a) b
  has_back f p [] b h = let e : p ≡ p + 0 = omega arith in subst (λ n. HasAt f n b) e h
  has_back f p (i ∷ a) b h =
      let e : p + 1 + length a ≡ p + length (i ∷ a) = omega arith in
      subst (λ n. HasAt f n b) e (has_back f (p + 1) a b h.1)

  module _ (f : ℕ) (callers : List Frame) where
    -- the machine comes to a place with what is said of the registers, or to the fault
    abbrev pub Reaches : {A : Type 0} → State → ℕ → (A → Regs → Type 0) → Outcome (A × ℕ) → Type 0
    Reaches s q Q (Gives r) = (regs : Regs) × Q r.0 regs × Comes s (state_at f q regs r.1 callers)
    Reaches s q Q (Faults why) = Ends code s (Faults why)
    Reaches s q Q Stuck = Unit {0}

    pub before : {A : Type 0} (s s' : State) (q : ℕ) (Q : A → Regs → Type 0) (m : Outcome (A × ℕ)) → Comes s s' → Reaches s' q Q m → Reaches s q Q m
    before s s' q Q (Gives r) c h = (h.0, h.1, comes_on s s' _ c h.2)
    before s s' q Q (Faults why) c h = c.by _ h
    before s s' q Q Stuck c h = tt

    pub bind : {A B : Type 0} (s : State) (q q' : ℕ) (Q : A → Regs → Type 0) (Q' : B → Regs → Type 0) (m : Outcome (A × ℕ)) (k : A → ℕ → Outcome (B × ℕ)) → Reaches s q Q m → ((a : A) (left : ℕ) (regs : Regs) → Q a regs → Reaches (state_at f q regs left callers) q' Q' (k a left)) → Reaches s q' Q' (and_then m (λ r. k r.0 r.1))
    bind s q q' Q Q' (Gives r) k h g = before s (state_at f q h.0 r.1 callers) q' Q' (k r.0 r.1) h.2 (g r.0 r.1 h.0 h.1)
    bind s q q' Q Q' (Faults why) k h g = h
    bind s q q' Q Q' Stuck k h g = tt

    -- what follows changes no value
    pub follow : {A : Type 0} (s : State) (q q' : ℕ) (Q Q' : A → Regs → Type 0) (m : Outcome (A × ℕ)) → Reaches s q Q m → ((a : A) (left : ℕ) (regs : Regs) → Q a regs → Reaches (state_at f q regs left callers) q' Q' (Gives (a, left))) → Reaches s q' Q' m
    follow s q q' Q Q' (Gives r) h g = before s (state_at f q h.0 r.1 callers) q' Q' (Gives r) h.2 (g r.0 r.1 h.0 h.1)
    follow s q q' Q Q' (Faults why) h g = h
    follow s q q' Q Q' Stuck h g = tt

    pub weaken : {A : Type 0} (s : State) (q : ℕ) (Q Q' : A → Regs → Type 0) (m : Outcome (A × ℕ)) → ((a : A) (regs : Regs) → Q a regs → Q' a regs) → Reaches s q Q m → Reaches s q Q' m
    weaken s q Q Q' (Gives r) w h = (h.0, w r.0 h.0 h.1, h.2)
    weaken s q Q Q' (Faults why) w h = h
    weaken s q Q Q' Stuck w h = tt

    -- a block, wherever it stands
    pub record Runs {A : Type 0} (b : Block) (regs : Regs) (turns : ℕ) (Q : A → Regs → Type 0) (m : Outcome (A × ℕ)) : Type 0 where
      pub at : (p : ℕ) → HasAt f p (b p) → Reaches (state_at f p regs turns callers) (p + length (b p)) Q m

    pub runs_weaken : {A : Type 0} (b : Block) (regs : Regs) (turns : ℕ) (Q Q' : A → Regs → Type 0) (m : Outcome (A × ℕ)) → ((a : A) (regs' : Regs) → Q a regs' → Q' a regs') → Runs b regs turns Q m → Runs b regs turns Q' m
    runs_weaken b regs turns Q Q' m w h = record { at = λ p has. weaken _ _ Q Q' m w (h.at p has) }

    pub there : {A : Type 0} (s : State) (q q' : ℕ) (Q : A → Regs → Type 0) (m : Outcome (A × ℕ)) → q ≡ q' → Reaches s q Q m → Reaches s q' Q m
    there s q q' Q m e h = subst (λ n. Reaches s n Q m) e h

    pub runs_then : {A B : Type 0} (a b : Block) (regs : Regs) (turns : ℕ) (Q : A → Regs → Type 0) (Q' : B → Regs → Type 0) (m : Outcome (A × ℕ)) (k : A → ℕ → Outcome (B × ℕ)) → Runs a regs turns Q m → ((v : A) (left : ℕ) (regs' : Regs) → Q v regs' → Runs b regs' left Q' (k v left)) → Runs (a then b) regs turns Q' (and_then m (λ r. k r.0 r.1))
    runs_then a b regs turns Q Q' m k h g = record {
      at = λ p has.
          let len : p + length (a p) + length (b (p + length (a p))) ≡ p + length ((a then b) p) = omega (arith, length-append (a p) (b (p + length (a p)))) in
          there _ _ _ Q' (and_then m (λ r. k r.0 r.1)) len
          (bind (state_at f p regs turns callers) (p + length (a p)) _ Q Q' m k (h.at p (has_front f p (a p) _ has)) (λ v left regs' q. (g v left regs' q).at (p + length (a p)) (has_back f p (a p) _ has)));
    }

    pub runs_follow : {A : Type 0} (a b : Block) (regs : Regs) (turns : ℕ) (Q Q' : A → Regs → Type 0) (m : Outcome (A × ℕ)) → Runs a regs turns Q m → ((v : A) (left : ℕ) (regs' : Regs) → Q v regs' → Runs b regs' left Q' (Gives (v, left))) → Runs (a then b) regs turns Q' m
    runs_follow a b regs turns Q Q' m h g = record {
      at = λ p has.
          let len : p + length (a p) + length (b (p + length (a p))) ≡ p + length ((a then b) p) = omega (arith, length-append (a p) (b (p + length (a p)))) in
          there _ _ _ Q' m len
          (follow (state_at f p regs turns callers) (p + length (a p)) _ Q Q' m (h.at p (has_front f p (a p) _ has)) (λ v left regs' q. (g v left regs' q).at (p + length (a p)) (has_back f p (a p) _ has)));
    }

    -- one instruction's result
    abbrev pub Written : Regs → ℕ → Value → Regs → Type 0
    Written regs d v regs' = regs' ≡ write regs d v

    pub obeys : (p : ℕ) (regs : Regs) (turns : ℕ) (i : Instr) → fetch code f p ≡ Some i → step code (state_at f p regs turns callers) ≡ execute code i (state_at f p regs turns callers)
    obeys p regs turns i h = ap (λ o. execute_fetched code o (state_at f p regs turns callers)) h

    put_reaches : (p : ℕ) (regs : Regs) (turns d : ℕ) (o : Outcome Value) → step code (state_at f p regs turns callers) ≡ put d o (state_at f p regs turns callers) → Reaches (state_at f p regs turns callers) (p + 1) (Written regs d) (and_then o (λ v. Gives (v, turns)))
    put_reaches p regs turns d (Gives v) h = (write regs d v, refl, one_step _ _ h)
    put_reaches p regs turns d (Faults why) h = one_halt _ _ h
    put_reaches p regs turns d Stuck h = tt

    pub runs_put : (i : Instr) (regs : Regs) (turns d : ℕ) (o : Outcome Value) → ((p : ℕ) → execute code i (state_at f p regs turns callers) ≡ put d o (state_at f p regs turns callers)) → Runs (one i) regs turns (Written regs d) (and_then o (λ v. Gives (v, turns)))
    runs_put i regs turns d o h = record { at = λ p has. put_reaches p regs turns d o (obeys p regs turns i has.0 ∙ h p) }
