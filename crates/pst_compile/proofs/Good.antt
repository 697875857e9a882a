-- What is said of the code of an expression, and of its parts.
use Rattle.std.proofs.Common.{◌≡◌, ℕ, ◌+◌, ◌<◌, ◌≤◌, List, [], ◌∷◌, Option, Some, None, refl, sym, ◌∙◌, subst, arith}
use Rattle.std.specs.Prelude.{Bool, true, false, if◌then◌else◌}
use Rattle.std.specs.Str.{bytes_eq}
use Rattle.pst_model.specs.Parts.{Name}
use Rattle.pst_value.specs.declared.value.Value.{Value}
use Rattle.pst_eval.specs.Meaning.{Env, looked_up, Mean, lift}
use Rattle.pst_operators.specs.Outcome.{Outcome, Gives, Faults, Stuck}
use Rattle.pst_machine.specs.declared.code.FunCode.{FunCode}
use Rattle.pst_machine.specs.declared.machine.Frame.{Frame}
use Rattle.pst_machine.specs.Machine.{Regs, read, write, cleared}
use Rattle.pst_compile.specs.Code.{Scope, find, Coded, own, unless_own, place, load, at}
use Rattle.pst_compile.proofs.Regs.{read_write, read_other, read_cleared}
use Rattle.pst_compile.proofs.Shapes.{IsQuiet}
use Rattle.pst_compile.proofs.Rules.{runs_stuck, runs_nothing}
use Rattle.pst_compile.proofs.Steps.{Runs, runs_weaken}

-- ---- registers that stay

abbrev pub Below : ℕ → ℕ → Type 0
Below r k = k < r

abbrev pub But : ℕ → ℕ → ℕ → Type 0
But built r k = (k < r) × (k ≡ built → ⊥)

pub record Keeps (ok : ℕ → Type 0) (regs regs' : Regs) : Type 0 where
  pub at : (k : ℕ) → ok k → read regs' k ≡ read regs k

pub keeps_all : (ok : ℕ → Type 0) (regs : Regs) → Keeps ok regs regs
keeps_all ok regs = record { at = λ k h. refl }

pub keeps_then : (ok : ℕ → Type 0) (a b c : Regs) → Keeps ok a b → Keeps ok b c → Keeps ok a c
keeps_then ok a b c h k = record { at = λ n o. k.at n o ∙ h.at n o }

pub keeps_less : (ok ok' : ℕ → Type 0) (a b : Regs) → ((k : ℕ) → ok k → ok' k) → Keeps ok' a b → Keeps ok a b
keeps_less ok ok' a b w h = record { at = λ k o. h.at k (w k o) }

pub keeps_write : (ok : ℕ → Type 0) (a b : Regs) (d : ℕ) (v : Value) → (ok d → ⊥) → Keeps ok a b → Keeps ok a (write b d v)
keeps_write ok a b d v out h = record { at = λ k o. read_other b d v k (λ e. out (subst ok e o)) ∙ h.at k o }

pub keeps_cleared : (ok : ℕ → Type 0) (a b : Regs) (d : ℕ) → (ok d → ⊥) → Keeps ok a b → Keeps ok a (cleared b d)
keeps_cleared ok a b d out h = record { at = λ k o. read_cleared b d k (λ e. out (subst ok e o)) ∙ h.at k o }

-- ---- names

-- each name's value is in its register
pub record Holds (ok : ℕ → Type 0) (sc : Scope) (env : Env) (regs : Regs) : Type 0 where
  pub by : (x : Name) (v : Value) → looked_up env x ≡ Gives v → (r : ℕ) × (find sc x ≡ Some r) × ok r × (read regs r ≡ Gives v)

pub holds_keep : (ok : ℕ → Type 0) (sc : Scope) (env : Env) (a b : Regs) → Keeps ok a b → Holds ok sc env a → Holds ok sc env b
holds_keep ok sc env a b k h = record { by = λ x v e. let g = h.by x v e in (g.0, g.1, g.2, k.at g.0 g.2 ∙ g.3) }

pub holds_more : (ok ok' : ℕ → Type 0) (sc : Scope) (env : Env) (regs : Regs) → ((k : ℕ) → ok k → ok' k) → Holds ok sc env regs → Holds ok' sc env regs
holds_more ok ok' sc env regs w h = record { by = λ x v e. let g = h.by x v e in (g.0, g.1, w g.0 g.2, g.3) }

with_name : (ok : ℕ → Type 0) (t : Bool) (o : Outcome Value) (n : Option ℕ) (regs : Regs) (r : ℕ) (v w : Value) → ok r → read regs r ≡ Gives v → (o ≡ Gives w → (k : ℕ) × (n ≡ Some k) × ok k × (read regs k ≡ Gives w)) → (if t then Gives v else o) ≡ Gives w → (k : ℕ) × ((if t then Some r else n) ≡ Some k) × ok k × (read regs k ≡ Gives w)
with_name ok true o n regs r v w k here there e = (r, refl, k, here ∙ e)
with_name ok false o n regs r v w k here there e = there e

pub holds_with : (ok : ℕ → Type 0) (sc : Scope) (env : Env) (regs : Regs) (x : Name) (r : ℕ) (v : Value) → ok r → read regs r ≡ Gives v → Holds ok sc env regs → Holds ok ((x, r) ∷ sc) ((x, v) ∷ env) regs
holds_with ok sc env regs x r v k here h = record { by = λ y w e. with_name ok (bytes_eq x y) (looked_up env y) (find sc y) regs r v w k here (h.by y w) e }

looked_if : (t : Bool) (v : Value) (o : Outcome Value) → IsQuiet o → IsQuiet (if t then Gives v else o)
looked_if true v o h = tt
looked_if false v o h = h

pub looked_quiet : (env : Env) (x : Name) → IsQuiet (looked_up env x)
looked_quiet [] x = tt
looked_quiet (b ∷ env) x = looked_if (bytes_eq b.0 x) b.1 (looked_up env x) (looked_quiet env x)

-- ---- expressions

-- the value is in register r, and those below are as they were
pub record ValueAt (r : ℕ) (regs : Regs) (v : Value) (regs' : Regs) : Type 0 where
  pub keeps : Keeps (Below r) regs regs'
  pub value : read regs' r ≡ Gives v

pub below_not : (r : ℕ) → Below r r → ⊥
below_not r h = absurd (omega arith)

pub value_written : (r : ℕ) (regs regs1 regs2 : Regs) (v : Value) → Keeps (Below r) regs regs1 → regs2 ≡ write regs1 r v → ValueAt r regs v regs2
value_written r regs regs1 regs2 v h e =
    subst (λ g. ValueAt r regs v g) (sym e) (record { keeps = keeps_write (Below r) regs regs1 r v (below_not r) h; value = read_write regs1 r v })

pub value_after : (r : ℕ) (regs regs1 regs2 : Regs) (v : Value) → Keeps (Below r) regs regs1 → ValueAt r regs1 v regs2 → ValueAt r regs v regs2
value_after r regs regs1 regs2 v h q = record { keeps = keeps_then (Below r) regs regs1 regs2 h q.keeps; value = q.value }

-- the value is in register d, and the others below r are as they were
pub record OverAt (d r : ℕ) (regs : Regs) (v : Value) (regs' : Regs) : Type 0 where
  pub keeps : Keeps (But d r) regs regs'
  pub value : read regs' d ≡ Gives v

pub keeps_but : (d r : ℕ) (a b : Regs) → Keeps (Below r) a b → Keeps (But d r) a b
keeps_but d r a b h = keeps_less (But d r) (Below r) a b (λ k o. o.0) h

pub over_written : (d r : ℕ) (regs regs1 : Regs) (v : Value) → Keeps (But d r) regs regs1 → OverAt d r regs v (write regs1 d v)
over_written d r regs regs1 v h = record { keeps = keeps_write (But d r) regs regs1 d v (λ o. o.1 refl) h; value = read_write regs1 d v }

-- what is above r may change before
pub over_after : (d r s : ℕ) (regs regs1 regs2 : Regs) (v : Value) → r ≤ s → Keeps (Below r) regs regs1 → OverAt d s regs1 v regs2 → OverAt d r regs v regs2
over_after d r s regs regs1 regs2 v le h q =
    let wide = λ (k : ℕ) (o : But d r k). let lt = o.0 in let both : But d s k = (omega (arith, lt, le), o.1) in both in
    record { keeps = keeps_then (But d r) regs regs1 regs2 (keeps_but d r regs regs1 h) (keeps_less (But d r) (But d s) regs1 regs2 wide q.keeps); value = q.value }

-- a register that is the given one, or one of names
pub data Low (ok : ℕ → Type 0) (r k : ℕ) : Type 0 where
  IsHere : k ≡ r → Low ok r k
  IsOwn : ok k → Low ok r k

-- an operand's value is in the register q, and those of names are as they were
pub record OperandAt (ok : ℕ → Type 0) (r q : ℕ) (regs : Regs) (v : Value) (regs' : Regs) : Type 0 where
  pub keeps : Keeps (Below r) regs regs'
  pub low : Low ok r q
  pub value : read regs' q ≡ Gives v

low_within : (r q : ℕ) → Low (Below r) r q → q < r + 1
low_within r q (IsHere e) = omega (arith, e)
low_within r q (IsOwn h) = omega (arith, h)

pub below_one : (r q : ℕ) (regs regs' : Regs) (v : Value) → OperandAt (Below r) r q regs v regs' → q < r + 1
below_one r q regs regs' v o = low_within r q o.low

module _ (code : List FunCode) where
  -- the code does what the expression means, and that of a name what the name means
  pub record Good (c : Coded) (m : Mean) : Type 0 where
    pub by : (f : ℕ) (callers : List Frame) (sc : Scope) (r : ℕ) (env : Env) (regs : Regs) (turns : ℕ) → Holds (Below r) sc env regs → Runs code f callers (c.put sc r) regs turns (ValueAt r regs) (m env turns)
    pub over : (f : ℕ) (callers : List Frame) (sc : Scope) (d r : ℕ) (env : Env) (regs : Regs) (turns : ℕ) → d < r → Holds (Below r) sc env regs → Runs code f callers (c.overwrite sc d r) regs turns (OverAt d r regs) (m env turns)
    pub named : (x : Name) → c.name ≡ Some x → (env : Env) (turns : ℕ) → m env turns ≡ lift (looked_up env x) turns

  value_operand : (ok : ℕ → Type 0) (r : ℕ) (regs : Regs) (v : Value) (regs' : Regs) → ValueAt r regs v regs' → OperandAt ok r r regs v regs'
  value_operand ok r regs v regs' q = record { keeps = q.keeps; low = IsHere refl; value = q.value }

  -- the operand that a name is
  name_operand : (ok : ℕ → Type 0) (f : ℕ) (callers : List Frame) (sc : Scope) (r : ℕ) (env : Env) (regs : Regs) (turns : ℕ) (x : Name) (a : ℕ) (o : Outcome Value) → Holds ok sc env regs → find sc x ≡ Some a → looked_up env x ≡ o → IsQuiet o → Runs code f callers (λ p. []) regs turns (OperandAt ok r a regs) (lift o turns)
  name_operand ok f callers sc r env regs turns x a (Gives v) h e lo quiet =
      let g = h.by x v lo in
      let same : g.0 ≡ a = cc in
      runs_nothing code f callers regs turns (OperandAt ok r a regs) v (record { keeps = keeps_all (Below r) regs; low = IsOwn (subst ok same g.2); value = subst (λ k. read regs k ≡ Gives v) same g.3 })
  name_operand ok f callers sc r env regs turns x a (Faults why) h e lo quiet = absurd quiet
  name_operand ok f callers sc r env regs turns x a Stuck h e lo quiet = runs_stuck code f callers _ regs turns (OperandAt ok r a regs)

  operand_by : (c : Coded) (m : Mean) → Good c m → (ok : ℕ → Type 0) → (f : ℕ) (callers : List Frame) (sc : Scope) (r : ℕ) (env : Env) (regs : Regs) (turns : ℕ) → ((k : ℕ) → ok k → k < r) → Holds ok sc env regs → (n : Option Name) (a : Option ℕ) → c.name ≡ n → own n sc ≡ a → Runs code f callers (unless_own a (c.put sc r)) regs turns (OperandAt ok r (place r a) regs) (m env turns)
  operand_by c m g ok f callers sc r env regs turns low h n None en ea =
      runs_weaken code f callers (c.put sc r) regs turns (ValueAt r regs) (OperandAt ok r r regs) (m env turns) (λ v regs' q. value_operand ok r regs v regs' q) (g.by f callers sc r env regs turns (holds_more ok (Below r) sc env regs low h))
  operand_by c m g ok f callers sc r env regs turns low h None (Some a) en ea = absurd cc
  operand_by c m g ok f callers sc r env regs turns low h (Some x) (Some a) en ea =
      subst (Runs code f callers (λ p. []) regs turns (OperandAt ok r a regs)) (sym (g.named x en env turns)) (name_operand ok f callers sc r env regs turns x a (looked_up env x) h ea refl (looked_quiet env x))

  pub operand_runs : (c : Coded) (m : Mean) → Good c m → (ok : ℕ → Type 0) → (f : ℕ) (callers : List Frame) (sc : Scope) (r : ℕ) (env : Env) (regs : Regs) (turns : ℕ) → ((k : ℕ) → ok k → k < r) → Holds ok sc env regs → Runs code f callers (load c sc r) regs turns (OperandAt ok r (at c sc r) regs) (m env turns)
  operand_runs c m g ok f callers sc r env regs turns low h = operand_by c m g ok f callers sc r env regs turns low h c.name (own c.name sc) refl refl
