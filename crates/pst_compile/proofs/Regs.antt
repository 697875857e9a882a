-- Registers that are read after they are written.
use Rattle.std.proofs.Common.{◌≡◌, ℕ, zero, suc, [], ◌∷◌, refl, ap}
use Rattle.pst_value.specs.declared.value.Value.{Value}
use Rattle.pst_operators.specs.Outcome.{Gives}
use Rattle.pst_machine.specs.Machine.{Regs, read, write, cleared}

pub read_write : (regs : Regs) (d : ℕ) (v : Value) → read (write regs d v) d ≡ Gives v
read_write [] zero v = refl
read_write [] (suc d) v = read_write [] d v
read_write (o ∷ regs) zero v = refl
read_write (o ∷ regs) (suc d) v = read_write regs d v

pub read_other : (regs : Regs) (d : ℕ) (v : Value) (k : ℕ) → (k ≡ d → ⊥) → read (write regs d v) k ≡ read regs k
read_other [] zero v zero ne = absurd (ne refl)
read_other [] zero v (suc k) ne = refl
read_other [] (suc d) v zero ne = refl
read_other [] (suc d) v (suc k) ne = read_other [] d v k (λ e. ne (ap suc e))
read_other (o ∷ regs) zero v zero ne = absurd (ne refl)
read_other (o ∷ regs) zero v (suc k) ne = refl
read_other (o ∷ regs) (suc d) v zero ne = refl
read_other (o ∷ regs) (suc d) v (suc k) ne = read_other regs d v k (λ e. ne (ap suc e))

pub read_cleared : (regs : Regs) (d k : ℕ) → (k ≡ d → ⊥) → read (cleared regs d) k ≡ read regs k
read_cleared [] d k ne = refl
read_cleared (o ∷ regs) zero zero ne = absurd (ne refl)
read_cleared (o ∷ regs) zero (suc k) ne = refl
read_cleared (o ∷ regs) (suc d) zero ne = refl
read_cleared (o ∷ regs) (suc d) (suc k) ne = read_cleared regs d k (λ e. ne (ap suc e))
