-- What the values and the faults of an explanation are.
use Rattle.std.specs.Prelude.{◌≡◌, ℕ, ⊤, Bool, false, List, reverse, Option, Some, None, Result, Ok, Err}
use Rattle.pst_eval.specs.Meaning.{called, mean}
use Rattle.pst_model.specs.declared.model.Item.{Item}
use Rattle.pst_operators.specs.Operators.{bool}
use Rattle.pst_operators.specs.Outcome.{Outcome, Gives, Faults, Stuck}
use Rattle.pst_operators.specs.declared.stop.Stop.{Stop}
use Rattle.pst_operators.specs.declared.stop.Stop.TheVariants.{Fault as Fault', Stuck as IsStuck, NoMemory}
use Rattle.pst_scene.specs.Names.{named}
use Rattle.pst_scene.specs.declared.faulty.FaultyPart.{FaultyPart}
use Rattle.pst_value.specs.declared.value.Value.{Value}

-- the answer is the value of an outcome, or why it has none
abbrev pub ValueOf : Outcome (Value × ℕ) → Result Value Stop → Type 0
ValueOf o (Ok value) = (left : ℕ) × (o ≡ Gives (value, left))
ValueOf o (Err (Fault' why)) = o ≡ Faults why
ValueOf o (Err IsStuck) = o ≡ Stuck
ValueOf o (Err NoMemory) = ⊥

-- an outcome without a value
abbrev pub Fails : {A : Type 0} → Outcome A → Type 0
Fails (Gives a) = ⊥
Fails (Faults why) = ⊤
Fails Stuck = ⊤

-- what a part comes to in the names that it sees, with the turns that are left there
abbrev pub outcome_at : List Item → FaultyPart → Outcome (Value × ℕ)
outcome_at items p = mean items (called items (reverse p.earlier.now)) p.part.now (named p.names) p.turns

-- there is a part exactly where an expression of this outcome faults, and it has the same fault
abbrev pub FaultsIn : List Item → Outcome (Value × ℕ) → Option FaultyPart → Type 0
FaultsIn items (Faults why) (Some p) = outcome_at items p ≡ Faults why
FaultsIn items (Faults why) None = ⊥
FaultsIn items (Gives a) (Some p) = ⊥
FaultsIn items (Gives a) None = ⊤
FaultsIn items Stuck (Some p) = ⊥
FaultsIn items Stuck None = ⊤

-- the answer is the value of an outcome, if it has one
abbrev pub GivesValue : Outcome (Value × ℕ) → Option Value → Type 0
GivesValue o (Some value) = (left : ℕ) × (o ≡ Gives (value, left))
GivesValue o None = Fails o

-- the answer is the bool that an outcome gives
abbrev pub GivesTruth : Outcome (Value × ℕ) → Option Bool → Type 0
GivesTruth o (Some truth) = (left : ℕ) × (o ≡ Gives (bool truth, left))
GivesTruth o None = ⊤

-- an expression of this outcome is false
pub record IsFalse (o : Outcome (Value × ℕ)) : Type 0 where
  pub left : ℕ
  pub is : o ≡ Gives (bool false, left)
