-- The numbers of operations are small.
use Rattle.std.proofs.Common.{◌≡◌, ◌<◌, ℕ, zero, suc, Bool, true, false, List, [], ◌∷◌, Option, Some, None, nat_lt, refl, arith, if◌then◌else◌}
use Rattle.std.specs.Option.{option_map}
use Rattle.std.specs.Str.{bytes_eq}
use Rattle.std.proofs.lemmas.Bool.Decides.{nat_tests}
use Rattle.pst_model.specs.Operations.{HasOperations, max_operations}
use Rattle.pst_model.specs.Parts.{operation_number, operation_of}
use Rattle.pst_model.specs.declared.model.Item.{Item}
use Rattle.pst_model.specs.declared.model.Item.TheVariants as item
use Rattle.pst_model.specs.declared.model.Op.{Op}

next : (items : List Item) (o : Op) (same : Bool) (r : Option ℕ) (n : ℕ) → ((k : ℕ) → r ≡ Some k → (p : Op) × (operation_of items k ≡ Some p))
    → (if same then Some 0 else option_map suc r) ≡ Some n → (p : Op) × (operation_of (item.Op o ∷ items) n ≡ Some p)
next items o true r zero f e = (o, refl)
next items o true r (suc n) f e = absurd (cc)
next items o false None n f e = absurd (cc)
next items o false (Some k) zero f e = absurd (cc)
next items o false (Some k) (suc n) f e = let q : Some k ≡ Some n = cc in f n q

-- a name has a number where an operation has it
has_operation : (items : List Item) (name : List ℕ) (n : ℕ) → operation_number items name ≡ Some n → (o : Op) × (operation_of items n ≡ Some o)
has_operation [] name n e = absurd (cc)
has_operation (item.Op o ∷ items) name n e =
    next items o (bytes_eq o.name name) (operation_number items name) n (λ k h. has_operation items name k h) e
has_operation (item.Fun f ∷ items) name n e = has_operation items name n e
has_operation (item.State t ∷ items) name n e = has_operation items name n e
has_operation (item.Init t ∷ items) name n e = has_operation items name n e
has_operation (item.Command t ∷ items) name n e = has_operation items name n e

below : {n : ℕ} → nat_lt n max_operations ≡ true → n < 64
below e = grind (arith, nat_tests)

pub number_below : (items : List Item) (name : List ℕ) (n : ℕ) → HasOperations items → operation_number items name ≡ Some n → n < 64
number_below items name n has e = let o = has_operation items name n e in below (has n o.0 o.1).few

pub ruleset named = (number_below)
