-- The operations of a well-typed model are well typed.
use Rattle.std.proofs.Common.{◌≡◌, ℕ, zero, suc, List, [], ◌∷◌, Some, subst, slice_get}
use Rattle.pst_model.specs.Parts.{operation_of, operations_of}
use Rattle.pst_model.specs.WellTyped.{WellOperation, WellItems, WellModel}
use Rattle.pst_model.specs.declared.model.Item.{Item}
use Rattle.pst_model.specs.declared.model.Item.TheVariants as item
use Rattle.pst_model.specs.declared.model.Op.{Op}
use Rattle.pst_model.specs.declared.model.Source.{Source}
use Rattle.pst_value.specs.declared.ty.Ty.{Ty}

-- an operation among well-typed items
well_among : (items : List Item) (S : Ty) (earlier later : List Item) (n : ℕ) (o : Op) → WellItems items S earlier later → slice_get (operations_of later) n ≡ Some o → WellOperation items S o
well_among items S earlier [] n o w e = absurd (cc)
well_among items S earlier (item.Op p ∷ later) zero o w e = let q : p ≡ o = cc in let P : Op → Type 0 = λ k. WellOperation items S k in subst P q w.0
well_among items S earlier (item.Op p ∷ later) (suc n) o w e = well_among items S (item.Op p ∷ earlier) later n o w.1 e
well_among items S earlier (item.Fun f ∷ later) n o w e = well_among items S (item.Fun f ∷ earlier) later n o w.1 e
well_among items S earlier (item.State t ∷ later) n o w e = well_among items S (item.State t ∷ earlier) later n o w.1 e
well_among items S earlier (item.Init t ∷ later) n o w e = well_among items S (item.Init t ∷ earlier) later n o w.1 e
well_among items S earlier (item.Command t ∷ later) n o w e = well_among items S (item.Command t ∷ earlier) later n o w.1 e

-- the operation of a number
pub well_operation : (m : Source) (n : ℕ) (o : Op) → (w : WellModel m) → operation_of m.items n ≡ Some o → WellOperation m.items w.state o
well_operation m n o w e = well_among m.items w.state [] m.items n o w.well e
