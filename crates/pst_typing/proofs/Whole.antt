-- A model that was read has a state, an opening state and calls.
use Rattle.std.proofs.Common.{◌≡◌, List, [], ◌∷◌, Some, refl}
use Rattle.std.specs.List.{count_by}
use Rattle.pst_model.specs.Parts.{state_of, initial_state_of, calls_of}
use Rattle.pst_model.specs.declared.expr.Expr.{Expr}
use Rattle.pst_model.specs.declared.model.Item.{Item}
use Rattle.pst_model.specs.declared.model.Item.TheVariants as item
use Rattle.pst_model.specs.declared.model.Source.{Source}
use Rattle.pst_syntax.specs.Items.{is_state, is_init, is_command, HasItems}
use Rattle.pst_typing.specs.Least.{IsWhole}
use Rattle.pst_value.specs.declared.ty.Ty.{Ty}

state_there : (items : List Item) → count_by is_state items ≡ 1 → (S : Ty) × (state_of items ≡ Some S)
state_there [] h = absurd (cc)
state_there (item.State S ∷ items) h = (S, refl)
state_there (item.Init e ∷ items) h = state_there items h
state_there (item.Command e ∷ items) h = state_there items h
state_there (item.Fun f ∷ items) h = state_there items h
state_there (item.Op o ∷ items) h = state_there items h

opening_there : (items : List Item) → count_by is_init items ≡ 1 → (e : Expr) × (initial_state_of items ≡ Some e)
opening_there [] h = absurd (cc)
opening_there (item.State S ∷ items) h = opening_there items h
opening_there (item.Init e ∷ items) h = (e, refl)
opening_there (item.Command e ∷ items) h = opening_there items h
opening_there (item.Fun f ∷ items) h = opening_there items h
opening_there (item.Op o ∷ items) h = opening_there items h

calls_there : (items : List Item) → count_by is_command items ≡ 1 → (e : Expr) × (calls_of items ≡ Some e)
calls_there [] h = absurd (cc)
calls_there (item.State S ∷ items) h = calls_there items h
calls_there (item.Init e ∷ items) h = calls_there items h
calls_there (item.Command e ∷ items) h = (e, refl)
calls_there (item.Fun f ∷ items) h = calls_there items h
calls_there (item.Op o ∷ items) h = calls_there items h

pub whole : (source : Source) → HasItems source.items → IsWhole source
whole source has =
    let s = state_there source.items has.state in
    let o = opening_there source.items has.init in
    let c = calls_there source.items has.command in
    record { state = s.0; state_is = s.1; opening = o.0; opening_is = o.1; calls = c.0; calls_is = c.1 }
