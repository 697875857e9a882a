-- The decision agrees with the rules.
use Rattle.std.specs.Prelude.{◌≡◌, ℕ, Bool, true, List, [], Some, None}
use Rattle.pst_model.specs.Rules.{Context, Has, Typed}
use Rattle.pst_model.specs.WellTyped.{WellItem, WellItems, WellModel}
use Rattle.pst_model.specs.declared.expr.Expr.{Expr}
use Rattle.pst_model.specs.declared.model.Item.{Item}
use Rattle.pst_model.specs.declared.model.Source.{Source}
use Rattle.pst_typing.specs.Decision.{type_of}
use Rattle.pst_typing.specs.Items.{well_item, first_ill}
use Rattle.pst_typing.specs.Least.{IsLeastIll, IsIll}
use Rattle.pst_value.specs.declared.ty.Ty.{Ty}

-- the type that is found is given by the rules
abbrev pub FoundIsTyped : Type 0
FoundIsTyped = (items earlier : List Item) (post : Bool) (G : Context) (e : Expr) (T : Ty)
    → type_of items earlier post e G ≡ Some T → Typed items earlier post (Has G e T)

-- the type that the rules give is found
abbrev pub TypedIsFound : Type 0
TypedIsFound = (items earlier : List Item) (post : Bool) (G : Context) (e : Expr) (T : Ty)
    → Typed items earlier post (Has G e T) → type_of items earlier post e G ≡ Some T

-- an item that passes the test is well typed
abbrev pub PassedIsWell : Type 0
PassedIsWell =
    (items : List Item) (S : Ty) (earlier : List Item) (i : Item) → well_item items S earlier i ≡ true →
    WellItem items S earlier i

-- an item that is well typed passes the test
abbrev pub WellIsPassed : Type 0
WellIsPassed =
    (items : List Item) (S : Ty) (earlier : List Item) (i : Item) → WellItem items S earlier i →
    well_item items S earlier i ≡ true

-- where the search gives no number, all items are well typed
abbrev pub NoneIsWell : Type 0
NoneIsWell = (items : List Item) (S : Ty) → first_ill items S 1 [] items ≡ None → WellItems items S [] items

-- where it gives a number, that is of the least item that is not
abbrev pub SomeIsLeast : Type 0
SomeIsLeast =
    (items : List Item) (S : Ty) (number : ℕ) → first_ill items S 1 [] items ≡ Some number →
    IsLeastIll items S number

-- no model with an item that is not well typed is well typed
abbrev pub IllIsNotWell : Type 0
IllIsNotWell = (source : Source) (number : ℕ) → IsIll source number → WellModel source → ⊥

-- a model has one least item that is not well typed, at most
abbrev pub OneIsIll : Type 0
OneIsIll = (source : Source) (number other : ℕ) → IsIll source number → IsIll source other → number ≡ other
