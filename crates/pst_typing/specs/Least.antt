-- The least item that is not well typed, and what the check of a model answers.
use Rattle.std.specs.Prelude.{◌≡◌, ℕ, ◌+◌, List, [], ◌∷◌, ◌++◌, length, reverse, Option, Some, None}
use Rattle.pst_model.specs.Parts.{state_of, initial_state_of, calls_of}
use Rattle.pst_model.specs.WellTyped.{WellItem, WellItems, WellModel}
use Rattle.pst_model.specs.declared.expr.Expr.{Expr}
use Rattle.pst_model.specs.declared.model.Item.{Item}
use Rattle.pst_model.specs.declared.model.Source.{Source}
use Rattle.pst_value.specs.declared.ty.Ty.{Ty}

-- a state, an opening state and the calls stand there
pub record IsWhole (source : Source) : Type 0 where
  pub state : Ty
  pub state_is : state_of source.items ≡ Some state
  pub opening : Expr
  pub opening_is : initial_state_of source.items ≡ Some opening
  pub calls : Expr
  pub calls_is : calls_of source.items ≡ Some calls

-- the item of the number, from 1, is not well typed, and those before it are
pub record IsLeastIll (items : List Item) (S : Ty) (number : ℕ) : Type 0 where
  pub before : List Item
  pub here : Item
  pub after : List Item
  pub parts : items ≡ before ++ here ∷ after
  pub place : number ≡ length before + 1
  pub well : WellItems items S [] before
  pub ill : WellItem items S (reverse before) here → ⊥

-- the same, over the type that the model gives its state
pub record IsIll (source : Source) (number : ℕ) : Type 0 where
  pub state : Ty
  pub state_is : state_of source.items ≡ Some state
  pub least : IsLeastIll source.items state number

-- the number of the least item that is not well typed, or none where the model is well typed
abbrev pub Judged : Source → Option ℕ → Type 0
Judged source None = WellModel source
Judged source (Some number) = IsIll source number
