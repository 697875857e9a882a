-- Models that are well typed.
use Rattle.std.specs.Prelude.{◌≡◌, Bool, true, false, List, [], ◌∷◌, reverse, codes, Option, Some}
use Rattle.std.specs.List.{list_any}
use Rattle.pst_model.specs.Language.{KeepsLanguage}
use Rattle.pst_model.specs.Operations.{HasOperations}
use Rattle.pst_model.specs.Parts.{Name, state_of, initial_state_of, calls_of, types_of}
use Rattle.pst_model.specs.declared.expr.Expr.{Expr}
use Rattle.pst_model.specs.declared.model.Fun.{Fun}
use Rattle.pst_model.specs.declared.model.Item.{Item}
use Rattle.pst_model.specs.declared.model.Item.TheVariants as item
use Rattle.pst_model.specs.declared.model.Op.{Op}
use Rattle.pst_model.specs.declared.model.Source.{Source}
use Rattle.pst_model.specs.Kinds.{holds_ref_or_call, holds_call}
use Rattle.pst_model.specs.Rules.{Context, context_of, Has, Typed}
use Rattle.pst_value.specs.declared.ty.Ty.{Ty}
use Rattle.pst_value.specs.declared.ty.Ty.TheVariants as ty

-- the name of the state
abbrev pub name_s : Name
name_s = codes "s"

-- the name of the result
abbrev pub name_r : Name
name_r = codes "r"

-- what `pre` sees: the state and the parameters
abbrev pub pre_context : Ty → Op → Context
pre_context S o = (name_s, S) ∷ context_of o.params

-- what `next` sees: also the reference to the result
abbrev pub next_context : Ty → Op → Context
next_context S o = (name_r, ty.Ref o.result) ∷ pre_context S o

-- what `post` sees: also the result
abbrev pub post_context : Ty → Op → Context
post_context S o = (name_r, o.result) ∷ pre_context S o

-- the items in the order in which a callback sees the functions, the last first
abbrev pub all_of : List Item → List Item
all_of items = reverse items

-- parameters hold no call, the result neither a reference nor a call, and the three callbacks have their
-- types
pub record WellOperation (items : List Item) (S : Ty) (o : Op) : Type 0 where
  pub parameters : list_any holds_call (types_of o.params) ≡ false
  pub result : holds_ref_or_call o.result ≡ false
  pub pre : Typed items (all_of items) false (Has (pre_context S o) o.pre ty.Bool)
  pub next : Typed items (all_of items) false (Has (next_context S o) o.next S)
  pub post : Typed items (all_of items) true (Has (post_context S o) o.post ty.Bool)

-- one item, over the state's type and the items before it, the last first: functions apply those of earlier
-- items, callbacks any
abbrev pub WellItem : List Item → Ty → List Item → Item → Type 0
WellItem items S earlier (item.State T) = holds_call T ≡ false
WellItem items S earlier (item.Init e) = Typed items (all_of items) false (Has [] e S)
WellItem items S earlier (item.Command e) =
    Typed items (all_of items) false (Has ((name_s, S) ∷ []) e (ty.List ty.Call))
WellItem items S earlier (item.Fun f) =
    Typed items earlier f.is_post (Has (context_of f.params) f.body f.result)
WellItem items S earlier (item.Op o) = WellOperation items S o

-- items from one on, over those before them
abbrev pub WellItems : List Item → Ty → List Item → List Item → Type 0
WellItems items S earlier [] = Unit {0}
WellItems items S earlier (i ∷ later) = WellItem items S earlier i × WellItems items S (i ∷ earlier) later

-- a state, an opening state and the calls stand there, and every item is well typed
pub record WellModel (m : Source) : Type 0 where
  pub state : Ty
  pub state_is : state_of m.items ≡ Some state
  pub opening : Expr
  pub opening_is : initial_state_of m.items ≡ Some opening
  pub calls : Expr
  pub calls_is : calls_of m.items ≡ Some calls
  pub well : WellItems m.items state [] m.items

-- what a `Typed` keeps: the model is well typed, its operations have names of their own and types that are
-- not too deep, and none of them has a map unless the language does
pub record IsChecked (m : Source) : Type 0 where
  pub well : WellModel m
  pub operations : HasOperations m.items
  pub language : KeepsLanguage m
