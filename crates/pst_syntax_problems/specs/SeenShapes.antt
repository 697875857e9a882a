-- The shapes among the trees before another.
use Rattle.std.specs.Prelude.{ℕ, Bool, false, List, [], ◌∷◌, map, Option, Some, None}
use Rattle.pst_sexpr.specs.declared.form.Form.{Form}
use Rattle.pst_syntax.specs.declared.item_shapes.ItemShape.{ItemShape as BorrowedItem}
use Rattle.pst_syntax.specs.declared.item_shapes.FunShape.{FunShape}
use Rattle.pst_syntax.specs.declared.item_shapes.OpShape.{OpShape}
use Rattle.pst_syntax.specs.declared.item_shapes.CallbackShape.{CallbackShape as BorrowedCallback}
use Rattle.pst_syntax.specs.declared.item_shapes.ParamShape.{ParamShape}
use Rattle.pst_syntax.specs.ItemShape.{ItemShape, CallbackShape}
use Rattle.pst_syntax.specs.ItemShape as spec
use Rattle.pst_syntax.specs.ShownItems.{shown_item_option, shown_callback_option, shown_param_option}

abbrev pub shown_fun : FunShape → ItemShape
shown_fun f = spec.FunItem f.is_post f.name.now f.params.now f.result.now f.body.now

abbrev pub shown_op : OpShape → ItemShape
shown_op o = spec.OpItem o.name.now o.params.now o.result.now o.callbacks.now

-- the shapes among trees that have one or none
abbrev pub shapes : {S : Type 0} → List (Option S) → List S
shapes [] = []
shapes (None ∷ more) = shapes more
shapes (Some shape ∷ more) = shape ∷ shapes more

-- whether there is a shape that passes a test
abbrev pub holds : {S : Type 0} → (S → Bool) → Option S → Bool
holds test None = false
holds test (Some shape) = test shape

abbrev pub params_in : List (Option ParamShape) → List (List ℕ × Form)
params_in seen = shapes (map shown_param_option seen)

abbrev pub callbacks_in : List (Option BorrowedCallback) → List CallbackShape
callbacks_in seen = shapes (map shown_callback_option seen)

abbrev pub items_in : List (Option BorrowedItem) → List ItemShape
items_in seen = shapes (map shown_item_option seen)
