-- What the borrowed shapes of items stand for.
use Rattle.std.specs.Prelude.{ℕ, List, Option, Some, None}
use Rattle.pst_sexpr.specs.declared.form.Form.{Form}
use Rattle.pst_syntax.specs.declared.item_shapes.ItemShape.{ItemShape as BorrowedItem}
use Rattle.pst_syntax.specs.declared.item_shapes.ItemShape.TheVariants as item
use Rattle.pst_syntax.specs.declared.item_shapes.CallbackShape.{CallbackShape as BorrowedCallback}
use Rattle.pst_syntax.specs.declared.item_shapes.CallbackShape.TheVariants as callback
use Rattle.pst_syntax.specs.declared.item_shapes.ParamShape.{ParamShape}
use Rattle.pst_syntax.specs.declared.item_shapes.ModelShape.{ModelShape as BorrowedModel}
use Rattle.pst_syntax.specs.ItemShape.{ItemShape, CallbackShape, ModelShape}
use Rattle.pst_syntax.specs.ItemShape as spec

abbrev pub shown_item : BorrowedItem → ItemShape
shown_item (item.State t) = spec.StateItem t.now
shown_item (item.Init e) = spec.InitItem e.now
shown_item (item.Command e) = spec.CommandItem e.now
shown_item (item.Fun f) = spec.FunItem f.is_post f.name.now f.params.now f.result.now f.body.now
shown_item (item.Op o) = spec.OpItem o.name.now o.params.now o.result.now o.callbacks.now

abbrev pub shown_item_option : Option BorrowedItem → Option ItemShape
shown_item_option None = None
shown_item_option (Some shape) = Some (shown_item shape)

abbrev pub shown_callback : BorrowedCallback → CallbackShape
shown_callback (callback.Pre e) = spec.Pre e.now
shown_callback (callback.Next e) = spec.Next e.now
shown_callback (callback.Post e) = spec.Post e.now

abbrev pub shown_callback_option : Option BorrowedCallback → Option CallbackShape
shown_callback_option None = None
shown_callback_option (Some shape) = Some (shown_callback shape)

abbrev pub shown_param : ParamShape → List ℕ × Form
shown_param p = (p.name.now, p.ty.now)

abbrev pub shown_param_option : Option ParamShape → Option (List ℕ × Form)
shown_param_option None = None
shown_param_option (Some shape) = Some (shown_param shape)

abbrev pub shown_model : BorrowedModel → ModelShape
shown_model m = record { has_maps = m.has_maps; name = m.name.now; items = m.items.now }

abbrev pub shown_model_option : Option BorrowedModel → Option ModelShape
shown_model_option None = None
shown_model_option (Some shape) = Some (shown_model shape)
