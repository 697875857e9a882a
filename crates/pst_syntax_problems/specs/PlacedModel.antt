-- All that is wrong with a model, as `ModelFaults` of pst_syntax says it, each fault with the place of the refused part and with
-- what that part has to be. A path begins with the number of the model's tree, which is 0.
use Rattle.std.specs.Prelude.{ℕ, suc, ◌-◌, nat_le, Bool, false, ◌&&◌, not, List, [], ◌∷◌, ◌++◌, map, Option, Some, None}
use Rattle.std.specs.List.{list_any}
use Rattle.pst_sexpr.specs.declared.form.Form.{Form}
use Rattle.pst_syntax.specs.declared.fault.FaultKind.TheVariants.{UnknownForm, DoubleName, OverLimit, Missing}
use Rattle.pst_syntax.specs.declared.fault.SyntaxFault.{SyntaxFault}
use Rattle.pst_model.specs.Names.{is_name}
use Rattle.pst_syntax.specs.Names.{is_free}
use Rattle.pst_syntax.specs.Counting.{trees_in}
use Rattle.pst_syntax.specs.Items.{in_item}
use Rattle.pst_syntax.specs.ItemShape.{ItemShape, CallbackShape, ModelShape, StateItem, InitItem, CommandItem, FunItem, OpItem, Pre, Next, Post, item_shape, callback_shape, param_shape, model_shape}
use Rattle.pst_syntax.specs.Reading.{are_few}
use Rattle.pst_syntax.specs.Limits.{ty_room, expr_room, max_trees}
use Rattle.pst_syntax.specs.Faults.{name_faults}
use Rattle.pst_syntax.specs.ModelFaults.{seen_with, is_named, is_pre, is_next, is_post, is_state, is_init, is_command, is_fun, is_op, is_fun_named, is_op_named, has_room}
use Rattle.pst_syntax_problems.specs.declared.fault.Role.TheVariants as role
use Rattle.pst_syntax_problems.specs.declared.fault.FormFault.{FormFault}
use Rattle.pst_syntax_problems.specs.Placed.{below, placed, unless_at, known_at, ty_faults_at, expr_faults_at}

-- a type that is part of no other type, and an expression that is part of no other expression
abbrev pub whole_ty_at : Bool → List ℕ → Form → List FormFault
whole_ty_at has_maps path form = ty_faults_at has_maps ty_room role.Type path form

abbrev pub whole_expr_at : Bool → List ℕ → Form → List FormFault
whole_expr_at has_maps path form = expr_faults_at has_maps expr_room role.Expression path form

-- ---- parameters

abbrev pub param_faults_at : Bool → List (List ℕ × Form) → List ℕ → List ℕ × Form → List FormFault
param_faults_at has_maps seen path pair =
    map (placed (below path 0) role.ParameterName)
    (name_faults (is_free has_maps pair.0) (list_any (is_named pair.0) seen) pair.0)
    ++ whole_ty_at has_maps (below path 1) pair.1

-- the first of them is part `number` of the tree
abbrev pub params_after_at : Bool → List (List ℕ × Form) → List ℕ → ℕ → List Form → List FormFault
params_after_at has_maps seen path number [] = []
params_after_at has_maps seen path number (form ∷ forms) =
    known_at (below path number) role.Parameter (param_shape form)
    (param_faults_at has_maps seen (below path number))
    ++ params_after_at has_maps (seen_with seen (param_shape form)) path (suc number) forms

abbrev pub params_faults_at : Bool → List ℕ → List Form → List FormFault
params_faults_at has_maps path forms =
    unless_at path role.Parameters (are_few forms) OverLimit (params_after_at has_maps [] path 0 forms)

-- ---- callbacks

abbrev pub callback_faults_at : Bool → List CallbackShape → List ℕ → CallbackShape → List FormFault
callback_faults_at has_maps seen path (Pre e) =
    unless_at path role.Callback (not (list_any is_pre seen)) DoubleName (whole_expr_at has_maps (below path 1) e)
callback_faults_at has_maps seen path (Next e) =
    unless_at path role.Callback (not (list_any is_next seen)) DoubleName (whole_expr_at has_maps (below path 1) e)
callback_faults_at has_maps seen path (Post e) =
    unless_at path role.Callback (not (list_any is_post seen)) DoubleName (whole_expr_at has_maps (below path 1) e)

abbrev pub callbacks_faults_at : Bool → List CallbackShape → List ℕ → ℕ → List Form → List FormFault
callbacks_faults_at has_maps seen path number [] =
    unless_at path role.Callbacks (list_any is_pre seen && list_any is_next seen && list_any is_post seen)
    Missing []
callbacks_faults_at has_maps seen path number (form ∷ forms) =
    known_at (below path number) role.Callback (callback_shape form)
    (callback_faults_at has_maps seen (below path number))
    ++ callbacks_faults_at has_maps (seen_with seen (callback_shape form)) path (suc number) forms

-- ---- items

-- the faults of an item behind others: `(fun NAME PARAMETERS TYPE BODY)`, `(op NAME PARAMETERS TYPE CALLBACK ..)`
abbrev pub item_faults_at : Bool → List ItemShape → List ℕ → ItemShape → List FormFault
item_faults_at has_maps seen path (StateItem t) =
    unless_at path role.Item (not (list_any is_state seen)) DoubleName (whole_ty_at has_maps (below path 1) t)
item_faults_at has_maps seen path (InitItem e) =
    unless_at path role.Item (not (list_any is_init seen)) DoubleName (whole_expr_at has_maps (below path 1) e)
item_faults_at has_maps seen path (CommandItem e) =
    unless_at path role.Item (not (list_any is_command seen)) DoubleName (whole_expr_at has_maps (below path 1) e)
item_faults_at has_maps seen path (FunItem is_post x ps t e) =
    unless_at path role.Item (has_room is_fun seen) OverLimit
    (map (placed (below path 1) role.ItemName) (name_faults (is_free has_maps x) (list_any (is_fun_named x) seen) x)
    ++ (params_faults_at has_maps (below path 2) ps
    ++ (whole_ty_at has_maps (below path 3) t ++ whole_expr_at has_maps (below path 4) e)))
item_faults_at has_maps seen path (OpItem x ps t callbacks) =
    unless_at path role.Item (has_room is_op seen) OverLimit
    (map (placed (below path 1) role.ItemName) (name_faults (is_name x) (list_any (is_op_named x) seen) x)
    ++ (params_faults_at has_maps (below path 2) ps
    ++ (whole_ty_at has_maps (below path 3) t ++ callbacks_faults_at has_maps [] path 4 callbacks)))

abbrev pub items_faults_at : Bool → List ItemShape → List ℕ → ℕ → List Form → List FormFault
items_faults_at has_maps seen path number [] =
    unless_at path role.Model (list_any is_state seen && list_any is_init seen && list_any is_command seen)
    Missing []
items_faults_at has_maps seen path number (form ∷ forms) =
    known_at (below path number) role.Item (item_shape form) (item_faults_at has_maps seen (below path number))
    ++ items_faults_at has_maps (seen_with seen (item_shape form)) path (suc number) forms

-- ---- the model

-- `(model NAME ITEM ..)`
abbrev pub named_faults_at : List ℕ → Option ModelShape → List FormFault
named_faults_at path None = placed path role.Model UnknownForm ∷ []
named_faults_at path (Some m) =
    map (placed (below path 1) role.ModelName) (name_faults (is_name m.name) false m.name)
    ++ items_faults_at m.has_maps [] path 2 m.items

-- the number of its trees is judged before all else
abbrev pub placed_faults : List Form → List FormFault
placed_faults [] = placed [] role.Model Missing ∷ []
placed_faults (form ∷ forms) =
    unless_at (0 ∷ []) role.Model (nat_le (trees_in form) max_trees) OverLimit
    (named_faults_at (0 ∷ []) (model_shape form))

-- ---- what the reader says of a fault: its kind, and the item in which it stands, from 1

abbrev pub item_at : List ℕ → ℕ
item_at (tree ∷ number ∷ more) = number - 1
item_at _ = 0

abbrev pub unplaced : FormFault → SyntaxFault
unplaced fault = in_item (item_at fault.path) fault.kind
