-- All that is wrong with a model, in order, each fault with the item in which it stands.
use Rattle.std.specs.Prelude.{ℕ, ◌+◌, nat_le, nat_lt, Bool, true, false, ◌&&◌, not, List, [], ◌∷◌, ◌++◌, map, Option, Some, None}
use Rattle.std.specs.List.{list_any, count_by}
use Rattle.std.specs.Str.{bytes_eq}
use Rattle.pst_sexpr.specs.declared.form.Form.{Form}
use Rattle.pst_syntax.specs.declared.fault.FaultKind.{FaultKind}
use Rattle.pst_syntax.specs.declared.fault.FaultKind.TheVariants.{UnknownForm, DoubleName, OverLimit, Missing}
use Rattle.pst_syntax.specs.declared.fault.SyntaxFault.{SyntaxFault}
use Rattle.pst_model.specs.Names.{is_name}
use Rattle.pst_syntax.specs.Names.{is_free}
use Rattle.pst_syntax.specs.Counting.{trees_in}
use Rattle.pst_syntax.specs.Items.{in_item}
use Rattle.pst_syntax.specs.ItemShape.{ItemShape, CallbackShape, ModelShape, StateItem, InitItem, CommandItem, FunItem, OpItem, Pre, Next, Post, item_shape, callback_shape, param_shape, model_shape}
use Rattle.pst_syntax.specs.Reading.{are_few}
use Rattle.pst_syntax.specs.Limits.{ty_room, expr_room}
use Rattle.pst_syntax.specs.Limits.{max_declared, max_trees}
use Rattle.pst_syntax.specs.Faults.{unless, faults_of, name_faults, ty_faults, expr_faults}

-- what was seen, and then this, where it has a form
abbrev pub seen_with : {S : Type 0} → List S → Option S → List S
seen_with seen None = seen
seen_with seen (Some shape) = seen ++ shape ∷ []

-- ---- parameters

abbrev pub is_named : List ℕ → List ℕ × Form → Bool
is_named word pair = bytes_eq pair.0 word

abbrev pub param_faults : Bool → List (List ℕ × Form) → List ℕ × Form → List FaultKind
param_faults has_maps seen pair =
    name_faults (is_free has_maps pair.0) (list_any (is_named pair.0) seen) pair.0
    ++ ty_faults has_maps ty_room pair.1

abbrev pub params_faults_after : Bool → List (List ℕ × Form) → List Form → List FaultKind
params_faults_after has_maps seen [] = []
params_faults_after has_maps seen (form ∷ forms) =
    faults_of (param_shape form) (param_faults has_maps seen)
    ++ params_faults_after has_maps (seen_with seen (param_shape form)) forms

abbrev pub params_faults : Bool → List Form → List FaultKind
params_faults has_maps forms = unless (are_few forms) OverLimit (params_faults_after has_maps [] forms)

-- ---- callbacks

abbrev pub is_pre : CallbackShape → Bool
is_pre (Pre e) = true
is_pre _ = false

abbrev pub is_next : CallbackShape → Bool
is_next (Next e) = true
is_next _ = false

abbrev pub is_post : CallbackShape → Bool
is_post (Post e) = true
is_post _ = false

abbrev pub callback_faults : Bool → List CallbackShape → CallbackShape → List FaultKind
callback_faults has_maps seen (Pre e) =
    unless (not (list_any is_pre seen)) DoubleName (expr_faults has_maps expr_room e)
callback_faults has_maps seen (Next e) =
    unless (not (list_any is_next seen)) DoubleName (expr_faults has_maps expr_room e)
callback_faults has_maps seen (Post e) =
    unless (not (list_any is_post seen)) DoubleName (expr_faults has_maps expr_room e)

-- a callback that is missing is a fault behind all others
abbrev pub callbacks_faults : Bool → List CallbackShape → List Form → List FaultKind
callbacks_faults has_maps seen [] =
    unless (list_any is_pre seen && list_any is_next seen && list_any is_post seen) Missing []
callbacks_faults has_maps seen (form ∷ forms) =
    faults_of (callback_shape form) (callback_faults has_maps seen)
    ++ callbacks_faults has_maps (seen_with seen (callback_shape form)) forms

-- ---- items

abbrev pub is_state : ItemShape → Bool
is_state (StateItem t) = true
is_state _ = false

abbrev pub is_init : ItemShape → Bool
is_init (InitItem e) = true
is_init _ = false

abbrev pub is_command : ItemShape → Bool
is_command (CommandItem e) = true
is_command _ = false

abbrev pub is_fun : ItemShape → Bool
is_fun (FunItem is_post x ps t e) = true
is_fun _ = false

abbrev pub is_op : ItemShape → Bool
is_op (OpItem x ps t callbacks) = true
is_op _ = false

abbrev pub is_fun_named : List ℕ → ItemShape → Bool
is_fun_named word (FunItem is_post x ps t e) = bytes_eq x word
is_fun_named word _ = false

abbrev pub is_op_named : List ℕ → ItemShape → Bool
is_op_named word (OpItem x ps t callbacks) = bytes_eq x word
is_op_named word _ = false

abbrev pub has_room : (ItemShape → Bool) → List ItemShape → Bool
has_room test seen = nat_lt (count_by test seen) max_declared

-- the faults of an item behind others
abbrev pub item_faults : Bool → List ItemShape → ItemShape → List FaultKind
item_faults has_maps seen (StateItem t) =
    unless (not (list_any is_state seen)) DoubleName (ty_faults has_maps ty_room t)
item_faults has_maps seen (InitItem e) =
    unless (not (list_any is_init seen)) DoubleName (expr_faults has_maps expr_room e)
item_faults has_maps seen (CommandItem e) =
    unless (not (list_any is_command seen)) DoubleName (expr_faults has_maps expr_room e)
item_faults has_maps seen (FunItem is_post x ps t e) =
    unless (has_room is_fun seen) OverLimit
    (name_faults (is_free has_maps x) (list_any (is_fun_named x) seen) x
    ++ (params_faults has_maps ps ++ (ty_faults has_maps ty_room t ++ expr_faults has_maps expr_room e)))
item_faults has_maps seen (OpItem x ps t callbacks) =
    unless (has_room is_op seen) OverLimit (name_faults (is_name x) (list_any (is_op_named x) seen) x
    ++ (params_faults has_maps ps
    ++ (ty_faults has_maps ty_room t ++ callbacks_faults has_maps [] callbacks)))

-- the items are numbered from 1; what is missing is a fault of the model itself, behind all others
abbrev pub items_faults : Bool → List ItemShape → ℕ → List Form → List SyntaxFault
items_faults has_maps seen number [] =
    map (in_item 0) (unless (list_any is_state seen && list_any is_init seen
    && list_any is_command seen) Missing [])
items_faults has_maps seen number (form ∷ forms) =
    map (in_item number) (faults_of (item_shape form) (item_faults has_maps seen))
    ++ items_faults has_maps (seen_with seen (item_shape form)) (number + 1) forms

-- ---- the model

abbrev pub named_faults : Option ModelShape → List SyntaxFault
named_faults None = in_item 0 UnknownForm ∷ []
named_faults (Some m) =
    map (in_item 0) (name_faults (is_name m.name) false m.name) ++ items_faults m.has_maps [] 1 m.items

-- the number of its trees is judged before all else
abbrev pub model_faults : List Form → List SyntaxFault
model_faults [] = in_item 0 Missing ∷ []
model_faults (form ∷ forms) =
    map (in_item 0) (unless (nat_le (trees_in form) max_trees) OverLimit [])
    ++ named_faults (model_shape form)
