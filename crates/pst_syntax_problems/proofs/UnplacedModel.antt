-- The faults with places are the faults: those of items and models.
use Rattle.std.proofs.Common.{◌≡◌, ℕ, suc, ◌+◌, ◌-◌, Bool, true, false, List, [], ◌∷◌, ◌++◌, map, Option, Some, None, refl, sym, ap, ◌∙◌, arith}
use Rattle.std.specs.Prelude.{◌&&◌, not, nat_le}
use Rattle.std.specs.List.{list_any}
use Rattle.std.proofs.lemmas.List.{map-append}
use Rattle.pst_sexpr.specs.declared.form.Form.{Form}
use Rattle.pst_syntax.specs.declared.fault.FaultKind.{FaultKind}
use Rattle.pst_syntax.specs.declared.fault.FaultKind.TheVariants.{UnknownForm, DoubleName, OverLimit, Missing}
use Rattle.pst_model.specs.Names.{is_name}
use Rattle.pst_syntax.specs.Names.{is_free}
use Rattle.pst_syntax.specs.Counting.{trees_in}
use Rattle.pst_syntax.specs.Items.{in_item}
use Rattle.pst_syntax.specs.ItemShape.{ItemShape, CallbackShape, ModelShape, StateItem, InitItem, CommandItem, FunItem, OpItem, Pre, Next, Post, item_shape, callback_shape, param_shape, model_shape}
use Rattle.pst_syntax.specs.Reading.{are_few}
use Rattle.pst_syntax.specs.Limits.{ty_room, expr_room, max_trees}
use Rattle.pst_syntax.specs.Faults.{unless, faults_of, name_faults, ty_faults, expr_faults}
use Rattle.pst_syntax.specs.ModelFaults.{seen_with, is_named, param_faults, params_faults_after, params_faults, is_pre, is_next, is_post, callback_faults, callbacks_faults, is_state, is_init, is_command, is_fun, is_op, is_fun_named, is_op_named, has_room, item_faults, items_faults, named_faults, model_faults}
use Rattle.pst_syntax_problems.specs.declared.fault.Role.{Role}
use Rattle.pst_syntax_problems.specs.declared.fault.Role.TheVariants as role
use Rattle.pst_syntax_problems.specs.declared.fault.FormFault.{FormFault}
use Rattle.pst_syntax_problems.specs.Placed.{below, placed, unless_at, known_at}
use Rattle.pst_syntax_problems.specs.PlacedModel.{whole_ty_at, whole_expr_at, param_faults_at, params_after_at, params_faults_at, callback_faults_at, callbacks_faults_at, item_faults_at, items_faults_at, named_faults_at, placed_faults, unplaced}
use Rattle.pst_syntax_problems.proofs.Unplaced.{Same, leaf, onward, limited, shaped, ty_same, expr_same}

-- ---- parameters

param_same : (a n : ℕ) (q : List ℕ) (has_maps : Bool) (seen : List (List ℕ × Form)) (pair : List ℕ × Form) → Same n (param_faults_at has_maps seen (a ∷ n ∷ q) pair) (param_faults has_maps seen pair)
param_same a n q has_maps seen pair =
    onward n _ _ (name_faults (is_free has_maps pair.0) (list_any (is_named pair.0) seen) pair.0) (ty_faults has_maps ty_room pair.1)
    (leaf a n (q ++ 0 ∷ []) role.ParameterName (name_faults (is_free has_maps pair.0) (list_any (is_named pair.0) seen) pair.0))
    (ty_same a n has_maps ty_room (q ++ 1 ∷ []) role.Type pair.1)

params_after_same : (a n : ℕ) (q : List ℕ) (has_maps : Bool) (seen : List (List ℕ × Form)) (number : ℕ) (forms : List Form) → Same n (params_after_at has_maps seen (a ∷ n ∷ q) number forms) (params_faults_after has_maps seen forms)
params_after_same a n q has_maps seen number [] = refl
params_after_same a n q has_maps seen number (form ∷ forms) =
    onward n _ _ (faults_of (param_shape form) (param_faults has_maps seen)) (params_faults_after has_maps (seen_with seen (param_shape form)) forms)
    (shaped a n (q ++ number ∷ []) role.Parameter (param_shape form) _ _ (param_same a n (q ++ number ∷ []) has_maps seen))
    (params_after_same a n q has_maps (seen_with seen (param_shape form)) (suc number) forms)

params_same : (a n : ℕ) (q : List ℕ) (has_maps : Bool) (forms : List Form) → Same n (params_faults_at has_maps (a ∷ n ∷ q) forms) (params_faults has_maps forms)
params_same a n q has_maps forms =
    limited a n q role.Parameters (are_few forms) OverLimit _ _ (params_after_same a n q has_maps [] 0 forms)

-- ---- callbacks

callback_same : (a n : ℕ) (q : List ℕ) (has_maps : Bool) (seen : List CallbackShape) (shape : CallbackShape) → Same n (callback_faults_at has_maps seen (a ∷ n ∷ q) shape) (callback_faults has_maps seen shape)
callback_same a n q has_maps seen (Pre e) =
    limited a n q role.Callback (not (list_any is_pre seen)) DoubleName _ _ (expr_same a n has_maps expr_room (q ++ 1 ∷ []) role.Expression e)
callback_same a n q has_maps seen (Next e) =
    limited a n q role.Callback (not (list_any is_next seen)) DoubleName _ _ (expr_same a n has_maps expr_room (q ++ 1 ∷ []) role.Expression e)
callback_same a n q has_maps seen (Post e) =
    limited a n q role.Callback (not (list_any is_post seen)) DoubleName _ _ (expr_same a n has_maps expr_room (q ++ 1 ∷ []) role.Expression e)

callbacks_same : (a n : ℕ) (q : List ℕ) (has_maps : Bool) (seen : List CallbackShape) (number : ℕ) (forms : List Form) → Same n (callbacks_faults_at has_maps seen (a ∷ n ∷ q) number forms) (callbacks_faults has_maps seen forms)
callbacks_same a n q has_maps seen number [] =
    limited a n q role.Callbacks (list_any is_pre seen && list_any is_next seen && list_any is_post seen) Missing [] [] refl
callbacks_same a n q has_maps seen number (form ∷ forms) =
    onward n _ _ (faults_of (callback_shape form) (callback_faults has_maps seen)) (callbacks_faults has_maps (seen_with seen (callback_shape form)) forms)
    (shaped a n (q ++ number ∷ []) role.Callback (callback_shape form) _ _ (callback_same a n (q ++ number ∷ []) has_maps seen))
    (callbacks_same a n q has_maps (seen_with seen (callback_shape form)) (suc number) forms)

-- ---- items

item_same : (a n : ℕ) (q : List ℕ) (has_maps : Bool) (seen : List ItemShape) (shape : ItemShape) → Same n (item_faults_at has_maps seen (a ∷ n ∷ q) shape) (item_faults has_maps seen shape)
item_same a n q has_maps seen (StateItem t) =
    limited a n q role.Item (not (list_any is_state seen)) DoubleName _ _ (ty_same a n has_maps ty_room (q ++ 1 ∷ []) role.Type t)
item_same a n q has_maps seen (InitItem e) =
    limited a n q role.Item (not (list_any is_init seen)) DoubleName _ _ (expr_same a n has_maps expr_room (q ++ 1 ∷ []) role.Expression e)
item_same a n q has_maps seen (CommandItem e) =
    limited a n q role.Item (not (list_any is_command seen)) DoubleName _ _ (expr_same a n has_maps expr_room (q ++ 1 ∷ []) role.Expression e)
item_same a n q has_maps seen (FunItem is_post x ps t e) =
    limited a n q role.Item (has_room is_fun seen) OverLimit _ _
    (onward n _ _ (name_faults (is_free has_maps x) (list_any (is_fun_named x) seen) x) _
    (leaf a n (q ++ 1 ∷ []) role.ItemName (name_faults (is_free has_maps x) (list_any (is_fun_named x) seen) x))
    (onward n _ _ (params_faults has_maps ps) _ (params_same a n (q ++ 2 ∷ []) has_maps ps)
    (onward n _ _ (ty_faults has_maps ty_room t) (expr_faults has_maps expr_room e) (ty_same a n has_maps ty_room (q ++ 3 ∷ []) role.Type t)
    (expr_same a n has_maps expr_room (q ++ 4 ∷ []) role.Expression e))))
item_same a n q has_maps seen (OpItem x ps t callbacks) =
    limited a n q role.Item (has_room is_op seen) OverLimit _ _
    (onward n _ _ (name_faults (is_name x) (list_any (is_op_named x) seen) x) _
    (leaf a n (q ++ 1 ∷ []) role.ItemName (name_faults (is_name x) (list_any (is_op_named x) seen) x))
    (onward n _ _ (params_faults has_maps ps) _ (params_same a n (q ++ 2 ∷ []) has_maps ps)
    (onward n _ _ (ty_faults has_maps ty_room t) (callbacks_faults has_maps [] callbacks) (ty_same a n has_maps ty_room (q ++ 3 ∷ []) role.Type t)
    (callbacks_same a n q has_maps [] 4 callbacks))))

missing : (b : Bool) → map unplaced (unless_at (0 ∷ []) role.Model b Missing []) ≡ map (in_item 0) (unless b Missing [])
missing true = refl
missing false = refl

-- part `number` of the model is its item `item`
items_same : (has_maps : Bool) (seen : List ItemShape) (number item : ℕ) (forms : List Form) → number ≡ suc item → map unplaced (items_faults_at has_maps seen (0 ∷ []) number forms) ≡ items_faults has_maps seen item forms
items_same has_maps seen number item [] h = missing (list_any is_state seen && list_any is_init seen && list_any is_command seen)
items_same has_maps seen number item (form ∷ forms) h =
    let here : Same number (known_at (0 ∷ number ∷ []) role.Item (item_shape form) (item_faults_at has_maps seen (0 ∷ number ∷ []))) (faults_of (item_shape form) (item_faults has_maps seen)) =
    shaped 0 number [] role.Item (item_shape form) _ _ (item_same 0 number [] has_maps seen) in
    let e : number - 1 ≡ item = omega arith in
    let next : suc number ≡ suc (item + 1) = omega arith in
    map-append unplaced (known_at (0 ∷ number ∷ []) role.Item (item_shape form) (item_faults_at has_maps seen (0 ∷ number ∷ [])))
    (items_faults_at has_maps (seen_with seen (item_shape form)) (0 ∷ []) (suc number) forms)
    ∙ ap (λ x. x ++ map unplaced (items_faults_at has_maps (seen_with seen (item_shape form)) (0 ∷ []) (suc number) forms))
    (here ∙ ap (λ k. map (in_item k) (faults_of (item_shape form) (item_faults has_maps seen))) e)
    ∙ ap (λ y. map (in_item item) (faults_of (item_shape form) (item_faults has_maps seen)) ++ y)
    (items_same has_maps (seen_with seen (item_shape form)) (suc number) (item + 1) forms next)

-- ---- the model

named_same : (m : Option ModelShape) → map unplaced (named_faults_at (0 ∷ []) m) ≡ named_faults m
named_same None = refl
named_same (Some m) =
    map-append unplaced (map (placed (0 ∷ 1 ∷ []) role.ModelName) (name_faults (is_name m.name) false m.name)) (items_faults_at m.has_maps [] (0 ∷ []) 2 m.items)
    ∙ ap (λ x. x ++ map unplaced (items_faults_at m.has_maps [] (0 ∷ []) 2 m.items)) (leaf 0 1 [] role.ModelName (name_faults (is_name m.name) false m.name))
    ∙ ap (λ y. map (in_item 0) (name_faults (is_name m.name) false m.name) ++ y) (items_same m.has_maps [] 2 1 m.items refl)

whole : (b : Bool) (f : List FormFault) → map unplaced (unless_at (0 ∷ []) role.Model b OverLimit f) ≡ map (in_item 0) (unless b OverLimit []) ++ map unplaced f
whole true f = refl
whole false f = refl

pub model_same : (trees : List Form) → map unplaced (placed_faults trees) ≡ model_faults trees
model_same [] = refl
model_same (form ∷ forms) =
    whole (nat_le (trees_in form) max_trees) (named_faults_at (0 ∷ []) (model_shape form))
    ∙ ap (λ y. map (in_item 0) (unless (nat_le (trees_in form) max_trees) OverLimit []) ++ y) (named_same (model_shape form))
