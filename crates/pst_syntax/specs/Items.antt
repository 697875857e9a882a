-- Reading items and the model.
use Rattle.std.specs.Prelude.{◌≡◌, ◌&&◌, ℕ, ◌+◌, ◌≤◌, nat_le, nat_lt, Bool, true, false, List, [], ◌∷◌, ◌++◌, length, Option, Some, None, Result, Ok, Err}
use Rattle.std.specs.List.{list_any, count_by}
use Rattle.std.specs.Str.{bytes_eq}
use Rattle.pst_sexpr.specs.declared.form.Form.{Form}
use Rattle.pst_sexpr.specs.Lawful.{IsTree}
use Rattle.pst_value.specs.declared.ty.Ty.{Ty}
use Rattle.pst_model.specs.declared.expr.Expr.{Expr}
use Rattle.pst_model.specs.declared.model.Item.{Item}
use Rattle.pst_model.specs.declared.model.Item.TheVariants as item
use Rattle.pst_model.specs.declared.model.Param.{Param}
use Rattle.pst_model.specs.declared.model.Fun.{Fun}
use Rattle.pst_model.specs.declared.model.Op.{Op}
use Rattle.pst_model.specs.declared.model.Source.{Source}
use Rattle.pst_syntax.specs.declared.fault.FaultKind.{FaultKind}
use Rattle.pst_syntax.specs.declared.fault.FaultKind.TheVariants.{Missing, NoMemory}
use Rattle.pst_syntax.specs.declared.fault.SyntaxFault.{SyntaxFault}
use Rattle.pst_syntax.specs.declared.items.Callbacks.{Callbacks}
use Rattle.pst_syntax.specs.declared.items.AllCallbacks.{AllCallbacks}
use Rattle.pst_model.specs.Names.{is_name}
use Rattle.pst_syntax.specs.Names.{is_free}
use Rattle.pst_syntax.specs.Counting.{trees_in}
use Rattle.pst_syntax.specs.Limits.{max_declared, max_trees}
use Rattle.pst_syntax.specs.ItemShape.{ItemShape, CallbackShape, ModelShape, StateItem, InitItem, CommandItem, FunItem, OpItem, Pre, Next, Post, item_shape, callback_shape, param_shape, model_shape}
use Rattle.pst_syntax.specs.Reading.{Read, ◌>>=◌, known, within, once, declared, are_few, ty_of, expr_of}
use Rattle.pst_syntax.specs.Limits.{ty_room, expr_room}

-- a type, and an expression, that stand in no other one
abbrev pub whole_ty : Bool → Form → Read Ty
whole_ty has_maps = ty_of has_maps ty_room

abbrev pub whole_expr : Bool → Form → Read Expr
whole_expr has_maps = expr_of has_maps expr_room

-- ---- parameters

abbrev pub is_param : List Param → List ℕ → Bool
is_param params word = list_any (λ param. bytes_eq param.name word) params

-- a parameter after others
abbrev pub param_of : Bool → List Param → List ℕ × Form → Read Param
param_of has_maps params pair =
    declared (is_free has_maps pair.0) (is_param params pair.0) pair.0
    >>= (λ x. whole_ty has_maps pair.1 >>= (λ t. Ok (record { name = x; ty = t })))

abbrev pub params_from : Bool → List Param → List Form → Read (List Param)
params_from has_maps params [] = Ok params
params_from has_maps params (form ∷ forms) =
    known (param_shape form) (param_of has_maps params)
    >>= (λ param. params_from has_maps (params ++ param ∷ []) forms)

abbrev pub params_of : Bool → List Form → Read (List Param)
params_of has_maps forms = within (are_few forms) (params_from has_maps [] forms)

-- ---- callbacks

abbrev pub is_some : {A : Type 0} → Option A → Bool
is_some None = false
is_some (Some a) = true

abbrev pub no_callbacks : Callbacks
no_callbacks = record { pre = None; next = None; post = None }

-- a callback after others
abbrev pub callback_of : Bool → Callbacks → CallbackShape → Read Callbacks
callback_of has_maps callbacks (Pre e) =
    once (is_some callbacks.pre) (whole_expr has_maps e >>= (λ e. Ok (record callbacks { pre = Some e })))
callback_of has_maps callbacks (Next e) =
    once (is_some callbacks.next) (whole_expr has_maps e >>= (λ e. Ok (record callbacks { next = Some e })))
callback_of has_maps callbacks (Post e) =
    once (is_some callbacks.post) (whole_expr has_maps e >>= (λ e. Ok (record callbacks { post = Some e })))

abbrev pub callbacks_from : Bool → Callbacks → List Form → Read Callbacks
callbacks_from has_maps callbacks [] = Ok callbacks
callbacks_from has_maps callbacks (form ∷ forms) =
    known (callback_shape form) (callback_of has_maps callbacks)
    >>= (λ callbacks. callbacks_from has_maps callbacks forms)

-- what has to stand there
abbrev pub there : {A : Type 0} → Option A → Read A
there None = Err Missing
there (Some a) = Ok a

-- the three callbacks, where none is missing
abbrev pub all_callbacks : Callbacks → Read AllCallbacks
all_callbacks callbacks =
    there callbacks.pre >>= (λ pre. there callbacks.next >>= (λ next. there callbacks.post >>= (λ post.
    Ok (record { pre = pre; next = next; post = post }))))

-- the callbacks that trees spell, none missing
abbrev pub whole_callbacks : Bool → List Form → Read AllCallbacks
whole_callbacks has_maps forms = callbacks_from has_maps no_callbacks forms >>= all_callbacks

-- ---- items

abbrev pub is_state : Item → Bool
is_state (item.State t) = true
is_state _ = false

abbrev pub is_init : Item → Bool
is_init (item.Init e) = true
is_init _ = false

abbrev pub is_command : Item → Bool
is_command (item.Command e) = true
is_command _ = false

abbrev pub is_fun : Item → Bool
is_fun (item.Fun f) = true
is_fun _ = false

abbrev pub is_op : Item → Bool
is_op (item.Op o) = true
is_op _ = false

abbrev pub is_fun_named : List ℕ → Item → Bool
is_fun_named word (item.Fun f) = bytes_eq f.name word
is_fun_named word _ = false

abbrev pub is_op_named : List ℕ → Item → Bool
is_op_named word (item.Op o) = bytes_eq o.name word
is_op_named word _ = false

-- one more may come
abbrev pub has_room : (Item → Bool) → List Item → Bool
has_room test seen = nat_lt (count_by test seen) max_declared

abbrev pub fun_of : Bool → Bool → List Item → List ℕ → List Form → Form → Form → Read Fun
fun_of has_maps is_post seen x ps t e =
    declared (is_free has_maps x) (list_any (is_fun_named x) seen) x
    >>= (λ x. params_of has_maps ps >>= (λ ps. whole_ty has_maps t >>= (λ t. whole_expr has_maps e >>= (λ e.
    Ok (record { is_post = is_post; name = x; params = ps; result = t; body = e })))))

abbrev pub op_parts : Bool → List Item → List ℕ → List Form → Form → List Form → Read Op
op_parts has_maps seen x ps t callbacks =
    declared (is_name x) (list_any (is_op_named x) seen) x
    >>= (λ x. params_of has_maps ps >>= (λ ps. whole_ty has_maps t >>= (λ t.
    whole_callbacks has_maps callbacks >>= (λ all.
    Ok (record { name = x; params = ps; result = t; pre = all.pre; next = all.next; post = all.post })))))

-- an item after others
abbrev pub item_parts : Bool → List Item → ItemShape → Read Item
item_parts has_maps seen (StateItem t) =
    once (list_any is_state seen) (whole_ty has_maps t >>= (λ t. Ok (item.State t)))
item_parts has_maps seen (InitItem e) =
    once (list_any is_init seen) (whole_expr has_maps e >>= (λ e. Ok (item.Init e)))
item_parts has_maps seen (CommandItem e) =
    once (list_any is_command seen) (whole_expr has_maps e >>= (λ e. Ok (item.Command e)))
item_parts has_maps seen (FunItem is_post x ps t e) =
    within (has_room is_fun seen) (fun_of has_maps is_post seen x ps t e >>= (λ f. Ok (item.Fun f)))
item_parts has_maps seen (OpItem x ps t callbacks) =
    within (has_room is_op seen) (op_parts has_maps seen x ps t callbacks >>= (λ o. Ok (item.Op o)))

unfoldable pub item_of : Bool → List Item → Form → Read Item
item_of has_maps seen form = known (item_shape form) (item_parts has_maps seen)

-- ---- the model

-- the fault of a kind in an item; item 0 is the model itself
abbrev pub in_item : ℕ → FaultKind → SyntaxFault
in_item number kind = record { kind = kind; item = number }

-- what is refused in an item
abbrev pub at_item : {A : Type 0} → ℕ → Read A → Result A SyntaxFault
at_item number (Ok a) = Ok a
at_item number (Err kind) = Err (in_item number kind)

abbrev pub go_on : {A B : Type 0} → Result A SyntaxFault → (A → Result B SyntaxFault) → Result B SyntaxFault
go_on (Ok a) f = f a
go_on (Err fault) f = Err fault

-- items after others, numbered from 1
abbrev pub items_from : Bool → List Item → List Form → Result (List Item) SyntaxFault
items_from has_maps seen [] = Ok seen
items_from has_maps seen (form ∷ forms) =
    go_on (at_item (length seen + 1) (item_of has_maps seen form))
    (λ i. items_from has_maps (seen ++ i ∷ []) forms)

-- the state, the init and the command stand there
abbrev pub is_complete : List Item → Bool
is_complete items = list_any is_state items && list_any is_init items && list_any is_command items

abbrev pub complete : Bool → ModelShape → List Item → Read Source
complete true m items = Ok (record { has_maps = m.has_maps; name = m.name; items = items })
complete false m items = Err Missing

-- the language of the model, its name, and its items
abbrev pub head_parts : ModelShape → Read ModelShape
head_parts m = declared (is_name m.name) false m.name >>= (λ x. Ok (record m { name = x }))

abbrev pub head_of_model : List Form → Read ModelShape
head_of_model [] = Err Missing
head_of_model (form ∷ forms) = within (nat_le (trees_in form) max_trees) (known (model_shape form) head_parts)

-- the model that the first tree spells, or its first fault
abbrev pub model_of : List Form → Result Source SyntaxFault
model_of trees =
    go_on (at_item 0 (head_of_model trees)) (λ m.
    go_on (items_from m.has_maps [] m.items) (λ items. at_item 0 (complete (is_complete items) m items)))

-- what a `Model` keeps: some lawful tree is read as it
pub record IsModel (source : Source) : Type 0 where
  pub tree : Form
  pub lawful : IsTree tree
  pub reads : model_of (tree ∷ []) ≡ Ok source

-- what stands in each model
pub record HasItems (items : List Item) : Type 0 where
  pub state : count_by is_state items ≡ 1
  pub init : count_by is_init items ≡ 1
  pub command : count_by is_command items ≡ 1
  pub functions : count_by is_fun items ≤ max_declared
  pub operations : count_by is_op items ≤ max_declared

-- ---- what the reader ensures

abbrev pub Refuses : {A : Type 0} → FaultKind → ℕ → Result A SyntaxFault → Type 0
Refuses NoMemory number defined = number ≡ 0
Refuses kind number defined = defined ≡ Err (in_item number kind)

-- the answer is that of the definition, unless memory is refused
abbrev pub Answers : {A : Type 0} → Result A SyntaxFault → Result A SyntaxFault → Type 0
Answers (Ok a) defined = defined ≡ Ok a
Answers (Err fault) defined = Refuses fault.kind fault.item defined

abbrev pub FaultOf : FaultKind → ℕ → SyntaxFault → Type 0
FaultOf NoMemory number fault = fault ≡ in_item 0 NoMemory
FaultOf kind number fault = fault ≡ in_item number kind
