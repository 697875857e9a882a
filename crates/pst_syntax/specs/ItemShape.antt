-- The table of items: what an item, a callback and a parameter are, one level deep.
use Rattle.std.specs.Prelude.{ℕ, Bool, true, false, if◌then◌else◌, List, [], ◌∷◌, Option, Some, None, codes}
use Rattle.std.specs.Str.{bytes_eq}
use Rattle.pst_sexpr.specs.declared.form.Form.{Form}
use Rattle.pst_sexpr.specs.Parts.{word_of, node_of, and_then}

pub data ItemShape : Type 0 where
  StateItem : Form → ItemShape
  InitItem : Form → ItemShape
  CommandItem : Form → ItemShape
  FunItem : Bool → List ℕ → List Form → Form → Form → ItemShape
  OpItem : List ℕ → List Form → Form → List Form → ItemShape

pub data CallbackShape : Type 0 where
  Pre : Form → CallbackShape
  Next : Form → CallbackShape
  Post : Form → CallbackShape

-- an item with one part
abbrev pub single : List Form → (Form → ItemShape) → Option ItemShape
single (part ∷ []) shape = Some (shape part)
single _ shape = None

-- a function, and whether it is marked post
abbrev pub as_fun : Bool → List Form → Option ItemShape
as_fun is_post (x ∷ ps ∷ t ∷ e ∷ []) =
    and_then (word_of x) (λ x. and_then (node_of ps) (λ ps. Some (FunItem is_post x ps t e)))
as_fun is_post _ = None

abbrev pub as_op : List Form → Option ItemShape
as_op (x ∷ ps ∷ t ∷ callbacks) =
    and_then (word_of x) (λ x. and_then (node_of ps) (λ ps. Some (OpItem x ps t callbacks)))
as_op _ = None

-- THE TABLE OF ITEMS
abbrev pub item_headed : List ℕ → List Form → Option ItemShape
item_headed word parts =
    if bytes_eq word (codes "state") then single parts StateItem
    else if bytes_eq word (codes "init") then single parts InitItem
    else if bytes_eq word (codes "command") then single parts CommandItem
    else if bytes_eq word (codes "fun") then as_fun false parts
    else if bytes_eq word (codes "postfun") then as_fun true parts
    else if bytes_eq word (codes "op") then as_op parts
    else None

abbrev pub item_node : List Form → Option ItemShape
item_node [] = None
item_node (first ∷ parts) = and_then (word_of first) (λ word. item_headed word parts)

-- which form of item a tree has
unfoldable pub item_shape : Form → Option ItemShape
item_shape form = and_then (node_of form) item_node

-- THE TABLE OF CALLBACKS
abbrev pub callback_headed : List ℕ → Form → Option CallbackShape
callback_headed word e =
    if bytes_eq word (codes "pre") then Some (Pre e)
    else if bytes_eq word (codes "next") then Some (Next e)
    else if bytes_eq word (codes "post") then Some (Post e)
    else None

abbrev pub callback_node : List Form → Option CallbackShape
callback_node (first ∷ e ∷ []) = and_then (word_of first) (λ word. callback_headed word e)
callback_node _ = None

-- which callback a tree has the form of
unfoldable pub callback_shape : Form → Option CallbackShape
callback_shape form = and_then (node_of form) callback_node

abbrev pub param_node : List Form → Option (List ℕ × Form)
param_node (x ∷ t ∷ []) = and_then (word_of x) (λ x. Some (x, t))
param_node _ = None

-- a parameter: its name and its type
unfoldable pub param_shape : Form → Option (List ℕ × Form)
param_shape form = and_then (node_of form) param_node

-- a model: whether its language has maps, its name, and its items, which are trees yet
pub record ModelShape : Type 0 where
  pub has_maps : Bool
  pub name : List ℕ
  pub items : List Form

-- THE TWO LANGUAGES: whether the one that a word heads has maps
abbrev pub language : List ℕ → Option Bool
language word =
    if bytes_eq word (codes "model") then Some false
    else if bytes_eq word (codes "model2") then Some true
    else None

abbrev pub as_model : List ℕ → List Form → Option ModelShape
as_model word [] = None
as_model word (x ∷ items) =
    and_then (word_of x) (λ x. and_then (language word)
    (λ has_maps. Some (record { has_maps = has_maps; name = x; items = items })))

abbrev pub model_node : List Form → Option ModelShape
model_node [] = None
model_node (first ∷ parts) = and_then (word_of first) (λ word. as_model word parts)

-- a model, by its head word
unfoldable pub model_shape : Form → Option ModelShape
model_shape form = and_then (node_of form) model_node
