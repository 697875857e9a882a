-- The text of trees that a text with JSON items stands for.
use Rattle.std.specs.Prelude.{ℕ, ◌==◌, Bool, false, if◌then◌else◌, List, [], ◌∷◌, ◌++◌, Option, Some, None}
use Rattle.std.specs.Str.{is_utf8}
use Rattle.json.specs.Json.{Json, document}
use Rattle.pst_json_runs.specs.Trees.{item_form, nothing}
use Rattle.pst_model.specs.declared.model.Source.{Source}
use Rattle.pst_sexpr.specs.Spelling.{spelling}
use Rattle.pst_sexpr.specs.declared.form.Form.{Form}

-- the JSON of a line
abbrev pub json_in : List ℕ → Option Json
json_in line = if is_utf8 line then document line else None

abbrev pub form_or_nothing : Source → Option Json → Form
form_or_nothing m None = nothing
form_or_nothing m (Some j) = item_form m j

-- the tree of the JSON item on a line
abbrev pub line_form : Source → List ℕ → Form
line_form m line = form_or_nothing m (json_in line)

-- a line that begins with `{` has a JSON item
abbrev pub has_json : List ℕ → Bool
has_json [] = false
has_json (byte ∷ bytes) = byte == 123

-- a line with each JSON item as a tree
abbrev pub tree_line : Source → List ℕ → List ℕ
tree_line m line = if has_json line then spelling (line_form m line) else line

-- a text with each JSON item as a tree, where these bytes of its first line came before it
abbrev pub trees_after : Source → List ℕ → List ℕ → List ℕ
trees_after m line [] = tree_line m line
trees_after m line (byte ∷ bytes) =
    if byte == 10 then tree_line m line ++ 10 ∷ trees_after m [] bytes
    else trees_after m (line ++ byte ∷ []) bytes

-- a text with each JSON item as a tree
abbrev pub trees_text : Source → List ℕ → List ℕ
trees_text m text = trees_after m [] text
