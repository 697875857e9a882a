-- The tree of a JSON item.
use Rattle.std.specs.Prelude.{ℕ, ◌+◌, nat_eq, Bool, true, false, ◌&&◌, if◌then◌else◌, List, [], ◌∷◌, ◌++◌, Option, Some, None, option_map, option_and_then, codes}
use Rattle.std.specs.Str.{bytes_eq}
use Rattle.json.specs.Find.{get}
use Rattle.json.specs.Json.{Json, null, number, string, array, object, Items, no_items, item, Members, no_members, member}
use Rattle.pst_json_runs.specs.Spelled.{if_spelled}
use Rattle.pst_json_runs.specs.Reading.{value_in, size, count as length_of}
use Rattle.pst_model.specs.Parts.{operation_number, operation_of}
use Rattle.pst_model.specs.declared.model.Op.{Op}
use Rattle.pst_model.specs.declared.model.Param.{Param}
use Rattle.pst_model.specs.declared.model.Source.{Source}
use Rattle.pst_runs.specs.Written.{value_form}
use Rattle.pst_sexpr.specs.Parts.{headed}
use Rattle.pst_sexpr.specs.declared.form.Form.{Form}
use Rattle.pst_sexpr.specs.declared.form.Form.TheVariants.{Word, Node}
use Rattle.pst_value.specs.declared.ty.Ty.{Ty}
use Rattle.pst_value.specs.declared.value.Value.{Value}

-- `()`, which spells nothing
abbrev pub nothing : Form
nothing = Node []

-- the parts of an array
abbrev pub items_in : Json → Items
items_in (array js) = js
items_in _ = no_items

abbrev pub is_array : Json → Bool
is_array (array js) = true
is_array _ = false

-- the parts of an array, if it is there
abbrev pub part : Option Json → Items
part None = no_items
part (Some j) = items_in j

-- ---- values

-- the tree of a value, or `other` if it has no spelling; JSON that spells no value has the tree `()`
abbrev pub tree_or : Form → Option Value → Form
tree_or other None = nothing
tree_or other (Some v) = if_spelled (value_form v) other

-- ---- commands

abbrev pub operation_named : Source → List ℕ → Option Op
operation_named m name = option_and_then (operation_of m.items) (operation_number m.items name)

abbrev pub parameters_of : Option Op → List Param
parameters_of None = []
parameters_of (Some o) = o.params

abbrev pub first_type : List Param → Option Ty
first_type [] = None
first_type (p ∷ ps) = Some p.ty

abbrev pub without_first : List Param → List Param
without_first [] = []
without_first (p ∷ ps) = ps

abbrev pub argument_form : Option Ty → Json → Form
argument_form t j = tree_or nothing (value_in t j)

-- arguments at the types of the parameters
abbrev pub argument_forms : List Param → Items → List Form
argument_forms ps no_items = []
argument_forms ps (item j js) = argument_form (first_type ps) j ∷ argument_forms (without_first ps) js

-- the name of an operation; one that is no word names none, as `?` does
abbrev pub name_form : List ℕ → Form
name_form name = if_spelled (Word name) (Word (codes "?"))

abbrev pub named_form : List ℕ → List Param → Items → Form
named_form name ps args = Node (name_form name ∷ argument_forms ps args)

abbrev pub call_form : Source → List ℕ → Items → Form
call_form m name args = named_form name (parameters_of (operation_named m name)) args

abbrev pub command_in : Source → Items → Form
command_in m (item (string name) args) = call_form m name args
command_in m _ = nothing

-- `["op", arg, ..]`
abbrev pub command_form : Source → Json → Form
command_form m j = command_in m (items_in j)

abbrev pub command_forms : Source → Items → List Form
command_forms m no_items = []
command_forms m (item j js) = command_form m j ∷ command_forms m js

-- ---- replies

abbrev pub result_in : Source → Items → Option Ty
result_in m (item (string name) args) = option_map (λ o. o.result) (operation_named m name)
result_in m _ = None

-- the result type of the operation that a command names
abbrev pub result_of : Source → Json → Option Ty
result_of m j = result_in m (items_in j)

abbrev pub outcome_at : List ℕ → Json → Option (List ℕ)
outcome_at name null =
    if bytes_eq name (codes "failed") then Some (codes "failed")
    else if bytes_eq name (codes "misfit") then Some (codes "misfit")
    else if bytes_eq name (codes "unknown") then Some (codes "unknown")
    else None
outcome_at name _ = None

abbrev pub outcome_in : Members → Option (List ℕ)
outcome_in (member name j no_members) = outcome_at name j
outcome_in _ = None

-- `null`, `{"failed":null}`, `{"misfit":null}` and `{"unknown":null}`, none of which spells a value
abbrev pub outcome_of : Json → Option (List ℕ)
outcome_of null = Some (codes "not-run")
outcome_of (object ms) = outcome_in ms
outcome_of _ = None

abbrev pub outcome_or : Option (List ℕ) → Form → Form
outcome_or None form = form
outcome_or (Some word) form = Word word

-- a reply to a command whose result has the type
abbrev pub reply_form : Option Ty → Json → Form
reply_form t j = outcome_or (outcome_of j) (tree_or (Word (codes "misfit")) (value_in t j))

-- the first of some parts, and all but the first
abbrev pub first : Items → Option Json
first no_items = None
first (item j js) = Some j

abbrev pub others : Items → Items
others no_items = no_items
others (item j js) = js

-- a reply to a command, if there is one for it
abbrev pub reply_to : Source → Option Json → Json → Form
reply_to m None r = reply_form None r
reply_to m (Some c) r = reply_form (result_of m c) r

-- the replies to commands
abbrev pub reply_forms : Source → (commands replies : Items) → List Form
reply_forms m cs no_items = []
reply_forms m cs (item r rs) = reply_to m (first cs) r ∷ reply_forms m (others cs) rs

abbrev pub list_form : Source → (commands : Option Json) → (list : Json) → Form
list_form m cs list = Node (reply_forms m (part cs) (items_in list))

-- the commands of the next branch, or those of the suffix if there is no more branch
abbrev pub next_part : (branches : Items) → (suffix : Option Json) → Option Json
next_part no_items suffix = suffix
next_part (item b bs) suffix = Some b

-- the lists of replies to the branches, and to the suffix after them
abbrev pub rest_forms : Source → (branches : Items) → (suffix : Option Json) → (lists : Items) → List Form
rest_forms m bs suffix no_items = []
rest_forms m bs suffix (item l ls) = list_form m (next_part bs suffix) l ∷ rest_forms m (others bs) suffix ls

abbrev pub list_forms : Source → (prefix : Option Json) → (branches : Items) → (suffix : Option Json) → (lists : Items) → List Form
list_forms m prefix bs suffix no_items = []
list_forms m prefix bs suffix (item l ls) = list_form m prefix l ∷ rest_forms m bs suffix ls

-- ---- times

-- the digits of a number as they stand in the JSON, and `-` for `null`
abbrev pub instant_form : Json → Form
instant_form (number digits) = if_spelled (Word digits) nothing
instant_form null = Word (codes "-")
instant_form _ = nothing

abbrev pub instant_forms : Items → List Form
instant_forms no_items = []
instant_forms (item j js) = instant_form j ∷ instant_forms js

-- `[INVOKED, COMPLETED]`; JSON that is no array has the tree `()`
abbrev pub time_form : Json → Form
time_form j = Node (instant_forms (items_in j))

abbrev pub time_forms : Items → List Form
time_forms no_items = []
time_forms (item j js) = time_form j ∷ time_forms js

-- the times of the calls of a branch
abbrev pub times_form : Json → Form
times_form j = Node (time_forms (items_in j))

-- the times of each branch
abbrev pub times_in : Items → List Form
times_in no_items = []
times_in (item j js) = times_form j ∷ times_in js

-- ---- the parts of an item

abbrev pub are_arrays : Items → Bool
are_arrays no_items = true
are_arrays (item j js) = is_array j && are_arrays js

-- an array, if it is there
abbrev pub is_part : Option Json → Bool
is_part None = true
is_part (Some j) = is_array j

-- an array of arrays
abbrev pub are_parts : Json → Bool
are_parts j = is_array j && are_arrays (items_in j)

abbrev pub are_branches : Option Json → Bool
are_branches None = false
are_branches (Some j) = are_parts j

abbrev pub are_lists : Option Json → Bool
are_lists None = true
are_lists (Some j) = are_parts j

abbrev pub prefix_of : Json → Option Json
prefix_of j = get (codes "prefix") j

abbrev pub branches_of : Json → Option Json
branches_of j = get (codes "branches") j

abbrev pub suffix_of : Json → Option Json
suffix_of j = get (codes "suffix") j

abbrev pub replies_of : Json → Option Json
replies_of j = get (codes "replies") j

abbrev pub times_of : Json → Option Json
times_of j = get (codes "times") j

abbrev pub count : Option Json → ℕ
count None = 0
count (Some j) = 1

-- how many of the parts of an item are there
abbrev pub named : Json → ℕ
named j =
    count (prefix_of j) + count (branches_of j) + count (suffix_of j) + count (replies_of j) + count (times_of j)

abbrev pub size_of : Json → ℕ
size_of (object ms) = size ms
size_of _ = 0

-- the lists of replies and of times
abbrev pub are_records : Json → Bool
are_records j = are_lists (replies_of j) && are_lists (times_of j)

-- an object with `branches`, and with `prefix`, `suffix`, `replies` and `times` if they are there, each once and
-- nothing else
abbrev pub is_item : Json → Bool
is_item j =
    nat_eq (size_of j) (named j)
    && (is_part (prefix_of j) && (are_branches (branches_of j) && (is_part (suffix_of j) && are_records j)))

-- ---- the item

abbrev pub section : Source → (word : List ℕ) → (commands : Option Json) → Form
section m word cs = headed word (command_forms m (part cs))

abbrev pub branch_forms : Source → Items → List Form
branch_forms m no_items = []
branch_forms m (item j js) = Node (command_forms m (items_in j)) ∷ branch_forms m js

abbrev pub two_forms : Source → Items → List Form
two_forms m js = section m (codes "left") (first js) ∷ section m (codes "right") (first (others js)) ∷ []

abbrev pub many_forms : Source → Items → List Form
many_forms m js = headed (codes "branches") (branch_forms m js) ∷ []

-- `left` and `right`, or another number of branches
abbrev pub branches_forms : Source → Items → List Form
branches_forms m js =
    if nat_eq (length_of js) 2 then two_forms m js else many_forms m js

abbrev pub suffix_forms : Source → Option Json → List Form
suffix_forms m None = []
suffix_forms m (Some j) = section m (codes "suffix") (Some j) ∷ []

-- the lists of replies to the parts of an item
abbrev pub lists_in : Source → Json → Items → List Form
lists_in m j lists = list_forms m (prefix_of j) (part (branches_of j)) (suffix_of j) lists

abbrev pub replies_forms : Source → Json → Option Json → List Form
replies_forms m j None = []
replies_forms m j (Some lists) =
    headed (codes "replies") (lists_in m j (items_in lists)) ∷ []

abbrev pub times_forms : Option Json → List Form
times_forms None = []
times_forms (Some lists) = headed (codes "times") (times_in (items_in lists)) ∷ []

-- the replies, and the times after them
abbrev pub records_forms : Source → Json → List Form
records_forms m j = replies_forms m j (replies_of j) ++ times_forms (times_of j)

abbrev pub head_of : Option Json → List ℕ
head_of None = codes "case"
head_of (Some lists) = codes "run"

-- the parts of an item, which is a case if it has no replies
abbrev pub whole_form : Source → Json → Form
whole_form m j =
    headed (head_of (replies_of j)) (section m (codes "prefix") (prefix_of j)
    ∷ branches_forms m (part (branches_of j)) ++ (suffix_forms m (suffix_of j) ++ records_forms m j))

-- the tree of an item; `()` if it has another form, or no spelling
abbrev pub item_form : Source → Json → Form
item_form m j = if is_item j then if_spelled (whole_form m j) nothing else nothing
