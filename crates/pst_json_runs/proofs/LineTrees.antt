-- The tree of a JSON item has a spelling.
use Rattle.std.proofs.Common.{ℕ, Bool, true, false, List, Option, Some, None}
use Rattle.std.specs.Prelude.{if◌then◌else◌}
use Rattle.json.specs.Json.{Json}
use Rattle.pst_json_runs.proofs.Lawful.{nothing_is_tree, kept_is_tree}
use Rattle.pst_json_runs.specs.Lines.{json_in, form_or_nothing, line_form}
use Rattle.pst_json_runs.specs.Trees.{is_item, whole_form, item_form, nothing}
use Rattle.pst_model.specs.declared.model.Source.{Source}
use Rattle.pst_sexpr.specs.Lawful.{IsTree}
use Rattle.pst_sexpr.specs.declared.form.Form.{Form}

or_none : (b : Bool) (form : Form) → IsTree form → IsTree (if b then form else nothing)
or_none true form h = h
or_none false form h = nothing_is_tree

pub item_is_tree : (m : Source) (j : Json) → IsTree (item_form m j)
item_is_tree m j = or_none (is_item j) _ (kept_is_tree (whole_form m j))

parsed_is_tree : (m : Source) (j : Option Json) → IsTree (form_or_nothing m j)
parsed_is_tree m None = nothing_is_tree
parsed_is_tree m (Some j) = item_is_tree m j

pub line_is_tree : (m : Source) (line : List ℕ) → IsTree (line_form m line)
line_is_tree m line = parsed_is_tree m (json_in line)
