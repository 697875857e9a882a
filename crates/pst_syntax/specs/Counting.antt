-- How many trees stand in a tree.
use Rattle.std.specs.Prelude.{ℕ, suc, ◌-◌, nat_le, if◌then◌else◌, Option, Some, None}
use Rattle.std.specs.List.{sum}
use Rattle.pst_sexpr.specs.declared.form.Form.{Form, fold-Form}
use Rattle.pst_sexpr.specs.declared.form.Form.TheOpen.{Form-F}

abbrev pub layer_trees : Form-F ℕ → ℕ
layer_trees (Form-F.Word bytes) = 1
layer_trees (Form-F.Text bytes) = 1
layer_trees (Form-F.Node parts) = suc (sum parts)

-- a tree, and all trees in it
unfoldable pub trees_in : Form → ℕ
trees_in = fold-Form ℕ layer_trees

-- what is left of so much room, where there is enough
abbrev pub spent : ℕ → ℕ → Option ℕ
spent trees room = if nat_le trees room then Some (room - trees) else None
