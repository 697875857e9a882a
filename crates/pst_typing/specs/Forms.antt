-- The forms of kinds, and which nodes hold references.
use Rattle.std.specs.Prelude.{ℕ, Bool, true, false, List}
use Rattle.std.specs.List.{list_any, slice_index_or}
use Rattle.pst_typing.specs.declared.kinds.form.KindForm.{KindForm}
use Rattle.pst_typing.specs.declared.kinds.form.KindForm.TheVariants as form
use Rattle.pst_typing.specs.declared.kinds.nodes.Node.{Node}
use Rattle.pst_typing.specs.declared.kinds.nodes.Node.TheVariants as node
use Rattle.pst_value.specs.declared.ty.Ty.{Ty}
use Rattle.pst_value.specs.declared.ty.Ty.TheVariants as ty

-- the type of a form
abbrev pub formed : KindForm → Ty
formed form.Int = ty.Int
formed form.Bool = ty.Bool
formed form.Text = ty.Text
formed (form.Tuple ts) = ty.Tuple ts
formed (form.List t) = ty.List t
formed (form.Map k t) = ty.Map k t
formed (form.Ref t) = ty.Ref t
formed form.Call = ty.Call

-- whether the node of a number holds a reference or a call, by what is known of those before it
abbrev pub held_at : List Bool → ℕ → Bool
held_at held part = slice_index_or held part false

-- whether a node holds a reference or a call, by what is known of its parts
abbrev pub node_holds : List Bool → Node → Bool
node_holds held node.Int = false
node_holds held node.Bool = false
node_holds held node.Text = false
node_holds held (node.Tuple parts) = list_any (held_at held) parts
node_holds held (node.List part) = held_at held part
node_holds held (node.Map k part) = held_at held part
node_holds held (node.Ref part) = true
node_holds held node.Call = true
