-- Types as lists of nodes, in which a part is the number of a node before it.
use Rattle.std.specs.Prelude.{ℕ, ◌+◌, ◌<◌, List, [], ◌∷◌, ◌++◌, map}
use Rattle.std.specs.List.{slice_index_or}
use Rattle.pst_typing.specs.declared.kinds.nodes.Node.{Node}
use Rattle.pst_typing.specs.declared.kinds.nodes.Node.TheVariants as node
use Rattle.pst_value.specs.declared.ty.Ty.{Ty}
use Rattle.pst_value.specs.declared.ty.Ty.TheVariants as ty

-- the type of the node of a number, by the types of all nodes
abbrev pub type_at : List Ty → ℕ → Ty
type_at types number = slice_index_or types number ty.Int

-- the type of a node, by the types of the nodes that are its parts
abbrev pub node_type : List Ty → Node → Ty
node_type types node.Int = ty.Int
node_type types node.Bool = ty.Bool
node_type types node.Text = ty.Text
node_type types (node.Tuple parts) = ty.Tuple (map (type_at types) parts)
node_type types (node.List part) = ty.List (type_at types part)
node_type types (node.Map k part) = ty.Map k (type_at types part)
node_type types (node.Ref part) = ty.Ref (type_at types part)
node_type types node.Call = ty.Call

-- the types of nodes in turn, behind those that there are
abbrev pub types_after : List Ty → List Node → List Ty
types_after types [] = types
types_after types (n ∷ nodes) = types_after (types ++ node_type types n ∷ []) nodes

-- whether all numbers are below a number
abbrev pub AreBelow : ℕ → List ℕ → Type 0
AreBelow bound [] = Unit {0}
AreBelow bound (part ∷ parts) = (part < bound) × AreBelow bound parts

-- whether the numbers of the parts are below a number
abbrev pub IsBelow : ℕ → Node → Type 0
IsBelow bound node.Int = Unit {0}
IsBelow bound node.Bool = Unit {0}
IsBelow bound node.Text = Unit {0}
IsBelow bound (node.Tuple parts) = AreBelow bound parts
IsBelow bound (node.List part) = part < bound
IsBelow bound (node.Map k part) = part < bound
IsBelow bound (node.Ref part) = part < bound
IsBelow bound node.Call = Unit {0}

-- whether the parts of each node, of which the first has this number, come before it
abbrev pub AreClosed : ℕ → List Node → Type 0
AreClosed number [] = Unit {0}
AreClosed number (n ∷ nodes) = IsBelow number n × AreClosed (number + 1) nodes
