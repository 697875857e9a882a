-- What adding a type to a list of types does.
use Rattle.std.specs.Prelude.{◌≡◌, ℕ, ◌<◌, List, ◌++◌, length, map, slice_index}
use Rattle.pst_typing.specs.Nodes.{type_at, AreBelow}
use Rattle.pst_typing.specs.declared.kinds.nodes.Node.{Node}
use Rattle.pst_typing.specs.declared.kinds.nodes.Node.TheVariants as node
use Rattle.pst_value.specs.declared.ty.Ty.{Ty}

-- the types that there were stay, and others follow
pub record Extends (old new : List Ty) : Type 0 where
  pub rest : List Ty
  pub is : new ≡ old ++ rest

-- the type has the number
pub record IsAdded (old new : List Ty) (number : ℕ) (T : Ty) : Type 0 where
  pub extends : Extends old new
  pub within : number < length new
  pub is : type_at new number ≡ T

-- types have these numbers
pub record AreAdded (old new : List Ty) (numbers : List ℕ) (types : List Ty) : Type 0 where
  pub extends : Extends old new
  pub within : AreBelow (length new) numbers
  pub are : map (type_at new) numbers ≡ types

-- a node whose parts have other numbers
abbrev pub renumbered : List ℕ → Node → Node
renumbered places node.Int = node.Int
renumbered places node.Bool = node.Bool
renumbered places node.Text = node.Text
renumbered places (node.Tuple parts) = node.Tuple (map (slice_index places) parts)
renumbered places (node.List part) = node.List (slice_index places part)
renumbered places (node.Map k part) = node.Map k (slice_index places part)
renumbered places (node.Ref part) = node.Ref (slice_index places part)
renumbered places node.Call = node.Call
