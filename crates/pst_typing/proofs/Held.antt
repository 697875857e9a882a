-- Which nodes hold references and calls, in turn.
use Rattle.std.proofs.Common.{◌≡◌, ℕ, zero, suc, ◌+◌, ◌<◌, ◌≤◌, Bool, false, List, [], ◌∷◌, ◌++◌, map, length, get_or, take, refl, sym, ap, ◌∙◌, arith, length-take}
use Rattle.std.proofs.lemmas.List.{take_more, get_or-take}
use Rattle.std.specs.List.{list_any}
use Rattle.pst_model.specs.Kinds.{holds_ref_or_call}
use Rattle.pst_typing.proofs.Holding.{holds_ref_or_call-Int, holds_ref_or_call-Truth, holds_ref_or_call-Text, holds_ref_or_call-Tuple, holds_ref_or_call-ListOf, holds_ref_or_call-MapOf, holds_ref_or_call-Ref, holds_ref_or_call-Call}
use Rattle.pst_typing.specs.Forms.{held_at, node_holds}
use Rattle.pst_typing.specs.Nodes.{type_at, node_type, AreBelow, IsBelow}
use Rattle.pst_typing.specs.declared.kinds.nodes.Node.{Node}
use Rattle.pst_typing.specs.declared.kinds.nodes.Node.TheVariants as node
use Rattle.pst_value.specs.declared.ty.Ty.{Ty}
use Rattle.pst_value.specs.declared.ty.Ty.TheVariants as ty

-- what is known of the first types
abbrev pub held_of : List Ty → ℕ → List Bool
held_of types count = map holds_ref_or_call (take count types)

held_map : (types : List Ty) (part : ℕ) → part < length types → get_or (map holds_ref_or_call types) part false ≡ holds_ref_or_call (get_or types part ty.Int)
held_map [] part h = absurd (omega arith)
held_map (T ∷ types) zero h = refl
held_map (T ∷ types) (suc part) h = held_map types part (omega arith)

module _ (types : List Ty) (count : ℕ) (room : count ≤ length types) where
  part_held : (part : ℕ) → part < count → held_at (held_of types count) part ≡ holds_ref_or_call (type_at types part)
  part_held part h =
      held_map (take count types) part (omega (arith, length-take count types)) ∙ ap holds_ref_or_call (get_or-take count types part ty.Int h)

  parts_held : (parts : List ℕ) → AreBelow count parts → list_any (held_at (held_of types count)) parts ≡ list_any holds_ref_or_call (map (type_at types) parts)
  parts_held [] h = refl
  parts_held (part ∷ parts) h = let e = part_held part h.0 in let es = parts_held parts h.1 in cc

  pub node_held : (n : Node) → IsBelow count n → node_holds (held_of types count) n ≡ holds_ref_or_call (node_type types n)
  node_held node.Int h = sym holds_ref_or_call-Int
  node_held node.Bool h = sym holds_ref_or_call-Truth
  node_held node.Text h = sym holds_ref_or_call-Text
  node_held (node.Tuple parts) h = parts_held parts h ∙ sym (holds_ref_or_call-Tuple (map (type_at types) parts))
  node_held (node.List part) h = part_held part h ∙ sym (holds_ref_or_call-ListOf (type_at types part))
  node_held (node.Map k part) h = part_held part h ∙ sym (holds_ref_or_call-MapOf k (type_at types part))
  node_held (node.Ref part) h = sym (holds_ref_or_call-Ref (type_at types part))
  node_held node.Call h = sym holds_ref_or_call-Call

map_end : (ts : List Ty) (T : Ty) → map holds_ref_or_call (ts ++ T ∷ []) ≡ map holds_ref_or_call ts ++ holds_ref_or_call T ∷ []
map_end [] T = refl
map_end (S ∷ ts) T = ap (λ xs. holds_ref_or_call S ∷ xs) (map_end ts T)

-- one more node
pub held_more : (types : List Ty) (count : ℕ) (n : Node) (h : Bool) (held more : List Bool) → count < length types → IsBelow count n → node_type types n ≡ type_at types count
    → held ≡ held_of types count → h ≡ node_holds held n → more ≡ held ++ h ∷ [] → more ≡ held_of types (count + 1)
held_more types count n h held more room below shown is holds ends =
    let e : h ≡ holds_ref_or_call (type_at types count) = holds ∙ ap (λ xs. node_holds xs n) is ∙ node_held types count (omega arith) n below ∙ ap holds_ref_or_call shown in
    ends ∙ ap (λ xs. xs ++ h ∷ []) is ∙ ap (λ b. held_of types count ++ b ∷ []) e
    ∙ sym (map_end (take count types) (type_at types count)) ∙ ap (map holds_ref_or_call) (sym (take_more types count ty.Int room))
