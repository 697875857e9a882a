-- Lists of types that grow by the types of nodes.
use Rattle.std.proofs.Common.{◌≡◌, ℕ, zero, suc, ◌+◌, ◌<◌, List, [], ◌∷◌, ◌++◌, map, length, Some, slice_get, refl, sym, ap, ◌∙◌, subst, arith, append_assoc, length-append}
use Rattle.std.proofs.Math.ListN.{get_or-append}
use Rattle.std.proofs.lemmas.List.{append-nil}
use Rattle.std.proofs.lemmas.Option.{slice_get_within}
use Rattle.std.proofs.Math.Seq.{get_or-append_seam}
use Rattle.pst_typing.specs.Adding.{Extends, IsAdded}
use Rattle.pst_typing.specs.Nodes.{type_at, node_type, types_after, AreBelow, IsBelow, AreClosed}
use Rattle.pst_typing.specs.declared.kinds.nodes.Node.{Node}
use Rattle.pst_typing.specs.declared.kinds.nodes.Node.TheVariants as node
use Rattle.pst_value.specs.declared.ty.Ty.{Ty}
use Rattle.pst_value.specs.declared.ty.Ty.TheVariants as ty

-- ---- types that follow change none before them

pub at_extended : (types rest : List Ty) (number : ℕ) → number < length types → type_at (types ++ rest) number ≡ type_at types number
at_extended types rest number h = get_or-append types rest ty.Int number h

parts_extended : (types rest : List Ty) (parts : List ℕ) → AreBelow (length types) parts → map (type_at (types ++ rest)) parts ≡ map (type_at types) parts
parts_extended types rest [] h = refl
parts_extended types rest (part ∷ parts) h =
    let e = at_extended types rest part h.0 in
    let es = parts_extended types rest parts h.1 in
    cc

pub node_extended : (types rest : List Ty) (n : Node) → IsBelow (length types) n → node_type (types ++ rest) n ≡ node_type types n
node_extended types rest node.Int h = refl
node_extended types rest node.Bool h = refl
node_extended types rest node.Text h = refl
node_extended types rest (node.Tuple parts) h = ap ty.Tuple (parts_extended types rest parts h)
node_extended types rest (node.List part) h = ap ty.List (at_extended types rest part h)
node_extended types rest (node.Map k part) h = ap (ty.Map k) (at_extended types rest part h)
node_extended types rest (node.Ref part) h = ap ty.Ref (at_extended types rest part h)
node_extended types rest node.Call h = refl

-- ---- the types of nodes in turn

pub after_append : (types : List Ty) (nodes more : List Node) → types_after types (nodes ++ more) ≡ types_after (types_after types nodes) more
after_append types [] more = refl
after_append types (n ∷ nodes) more = after_append (types ++ node_type types n ∷ []) nodes more

pub after_extends : (types : List Ty) (nodes : List Node) → Extends types (types_after types nodes)
after_extends types [] = record { rest = []; is = sym (append-nil types) }
after_extends types (n ∷ nodes) =
    let e = after_extends (types ++ node_type types n ∷ []) nodes in
    record { rest = node_type types n ∷ e.rest; is = e.is ∙ append_assoc types (node_type types n ∷ []) e.rest }

pub after_length : (types : List Ty) (nodes : List Node) → length (types_after types nodes) ≡ length types + length nodes
after_length types [] = omega arith
after_length types (n ∷ nodes) =
    omega (arith, after_length (types ++ node_type types n ∷ []) nodes, length-append types (node_type types n ∷ []))

-- what is known of the node of a number among types
abbrev pub Shows : List Ty → ℕ → Node → Type 0
Shows types number n = (type_at types number ≡ node_type types n) × IsBelow number n

pub node_at : (types : List Ty) (nodes : List Node) (start k : ℕ) (n : Node) (number : ℕ) → start ≡ length types → number ≡ start + k
    → AreClosed start nodes → slice_get nodes k ≡ Some n → Shows (types_after types nodes) number n
node_at types [] start k n number s is closed found = cc
node_at types (m ∷ nodes) start zero n number s is closed found =
    let same : m ≡ n = cc in
    let T = node_type types m in
    let e = after_extends (types ++ T ∷ []) nodes in
    let whole : types_after types (m ∷ nodes) ≡ types ++ (T ∷ e.rest) = e.is ∙ append_assoc types (T ∷ []) e.rest in
    let place : number ≡ length types = omega arith in
    let below : IsBelow (length types) m = subst (λ b. IsBelow b m) s closed.0 in
    let there : type_at (types ++ (T ∷ e.rest)) number ≡ T = ap (type_at (types ++ (T ∷ e.rest))) place ∙ get_or-append_seam types T e.rest ty.Int in
    let shown : type_at (types ++ (T ∷ e.rest)) number ≡ node_type (types ++ (T ∷ e.rest)) m = there ∙ sym (node_extended types (T ∷ e.rest) m below) in
    let P : Node → Type 0 = λ x. Shows (types_after types (m ∷ nodes)) number x in
    let Q : List Ty → Type 0 = λ us. type_at us number ≡ node_type us m in
    subst P same (subst Q (sym whole) shown, subst (λ b. IsBelow b m) (sym place) below)
node_at types (m ∷ nodes) start (suc k) n number s is closed found =
    let T = node_type types m in
    node_at (types ++ T ∷ []) nodes (start + 1) k n number (omega (arith, length-append types (T ∷ []))) (omega arith) closed.1 found

-- ---- one more node

pub closed_push : (start bound : ℕ) (nodes : List Node) (n : Node) → bound ≡ start + length nodes → AreClosed start nodes → IsBelow bound n → AreClosed start (nodes ++ n ∷ [])
closed_push start bound [] n is closed below = (let P : ℕ → Type 0 = λ b. IsBelow b n in subst P (omega arith) below, tt)
closed_push start bound (m ∷ nodes) n is closed below = (closed.0, closed_push (start + 1) bound nodes n (omega arith) closed.1 below)

module _ (nodes : List Node) (closed : AreClosed 0 nodes) where
  abbrev types : List Ty
  types = types_after [] nodes

  pub types_length : length types ≡ length nodes
  types_length = omega (arith, after_length [] nodes)

  pub shown : (number : ℕ) (n : Node) → slice_get nodes number ≡ Some n → Shows types number n
  shown number n found = node_at [] nodes 0 number n number refl (omega arith) closed found

  module _ (n : Node) (below : IsBelow (length types) n) where
    pub pushed_closed : AreClosed 0 (nodes ++ n ∷ [])
    pushed_closed = closed_push 0 (length types) nodes n (omega (arith, types_length)) closed below

    pub pushed_types : types_after [] (nodes ++ n ∷ []) ≡ types ++ node_type types n ∷ []
    pushed_types = after_append [] nodes (n ∷ [])

    -- a node like it is there
    pub there : (number : ℕ) → slice_get nodes number ≡ Some n → IsAdded types types number (node_type types n)
    there number found =
        let inside : number < length nodes = slice_get_within nodes number n found in
        record { extends = record { rest = []; is = sym (append-nil types) }; within = omega (arith, types_length); is = (shown number n found).0 }

    -- it is pushed
    pub pushed : (number : ℕ) → slice_get (nodes ++ n ∷ []) number ≡ Some n → IsAdded types (types_after [] (nodes ++ n ∷ [])) number (node_type types n)
    pushed number found =
        let inside : number < length (nodes ++ n ∷ []) = slice_get_within (nodes ++ n ∷ []) number n found in
        let T = node_type types n in
        let s = node_at [] (nodes ++ n ∷ []) 0 number n number refl (omega arith) pushed_closed found in
        let here : type_at (types ++ T ∷ []) number ≡ node_type (types ++ T ∷ []) n = let Q : List Ty → Type 0 = λ us. type_at us number ≡ node_type us n in subst Q pushed_types s.0 in
        let is : type_at (types ++ T ∷ []) number ≡ T = here ∙ node_extended types (T ∷ []) n below in
        record {
          extends = record { rest = T ∷ []; is = pushed_types };
          within = omega (arith, after_length [] (nodes ++ n ∷ []));
          is = ap (λ us. type_at us number) pushed_types ∙ is;
        }
