-- Where nodes are different and none comes before its parts, different nodes have different types.
use Rattle.std.proofs.Common.{◌≡◌, ℕ, zero, suc, ◌<◌, ◌≤◌, true, false, if◌then◌else◌, List, [], ◌∷◌, map, length, Some, slice_get, get_or, refl, sym, ap, ◌∙◌, subst, arith, eqb, inl, inr}
use Rattle.std.proofs.lemmas.Bool.{cases_Bool}
use Rattle.std.specs.List.{AllByRecursion, IsDistinct}
use Rattle.std.proofs.lemmas.Bool.Decides.{Decides-eqb}
use Rattle.std.proofs.lemmas.Option.{slice_get-get_or}
use Rattle.pst_typing.proofs.Exact.{same_node, same_node_refl}
use Rattle.pst_typing.proofs.Growing.{shown, types_length}
use Rattle.pst_typing.specs.Nodes.{type_at, node_type, types_after, AreBelow, IsBelow, AreClosed}
use Rattle.pst_typing.specs.declared.kinds.nodes.Node.{Node}
use Rattle.pst_typing.specs.declared.kinds.nodes.Node.TheVariants as node
use Rattle.pst_value.proofs.ExactTypes.{same_ty-Decides}
use Rattle.pst_value.specs.Equality.{same_ty}
use Rattle.pst_value.specs.declared.ty.Ty.{Ty, out-Ty}
use Rattle.pst_value.specs.declared.ty.Ty.TheOpen.{Ty-F}
use Rattle.pst_value.specs.declared.ty.Ty.TheVariants as ty

-- ---- the node of a type, where the number of each of its parts can be found

rebuilt_at : (Ty → ℕ) → Ty-F Ty → Node
rebuilt_at find Ty-F.Int = node.Int
rebuilt_at find Ty-F.Bool = node.Bool
rebuilt_at find Ty-F.Text = node.Text
rebuilt_at find (Ty-F.Tuple ts) = node.Tuple (map find ts)
rebuilt_at find (Ty-F.List t) = node.List (find t)
rebuilt_at find (Ty-F.Map k t) = node.Map k (find t)
rebuilt_at find (Ty-F.Ref t) = node.Ref (find t)
rebuilt_at find Ty-F.Call = node.Call

module _ (types : List Ty) (find : Ty → ℕ) (bound : ℕ) (finds : (part : ℕ) → part < bound → find (type_at types part) ≡ part) where
  parts_found : (parts : List ℕ) → AreBelow bound parts → map find (map (type_at types) parts) ≡ parts
  parts_found [] h = refl
  parts_found (part ∷ parts) h = let e = finds part h.0 in let es = parts_found parts h.1 in cc

  rebuilt : (n : Node) → IsBelow bound n → rebuilt_at find (out-Ty (node_type types n)) ≡ n
  unfolding rebuilt_at
  rebuilt node.Int h = ap (rebuilt_at find) ty.outs-Int
  rebuilt node.Bool h = ap (rebuilt_at find) ty.outs-Bool
  rebuilt node.Text h = ap (rebuilt_at find) ty.outs-Text
  rebuilt (node.Tuple parts) h = ap (rebuilt_at find) (ty.outs-Tuple (map (type_at types) parts)) ∙ ap node.Tuple (parts_found parts h)
  rebuilt (node.List part) h = ap (rebuilt_at find) (ty.outs-List (type_at types part)) ∙ ap node.List (finds part h)
  rebuilt (node.Map k part) h = ap (rebuilt_at find) (ty.outs-Map k (type_at types part)) ∙ ap (node.Map k) (finds part h)
  rebuilt (node.Ref part) h = ap (rebuilt_at find) (ty.outs-Ref (type_at types part)) ∙ ap node.Ref (finds part h)
  rebuilt node.Call h = ap (rebuilt_at find) ty.outs-Call

  one_level : (n m : Node) → IsBelow bound n → IsBelow bound m → node_type types n ≡ node_type types m → n ≡ m
  one_level n m hn hm e = sym (rebuilt n hn) ∙ ap (λ t. rebuilt_at find (out-Ty t)) e ∙ rebuilt m hm

-- ---- the first number of a type

abbrev first : Ty → List Ty → ℕ
first T [] = 0
first T (S ∷ types) = if same_ty S T then 0 else suc (first T types)

record IsFirst (types : List Ty) (part found : ℕ) : Type 0 where
  early : found ≤ part
  is : type_at types found ≡ type_at types part

first_at : (types : List Ty) (part : ℕ) → part < length types → IsFirst types part (first (type_at types part) types)
first_at [] part h = absurd (omega arith)
first_at (S ∷ types) zero h = rw ((same_ty-Decides S S).1 refl) (record { early = omega arith; is = refl })
first_at (S ∷ types) (suc part) h =
    let f : IsFirst types part (first (type_at types part) types) = first_at types part (omega arith) in
    elim (cases_Bool (same_ty S (type_at types part))) [
      | inl e ↦ rw e (record { early = omega arith; is = (same_ty-Decides S (type_at types part)).0 e })
      | inr e ↦ rw e (record { early = omega (arith, f.early); is = f.is })
    ]

-- ---- numbers of distinct nodes

all_differ : (x n : Node) (nodes : List Node) (j : ℕ) → AllByRecursion (λ y. same_node x y ≡ false) nodes → slice_get nodes j ≡ Some n → same_node x n ≡ false
all_differ x n [] j h found = cc
all_differ x n (m ∷ nodes) zero h found = let e : m ≡ n = cc in subst (λ y. same_node x y ≡ false) e h.0
all_differ x n (m ∷ nodes) (suc j) h found = all_differ x n nodes j h.1 found

differs : (x n : Node) → x ≡ n → same_node x n ≡ false → ⊥
differs x n e d = let r : same_node x n ≡ true = subst (λ y. same_node x y ≡ true) e (same_node_refl x) in cc

pub distinct_at : (nodes : List Node) (n : Node) (i j : ℕ) → IsDistinct same_node nodes → slice_get nodes i ≡ Some n → slice_get nodes j ≡ Some n → i ≡ j
unfolding IsDistinct
distinct_at [] n i j d hi hj = cc
distinct_at (m ∷ nodes) n zero zero d hi hj = refl
distinct_at (m ∷ nodes) n zero (suc j) d hi hj = absurd (differs m n (cc) (all_differ m n nodes j d.0 hj))
distinct_at (m ∷ nodes) n (suc i) zero d hi hj = absurd (differs m n (cc) (all_differ m n nodes i d.0 hi))
distinct_at (m ∷ nodes) n (suc i) (suc j) d hi hj = ap suc (distinct_at nodes n i j d.1 hi hj)

-- ---- below a bound, equal types have one number

pub AreBelow_more : (low bound : ℕ) → low ≤ bound → (parts : List ℕ) → AreBelow low parts → AreBelow bound parts
AreBelow_more low bound le [] h = tt
AreBelow_more low bound le (part ∷ parts) h = let p : part < low = h.0 in (omega arith, AreBelow_more low bound le parts h.1)

pub IsBelow_more : (low bound : ℕ) → low ≤ bound → (n : Node) → IsBelow low n → IsBelow bound n
IsBelow_more low bound le node.Int h = tt
IsBelow_more low bound le node.Bool h = tt
IsBelow_more low bound le node.Text h = tt
IsBelow_more low bound le (node.Tuple parts) h = AreBelow_more low bound le parts h
IsBelow_more low bound le (node.List part) h = omega arith
IsBelow_more low bound le (node.Map k part) h = omega arith
IsBelow_more low bound le (node.Ref part) h = omega arith
IsBelow_more low bound le node.Call h = tt

module _ (nodes : List Node) (closed : AreClosed 0 nodes) (distinct : IsDistinct same_node nodes) where
  abbrev types : List Ty
  types = types_after [] nodes

  abbrev Tells : ℕ → Type 0
  Tells bound = (i j : ℕ) → i < bound → j < bound → type_at types i ≡ type_at types j → i ≡ j

  tells_more : (bound : ℕ) → bound < length nodes → Tells bound → Tells (suc bound)
  tells_more bound room tells i j hi hj e =
      let n = get_or nodes i node.Int in
      let m = get_or nodes j node.Int in
      let at_i : slice_get nodes i ≡ Some n = slice_get-get_or nodes i node.Int (omega arith) in
      let at_j : slice_get nodes j ≡ Some m = slice_get-get_or nodes j node.Int (omega arith) in
      let si = shown nodes closed i n at_i in
      let sj = shown nodes closed j m at_j in
      let finds : (part : ℕ) → part < bound → first (type_at types part) types ≡ part = λ part below.
      let f = first_at types part (omega (arith, types_length nodes closed)) in
      tells (first (type_at types part) types) part (omega (arith, f.early)) below f.is in
      let same : n ≡ m = one_level types (λ T. first T types) bound finds n m (IsBelow_more i bound (omega arith) n si.1) (IsBelow_more j bound (omega arith) m sj.1) (sym si.0 ∙ e ∙ sj.0) in
      distinct_at nodes n i j distinct at_i (at_j ∙ ap Some (sym same))

  tells_below : (bound : ℕ) → bound ≤ length nodes → Tells bound
  tells_below zero room i j hi hj e = absurd (omega arith)
  tells_below (suc bound) room i j hi hj e = tells_more bound (omega arith) (tells_below bound (omega arith)) i j hi hj e

  pub one_number : (i j : ℕ) → i < length types → j < length types → type_at types i ≡ type_at types j → i ≡ j
  one_number i j hi hj e = tells_below (length nodes) (omega arith) i j (omega (arith, types_length nodes closed)) (omega (arith, types_length nodes closed)) e

  pub same_number : (i j : ℕ) → i < length types → j < length types → eqb i j ≡ same_ty (type_at types i) (type_at types j)
  same_number i j hi hj = elim (cases_Bool (eqb i j)) [
    | inl e ↦ e ∙ sym ((same_ty-Decides (type_at types i) (type_at types j)).1 (ap (type_at types) ((Decides-eqb i j).0 e)))
    | inr e ↦ elim (cases_Bool (same_ty (type_at types i) (type_at types j))) [
      | inl f ↦ let g : eqb i j ≡ true = (Decides-eqb i j).1 (one_number i j hi hj ((same_ty-Decides (type_at types i) (type_at types j)).0 f)) in cc
      | inr f ↦ e ∙ sym f
    ]
  ]
