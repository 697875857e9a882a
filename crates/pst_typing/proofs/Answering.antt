-- What reading a node and adding one give.
use Rattle.std.proofs.Common.{◌≡◌, ℕ, true, List, [], ◌∷◌, ◌++◌, length, Some, slice_get, sym, ap, ◌∙◌, subst, inl, inr}
use Rattle.std.proofs.lemmas.Bool.{cases_Bool}
use Rattle.std.specs.List.{list_any}
use Rattle.indexmap.specs.IndexSet.{insert_key}
use Rattle.pst_typing.proofs.Exact.{same_node, node_exact}
use Rattle.pst_typing.proofs.Growing.{shown, there, pushed, pushed_closed}
use Rattle.pst_typing.specs.Adding.{IsAdded}
use Rattle.pst_typing.specs.Nodes.{type_at, node_type, types_after, IsBelow, AreClosed}
use Rattle.pst_typing.specs.declared.kinds.nodes.Node.{Node}
use Rattle.pst_value.specs.declared.ty.Ty.{Ty}

module _ (nodes : List Node) (closed : AreClosed 0 nodes) (types : List Ty) (view : types_after [] nodes ≡ types) where
  pub read : (number : ℕ) (n : Node) → Some n ≡ slice_get nodes number → (node_type types n ≡ type_at types number) × IsBelow number n
  read number n e =
      let s = shown nodes closed number n (sym e) in
      let P : List Ty → Type 0 = λ ts. (node_type ts n ≡ type_at ts number) × IsBelow number n in
      subst P view (sym s.0, s.1)

  module _ (n : Node) (below : IsBelow (length types) n) (number : ℕ) where
    abbrev Inserted : List Node → Type 0
    Inserted keys = IsAdded types (types_after [] keys) number (node_type types n) × AreClosed 0 keys

    here : IsBelow (length (types_after [] nodes)) n
    here = subst (λ ts. IsBelow (length ts) n) (sym view) below

    abbrev Within : List Node → List Ty → Type 0
    Within keys ts = IsAdded ts (types_after [] keys) number (node_type ts n)

    inserted_at : slice_get (insert_key same_node nodes n) number ≡ Some n → Inserted (insert_key same_node nodes n)
    inserted_at = elim (cases_Bool (list_any (same_node n) nodes)) [
      | inl e ↦ rw e (λ found. (subst (Within nodes) view (there nodes closed n here number found), closed))
      | inr e ↦ rw e (λ found. (subst (Within (nodes ++ n ∷ [])) view (pushed nodes closed n here number found), pushed_closed nodes closed n here))
    ]

    pub inserted : (k : Node) (keys : List Node) → keys ≡ insert_key same_node nodes n → slice_get keys number ≡ Some k → same_node n k ≡ true → Inserted keys
    inserted k keys is found same =
        let e : n ≡ k = node_exact n k same in
        subst Inserted (sym is) (inserted_at (ap (λ ks. slice_get ks number) (sym is) ∙ found ∙ ap Some (sym e)))
