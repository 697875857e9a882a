-- Nodes that are taken over from others in turn, each of whose parts has a place here.
use Rattle.std.proofs.Common.{◌≡◌, ℕ, zero, suc, ◌+◌, ◌<◌, ◌≤◌, ◌⊎◌, List, [], ◌∷◌, ◌++◌, map, length, get_or, refl, sym, ap, ◌∙◌, subst, inl, inr, arith, append_assoc, length-append}
use Rattle.std.proofs.lemmas.Bool.{cases_lt}
use Rattle.std.proofs.lemmas.List.{append-nil}
use Rattle.std.proofs.Math.ListN.{get_or-append}
use Rattle.std.proofs.Math.Seq.{get_or-append_seam}
use Rattle.std.specs.List.{slice_index}
use Rattle.pst_typing.proofs.Growing.{at_extended}
use Rattle.pst_typing.specs.Adding.{Extends, IsAdded, renumbered}
use Rattle.pst_typing.specs.Nodes.{type_at, node_type, AreBelow, IsBelow}
use Rattle.pst_typing.specs.declared.kinds.nodes.Node.{Node}
use Rattle.pst_typing.specs.declared.kinds.nodes.Node.TheVariants as node
use Rattle.pst_value.specs.declared.ty.Ty.{Ty}
use Rattle.pst_value.specs.declared.ty.Ty.TheVariants as ty

pub extends_self : (types : List Ty) → Extends types types
extends_self types = record { rest = []; is = sym (append-nil types) }

pub extends_both : (a b c : List Ty) → Extends a b → Extends b c → Extends a c
extends_both a b c e f = record { rest = e.rest ++ f.rest; is = f.is ∙ ap (λ xs. xs ++ f.rest) e.is ∙ append_assoc a e.rest f.rest }

less_or_same : (a b : ℕ) → a < b + 1 → (a < b) ⊎ (a ≡ b)
less_or_same a b h = elim (cases_lt a b) [ inl p ↦ inl p | inr q ↦ inr (omega arith) ]

pub below_at : (bound : ℕ) (parts : List ℕ) (k : ℕ) → AreBelow bound parts → k < length parts → get_or parts k 0 < bound
below_at bound [] k h l = absurd (omega arith)
below_at bound (part ∷ parts) zero h l = h.0
below_at bound (part ∷ parts) (suc k) h l = below_at bound parts k h.1 (omega arith)

-- what has a number keeps it
pub at_kept : (old new : List Ty) (number : ℕ) → Extends old new → number < length old → type_at new number ≡ type_at old number
at_kept old new number e h = ap (λ xs. type_at xs number) e.is ∙ at_extended old e.rest number h

pub length_kept : (old new : List Ty) → Extends old new → length old ≤ length new
length_kept old new e = omega (arith, ap length e.is, length-append old e.rest)

-- a part of others has a place here, with its type
pub record Place (new others : List Ty) (places : List ℕ) (part : ℕ) : Type 0 where
  pub within : slice_index places part < length new
  pub is : type_at new (slice_index places part) ≡ type_at others part

-- the first nodes of others are taken over
pub record IsTaken (old new others : List Ty) (places : List ℕ) (count : ℕ) : Type 0 where
  pub extends : Extends old new
  pub counted : length places ≡ count
  pub place : (part : ℕ) → part < count → Place new others places part

module _ (old new others : List Ty) (places : List ℕ) (count : ℕ) (taken : IsTaken old new others places count) where
  parts_below : (parts : List ℕ) → AreBelow count parts → AreBelow (length new) (map (slice_index places) parts)
  parts_below [] h = tt
  parts_below (part ∷ parts) h = ((taken.place part h.0).within, parts_below parts h.1)

  pub moved_below : (n : Node) → IsBelow count n → IsBelow (length new) (renumbered places n)
  moved_below node.Int h = tt
  moved_below node.Bool h = tt
  moved_below node.Text h = tt
  moved_below (node.Tuple parts) h = parts_below parts h
  moved_below (node.List part) h = (taken.place part h).within
  moved_below (node.Map k part) h = (taken.place part h).within
  moved_below (node.Ref part) h = (taken.place part h).within
  moved_below node.Call h = tt

  parts_types : (parts : List ℕ) → AreBelow count parts → map (type_at new) (map (slice_index places) parts) ≡ map (type_at others) parts
  parts_types [] h = refl
  parts_types (part ∷ parts) h = let e = (taken.place part h.0).is in let es = parts_types parts h.1 in cc

  pub moved_type : (n : Node) → IsBelow count n → node_type new (renumbered places n) ≡ node_type others n
  moved_type node.Int h = refl
  moved_type node.Bool h = refl
  moved_type node.Text h = refl
  moved_type (node.Tuple parts) h = ap ty.Tuple (parts_types parts h)
  moved_type (node.List part) h = ap ty.List (taken.place part h).is
  moved_type (node.Map k part) h = ap (ty.Map k) (taken.place part h).is
  moved_type (node.Ref part) h = ap ty.Ref (taken.place part h).is
  moved_type node.Call h = refl

  module _ (n : Node) (below : IsBelow count n) (shown : node_type others n ≡ type_at others count) (newer : List Ty) (number : ℕ)
      (added : IsAdded new newer number (node_type new (renumbered places n))) (more : List ℕ) (are : more ≡ places ++ number ∷ []) where
    old_place : (part : ℕ) → part < count → Place newer others more part
    old_place part h =
        let p = taken.place part h in
        let same : slice_index more part ≡ slice_index places part = ap (λ xs. slice_index xs part) are ∙ get_or-append places (number ∷ []) 0 part (omega (arith, taken.counted)) in
        record {
          within = omega (arith, p.within, same, length_kept new newer added.extends);
          is = ap (type_at newer) same ∙ at_kept new newer (slice_index places part) added.extends p.within ∙ p.is;
        }

    new_place : Place newer others more count
    new_place =
        let same : slice_index more count ≡ number = ap (slice_index more) (sym taken.counted) ∙ ap (λ xs. slice_index xs (length places)) are ∙ get_or-append_seam places number [] 0 in
        record {
          within = omega (arith, same, added.within);
          is = ap (type_at newer) same ∙ added.is ∙ moved_type n below ∙ shown;
        }

    pub taken_more : IsTaken old newer others more (count + 1)
    taken_more = record {
      extends = extends_both old new newer taken.extends added.extends;
      counted = omega (arith, ap length are, length-append places (number ∷ []), taken.counted);
      place = λ part h. elim (less_or_same part count h) [ inl p ↦ old_place part p | inr p ↦ subst (Place newer others more) (sym p) new_place ];
    }

pub taken_none : (old others : List Ty) → IsTaken old old others [] 0
taken_none old others = record { extends = extends_self old; counted = refl; place = λ part h. absurd (omega arith) }
