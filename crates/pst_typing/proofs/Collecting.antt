-- Types whose numbers are collected in turn.
use Rattle.std.proofs.Common.{◌≡◌, ℕ, ◌+◌, ◌<◌, List, [], ◌∷◌, ◌++◌, map, length, get_or, take, refl, sym, ap, ◌∙◌, subst}
use Rattle.std.proofs.lemmas.List.{take_more}
use Rattle.pst_typing.proofs.Injective.{AreBelow_more}
use Rattle.pst_typing.proofs.Taking.{at_kept, extends_both, length_kept}
use Rattle.pst_typing.specs.Adding.{Extends, IsAdded, AreAdded}
use Rattle.pst_typing.specs.Nodes.{type_at, AreBelow}
use Rattle.pst_value.specs.declared.ty.Ty.{Ty}

types_kept : (old new : List Ty) → Extends old new → (parts : List ℕ) → AreBelow (length old) parts → map (type_at new) parts ≡ map (type_at old) parts
types_kept old new e [] h = refl
types_kept old new e (part ∷ parts) h = let p = at_kept old new part e h.0 in let ps = types_kept old new e parts h.1 in cc

one_below : (bound : ℕ) (parts : List ℕ) (part : ℕ) → AreBelow bound parts → part < bound → AreBelow bound (parts ++ part ∷ [])
one_below bound [] part h l = (l, tt)
one_below bound (p ∷ parts) part h l = (h.0, one_below bound parts part h.1 l)

one_type : (types : List Ty) (parts : List ℕ) (part : ℕ) → map (type_at types) (parts ++ part ∷ []) ≡ map (type_at types) parts ++ type_at types part ∷ []
one_type types [] part = refl
one_type types (p ∷ parts) part = ap (λ ts. type_at types p ∷ ts) (one_type types parts part)

pub added_more : (old new newer types : List Ty) (numbers more : List ℕ) (k number : ℕ) (T : Ty) → AreAdded old new numbers (take k types) → k < length types → T ≡ get_or types k T
    → IsAdded new newer number T → more ≡ numbers ++ number ∷ [] → AreAdded old newer more (take (k + 1) types)
added_more old new newer types numbers more k number T are room is added ends =
    let below : AreBelow (length newer) (numbers ++ number ∷ []) =
    one_below (length newer) numbers number (AreBelow_more (length new) (length newer) (length_kept new newer added.extends) numbers are.within) added.within in
    let e : map (type_at newer) (numbers ++ number ∷ []) ≡ take k types ++ T ∷ [] =
    one_type newer numbers number
    ∙ ap (λ ts. ts ++ type_at newer number ∷ []) (types_kept new newer added.extends numbers are.within ∙ are.are)
    ∙ ap (λ t. take k types ++ t ∷ []) added.is in
    record {
      extends = extends_both old new newer are.extends added.extends;
      within = subst (AreBelow (length newer)) (sym ends) below;
      are = ap (map (type_at newer)) ends ∙ e ∙ ap (λ t. take k types ++ t ∷ []) is ∙ sym (take_more types k T room);
    }
