-- A type in which neither a reference nor a call stands has a value.
use Rattle.std.proofs.Common.{◌≡◌, Bool, true, false, ◌||◌, List, [], ◌∷◌, map, refl, sym, ap, ◌∙◌, pos}
use Rattle.std.specs.List.{AllByRecursion, list_any}
use Rattle.pst_eval.proofs.Naming.{or_first, or_second}
use Rattle.pst_model.specs.Kinds.{holds_ref_or_call, holds_ref_at}
use Rattle.pst_value.proofs.ExactTypes.{type_induction}
use Rattle.pst_value.proofs.Holding.{list_any-map}
use Rattle.pst_value.proofs.Typing.{fits-Int-Int, fits-Truth-Bool, fits-Text-Text, fits-Tuple-Tuple, fits-List-List, fits-Map-Map}
use Rattle.pst_value.specs.Fits.{fits, fit_each}
use Rattle.pst_value.specs.declared.key.KeyTy.{KeyTy}
use Rattle.pst_value.specs.declared.ty.Ty.{Ty, Tuple, List as ListOf, Map as MapOf, Ref, Call, fold-Ty, fold-roll-Ty}
use Rattle.pst_value.specs.declared.ty.Ty.TheOpen.{Ty-F}
use Rattle.pst_value.specs.declared.ty.Ty.TheVariants.{rolls-Tuple, rolls-Ref, rolls-Call}
use Rattle.pst_value.specs.declared.value.Value.{Value}
use Rattle.pst_value.specs.declared.value.Value as value

holds-Tuple : (ts : List Ty) → holds_ref_or_call (Tuple ts) ≡ list_any holds_ref_or_call ts
unfolding holds_ref_or_call
holds-Tuple ts = ap (fold-Ty Bool holds_ref_at) (sym (rolls-Tuple ts)) ∙ fold-roll-Ty Bool holds_ref_at (Ty-F.Tuple ts) ∙ list_any-map holds_ref_or_call ts

holds-Ref : (t : Ty) → holds_ref_or_call (Ref t) ≡ true
unfolding holds_ref_or_call
holds-Ref t = ap (fold-Ty Bool holds_ref_at) (sym (rolls-Ref t)) ∙ fold-roll-Ty Bool holds_ref_at (Ty-F.Ref t)

holds-Call : holds_ref_or_call Call ≡ true
unfolding holds_ref_or_call
holds-Call = ap (fold-Ty Bool holds_ref_at) (sym rolls-Call) ∙ fold-roll-Ty Bool holds_ref_at Ty-F.Call

module _ (free vars : List Ty) (ops : List (List Ty)) where
  abbrev pub HasValue : Ty → Type 0
  HasValue t = holds_ref_or_call t ≡ false → (v : Value) × (fits free vars ops v t ≡ true)

  each_value : (ts : List Ty) → AllByRecursion HasValue ts → list_any holds_ref_or_call ts ≡ false → (vs : List Value) × (fit_each (map (fits free vars ops) vs) ts ≡ true)
  each_value [] h n = ([], refl)
  each_value (t ∷ ts) h n =
      let first = h.0 (or_first (holds_ref_or_call t) (list_any holds_ref_or_call ts) n) in
      let rest = each_value ts h.1 (or_second (holds_ref_or_call t) (list_any holds_ref_or_call ts) n) in
      (first.0 ∷ rest.0, rw (first.1, rest.1) refl)

  pub has_value : (t : Ty) → HasValue t
  has_value = type_induction HasValue (record {
    int = λ n. (value.Int (pos 0), fits-Int-Int free vars ops (pos 0));
    truth = λ n. (value.Bool true, fits-Truth-Bool free vars ops true);
    text = λ n. (value.Text [], fits-Text-Text free vars ops []);
    tuple = λ ts h n. let vs = each_value ts h (sym (holds-Tuple ts) ∙ n) in (value.Tuple vs.0, fits-Tuple-Tuple free vars ops vs.0 ts ∙ vs.1);
    items = λ t h n. (value.List [], fits-List-List free vars ops [] t);
    maps = λ k t h n. (value.Map [] [], fits-Map-Map free vars ops [] [] k t);
    ref = λ t h n. absurd (let q : true ≡ false = sym (holds-Ref t) ∙ n in cc);
    call = λ n. absurd (let q : true ≡ false = sym holds-Call ∙ n in cc);
  })
