-- The text of each form of a value.
use Rattle.std.proofs.Common.{◌≡◌, ℕ, ℤ, Bool, List, [], ◌∷◌, map, ◌++◌}
use Rattle.std.specs.Prelude.{codes, decimal}
use Rattle.std.specs.Fmt.{signed_decimal}
use Rattle.pst_value.proofs.Forms.{fold-Int, fold-Truth, fold-Text, fold-Tuple, fold-ListOf, fold-MapOf, fold-Var, fold-Ref, fold-Call}
use Rattle.pst_value.specs.declared.key.Key.{Key}
use Rattle.pst_value.specs.declared.value.Value.{Value, Int, Text, Tuple, List as ListOf, Map as MapOf, Var, Ref, Call, Bool as Truth}
use Rattle.pst_machine.specs.Listing.{truth_text, bytes_text, parts_text, entries_text, text_at, value_text}

pub text_Int : (n : ℤ) → value_text (Int n) ≡ signed_decimal n
unfolding value_text
text_Int n = fold-Int (List ℕ) text_at n

pub text_Truth : (b : Bool) → value_text (Truth b) ≡ truth_text b
unfolding value_text
text_Truth b = fold-Truth (List ℕ) text_at b

pub text_Text : (t : List ℕ) → value_text (Text t) ≡ 34 ∷ bytes_text t ++ 34 ∷ []
unfolding value_text
text_Text t = fold-Text (List ℕ) text_at t

pub text_Tuple : (vs : List Value) → value_text (Tuple vs) ≡ codes "(tuple" ++ parts_text (map value_text vs) ++ 41 ∷ []
unfolding value_text
text_Tuple vs = fold-Tuple (List ℕ) text_at vs

pub text_ListOf : (vs : List Value) → value_text (ListOf vs) ≡ codes "(list" ++ parts_text (map value_text vs) ++ 41 ∷ []
unfolding value_text
text_ListOf vs = fold-ListOf (List ℕ) text_at vs

pub text_MapOf : (ks : List Key) (vs : List Value) → value_text (MapOf ks vs) ≡ codes "(map" ++ entries_text ks (map value_text vs) ++ 41 ∷ []
unfolding value_text
text_MapOf ks vs = fold-MapOf (List ℕ) text_at ks vs

pub text_Var : (n : ℕ) → value_text (Var n) ≡ codes "$" ++ decimal n
unfolding value_text
text_Var n = fold-Var (List ℕ) text_at n

pub text_Ref : (n : ℕ) (v : Value) → value_text (Ref n v) ≡ value_text v
unfolding value_text
text_Ref n v = fold-Ref (List ℕ) text_at n v

pub text_Call : (op : ℕ) (vs : List Value) → value_text (Call op vs) ≡ codes "(call" ++ parts_text (map value_text vs) ++ 41 ∷ []
unfolding value_text
text_Call op vs = fold-Call (List ℕ) text_at op vs

-- for the code
pub ruleset value_texts = (text_Int, text_Truth, text_Text, text_Tuple, text_ListOf, text_MapOf, text_Var, text_Ref, text_Call)
