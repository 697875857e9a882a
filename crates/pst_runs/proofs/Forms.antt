-- The tree that is written for each form of a value.
use Rattle.std.proofs.Common.{◌≡◌, ℕ, ℤ, Bool, List, map, ◌++◌}
use Rattle.std.specs.Prelude.{codes, decimal}
use Rattle.std.specs.Fmt.{signed_decimal}
use Rattle.pst_sexpr.specs.declared.form.Form.TheVariants.{Word, Text as TextForm, Node}
use Rattle.pst_sexpr.specs.declared.form.Form.{Form}
use Rattle.pst_value.proofs.Forms.{fold-Int, fold-Truth, fold-Text, fold-Tuple, fold-ListOf, fold-MapOf, fold-Var, fold-Ref, fold-Call}
use Rattle.pst_value.specs.declared.key.Key.{Key}
use Rattle.pst_value.specs.declared.value.Value.{Value, Int, Text, Tuple, List as ListOf, Map as MapOf, Var, Ref, Call, Bool as Truth}
use Rattle.pst_sexpr.specs.Parts.{headed}
use Rattle.pst_runs.specs.Written.{truth_word, entries_form, value_at, value_form}

pub form_Int : (n : ℤ) → value_form (Int n) ≡ Word (signed_decimal n)
unfolding value_form
form_Int n = fold-Int Form value_at n

pub form_Truth : (b : Bool) → value_form (Truth b) ≡ Word (truth_word b)
unfolding value_form
form_Truth b = fold-Truth Form value_at b

pub form_Text : (t : List ℕ) → value_form (Text t) ≡ TextForm t
unfolding value_form
form_Text t = fold-Text Form value_at t

pub form_Tuple : (vs : List Value) → value_form (Tuple vs) ≡ headed (codes "tuple") (map value_form vs)
unfolding value_form
form_Tuple vs = fold-Tuple Form value_at vs

pub form_ListOf : (vs : List Value) → value_form (ListOf vs) ≡ headed (codes "list") (map value_form vs)
unfolding value_form
form_ListOf vs = fold-ListOf Form value_at vs

pub form_MapOf : (ks : List Key) (vs : List Value) → value_form (MapOf ks vs) ≡ headed (codes "map") (entries_form ks (map value_form vs))
unfolding value_form
form_MapOf ks vs = fold-MapOf Form value_at ks vs

pub form_Var : (n : ℕ) → value_form (Var n) ≡ Word (codes "$" ++ decimal n)
unfolding value_form
form_Var n = fold-Var Form value_at n

pub form_Ref : (n : ℕ) (v : Value) → value_form (Ref n v) ≡ value_form v
unfolding value_form
form_Ref n v = fold-Ref Form value_at n v

pub form_Call : (op : ℕ) (vs : List Value) → value_form (Call op vs) ≡ Node (map value_form vs)
unfolding value_form
form_Call op vs = fold-Call Form value_at op vs

-- for the code
pub ruleset value_forms = (form_Int, form_Truth, form_Text, form_Tuple, form_ListOf, form_MapOf, form_Var, form_Ref, form_Call)
