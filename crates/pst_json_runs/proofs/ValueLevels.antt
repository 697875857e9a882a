-- The JSON of each form of a value.
use Rattle.std.proofs.Common.{◌≡◌, ℕ, ℤ, Bool, List, map}
use Rattle.json.specs.Json.{Json, boolean, number, string, array, object}
use Rattle.json.specs.Value.{items_of}
use Rattle.std.specs.Fmt.{signed_decimal}
use Rattle.pst_json_runs.specs.Writing.{json_of, json_level, members_of, variable_json}
use Rattle.pst_value.proofs.Forms.{fold-Int, fold-Truth, fold-Text, fold-Tuple, fold-ListOf, fold-MapOf, fold-Var, fold-Ref, fold-Call}
use Rattle.pst_value.specs.declared.key.Key.{Key}
use Rattle.pst_value.specs.declared.value.Value.{Value, Int, Text, Tuple, List as ListOf, Map as MapOf, Var, Ref, Call, Bool as Truth}

pub json-Int : (n : ℤ) → json_of (Int n) ≡ number (signed_decimal n)
unfolding json_of
json-Int n = fold-Int Json json_level n

pub json-Truth : (b : Bool) → json_of (Truth b) ≡ boolean b
unfolding json_of
json-Truth b = fold-Truth Json json_level b

pub json-Text : (t : List ℕ) → json_of (Text t) ≡ string t
unfolding json_of
json-Text t = fold-Text Json json_level t

pub json-Tuple : (vs : List Value) → json_of (Tuple vs) ≡ array (items_of (map json_of vs))
unfolding json_of
json-Tuple vs = fold-Tuple Json json_level vs

pub json-ListOf : (vs : List Value) → json_of (ListOf vs) ≡ array (items_of (map json_of vs))
unfolding json_of
json-ListOf vs = fold-ListOf Json json_level vs

pub json-MapOf : (ks : List Key) (vs : List Value) → json_of (MapOf ks vs) ≡ object (members_of ks (map json_of vs))
unfolding json_of
json-MapOf ks vs = fold-MapOf Json json_level ks vs

pub json-Var : (n : ℕ) → json_of (Var n) ≡ variable_json n
unfolding json_of
json-Var n = fold-Var Json json_level n

pub json-Ref : (n : ℕ) (v : Value) → json_of (Ref n v) ≡ json_of v
unfolding json_of
json-Ref n v = fold-Ref Json json_level n v

pub json-Call : (op : ℕ) (vs : List Value) → json_of (Call op vs) ≡ array (items_of (map json_of vs))
unfolding json_of
json-Call op vs = fold-Call Json json_level op vs

pub ruleset levels = (json-Int, json-Truth, json-Text, json-Tuple, json-ListOf, json-MapOf, json-Var, json-Ref, json-Call)
