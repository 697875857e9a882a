-- The JSON of values.
use Rattle.std.specs.Prelude.{ℕ, true, false, List, [], ◌∷◌, codes, decimal}
use Rattle.std.specs.Fmt.{signed_decimal}
use Rattle.json.specs.Json.{Json, boolean, number, string, array, object, Members, no_members, member}
use Rattle.json.specs.Value.{items_of}
use Rattle.pst_value.specs.declared.key.Key.{Key}
use Rattle.pst_value.specs.declared.key.Key.TheVariants as key
use Rattle.pst_value.specs.declared.value.Value.{Value, fold-Value}
use Rattle.pst_value.specs.declared.value.Value.TheOpen.{Value-F}

-- the name of a key's member
abbrev pub key_name : Key → List ℕ
key_name (key.Int n) = signed_decimal n
key_name (key.Bool true) = codes "true"
key_name (key.Bool false) = codes "false"
key_name (key.Text text) = text

-- the members of keys and their values
abbrev pub members_of : List Key → List Json → Members
members_of ks [] = no_members
members_of [] (j ∷ js) = no_members
members_of (k ∷ ks) (j ∷ js) = member (key_name k) j (members_of ks js)

-- `{"result":n}`
abbrev pub variable_json : ℕ → Json
variable_json n = object (member (codes "result") (number (decimal n)) no_members)

-- one level of a value, of whose parts the JSON is given
abbrev pub json_level : Value-F Json → Json
json_level (Value-F.Int n) = number (signed_decimal n)
json_level (Value-F.Bool b) = boolean b
json_level (Value-F.Text text) = string text
json_level (Value-F.Tuple js) = array (items_of js)
json_level (Value-F.List js) = array (items_of js)
json_level (Value-F.Map ks js) = object (members_of ks js)
json_level (Value-F.Var n) = variable_json n
json_level (Value-F.Ref n j) = j
json_level (Value-F.Call op js) = array (items_of js)

-- the JSON of a value
unfoldable pub json_of : Value → Json
json_of = fold-Value Json json_level
