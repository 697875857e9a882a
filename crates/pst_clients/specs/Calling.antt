-- The line of a call.
use Rattle.std.specs.Prelude.{ℕ, nat_le, Bool, List, [], ◌∷◌, ◌++◌, map}
use Rattle.std.specs.List.{list_all}
use Rattle.json.specs.Json.{Json, string, array, item}
use Rattle.json.specs.Print.{print}
use Rattle.json.specs.Tree.{json_tokens}
use Rattle.json.specs.Value.{items_of}
use Rattle.pst_json_runs.specs.Writing.{json_of}
use Rattle.pst_system.specs.declared.system.RealCall.{RealCall}

-- the array of a call's name and arguments
abbrev pub call_json : RealCall → Json
call_json c = array (item (string c.name) (items_of (map json_of c.args)))

-- the text of a call
abbrev pub text_of : RealCall → List ℕ
text_of c = print (json_tokens (call_json c))

-- no byte ends a line, nor is any other control character
abbrev pub is_one_line : List ℕ → Bool
is_one_line = list_all (nat_le 32)

-- the line of a call
abbrev pub line_of : RealCall → List ℕ
line_of c = text_of c ++ 10 ∷ []
