-- The values that trees spell.
use Rattle.std.specs.Prelude.{◌==◌, ◌&&◌, ℕ, zero, suc, ℤ, nat_le, Bool, true, false, if◌then◌else◌, List, [], ◌∷◌, length, Option, Some, None, codes}
use Rattle.std.specs.Option.{option_map}
use Rattle.std.specs.Str.{bytes_eq}
use Rattle.pst_model.specs.declared.model.Source.{Source}
use Rattle.pst_runs.specs.declared.values.Spelling.{Spelling}
use Rattle.pst_sexpr.specs.Parts.{and_then, where_true, word_of, node_of}
use Rattle.pst_sexpr.specs.Reading.{max_levels}
use Rattle.pst_sexpr.specs.declared.form.Form.{Form, out-Form}
use Rattle.pst_sexpr.specs.declared.form.Form.TheOpen.{Form-F}
use Rattle.pst_value.specs.Keys.{rising}
use Rattle.pst_value.specs.declared.key.Key.{Key}
use Rattle.pst_value.specs.declared.key.Key.TheVariants as key
use Rattle.pst_value.specs.declared.value.Value.{Value}
use Rattle.pst_value.specs.declared.value.Value as value
use Rattle.pst_sexpr.specs.Integers.{are_digits, magnitude, integer_of}

-- all from left to right, where each is there
abbrev pub each : {A B : Type 0} → (A → Option B) → List A → Option (List B)
each f [] = Some []
each f (a ∷ more) = and_then (f a) (λ b. and_then (each f more) (λ bs. Some (b ∷ bs)))

-- the number that one to four digits spell
abbrev pub number_in : List ℕ → Option ℕ
number_in digits = if nat_le (length digits) 4 && are_digits digits then Some (magnitude 0 digits) else None

-- the variable that `$` and its number spell, where variables may stand
abbrev pub variable_of : Bool → List ℕ → Option Value
variable_of symbolic [] = None
variable_of symbolic (byte ∷ digits) =
    if symbolic && (byte == 36) then and_then (number_in digits) (λ number. Some (value.Var number)) else None

abbrev pub integer_or : Option ℤ → Option Value → Option Value
integer_or (Some number) other = Some (value.Int number)
integer_or None other = other

-- an integer of 64 bits, a truth value, or a variable
unfoldable pub word_value : Bool → List ℕ → Option Value
word_value symbolic word =
    if bytes_eq word (codes "true") then Some (value.Bool true)
    else if bytes_eq word (codes "false") then Some (value.Bool false)
    else integer_or (integer_of word) (variable_of symbolic word)

-- ---- maps

-- an integer of 64 bits, or a truth value
unfoldable pub key_word : List ℕ → Option Key
key_word word =
    if bytes_eq word (codes "true") then Some (key.Bool true)
    else if bytes_eq word (codes "false") then Some (key.Bool false)
    else option_map key.Int (integer_of word)

abbrev pub key_at : Form-F Form → Option Key
key_at (Form-F.Word word) = key_word word
key_at (Form-F.Text text) = Some (key.Text text)
key_at (Form-F.Node parts) = None

-- the key that a tree spells
unfoldable pub key_of : Form → Option Key
key_of form = key_at (out-Form form)

abbrev pub pair_in : List Form → Option (Form × Form)
pair_in (k ∷ v ∷ []) = Some (k, v)
pair_in _ = None

-- `(k v)`
abbrev pub pair_of : Form → Option (Form × Form)
pair_of form = and_then (node_of form) pair_in

abbrev pub entry_key : Form → Option Key
entry_key form = and_then (pair_of form) (λ entry. key_of entry.0)

abbrev pub entry_value : (Form → Option Value) → Form → Option Value
entry_value v form = and_then (pair_of form) (λ entry. v entry.1)

-- the map of entries `(k v)` whose keys rise
abbrev pub map_of : (Form → Option Value) → List Form → Option Value
map_of v entries =
    and_then (each entry_key entries) (λ ks.
    and_then (each (entry_value v) entries) (λ vs. where_true (rising ks) (value.Map ks vs)))

-- ---- values

-- what a node is that is headed by the word
abbrev pub headed_value : Spelling → (Form → Option Value) → List ℕ → List Form → Option Value
headed_value spelling v head parts =
    if bytes_eq head (codes "tuple") then and_then (each v parts) (λ vs. Some (value.Tuple vs))
    else if bytes_eq head (codes "list") then and_then (each v parts) (λ vs. Some (value.List vs))
    else if spelling.has_maps && bytes_eq head (codes "map") then map_of v parts
    else None

-- a tuple, a list or a map
abbrev pub node_value : Spelling → (Form → Option Value) → List Form → Option Value
node_value spelling v [] = None
node_value spelling v (first ∷ parts) = and_then (word_of first) (λ head. headed_value spelling v head parts)

abbrev pub value_at : Spelling → (Form → Option Value) → Form-F Form → Option Value
value_at spelling v (Form-F.Word word) = word_value spelling.symbolic word
value_at spelling v (Form-F.Text text) = Some (value.Text text)
value_at spelling v (Form-F.Node parts) = node_value spelling v parts

-- the value that a tree spells, with so many values in one another (a tree has at most as many levels)
unfoldable pub value_in : Spelling → ℕ → Form → Option Value
value_in spelling zero form = None
value_in spelling (suc room) form = value_at spelling (value_in spelling room) (out-Form form)

-- the value that a tree spells
abbrev pub value_of : Spelling → Form → Option Value
value_of spelling form = value_in spelling max_levels form

-- in arguments variables may stand
abbrev pub in_arguments : Source → Spelling
in_arguments m = record { has_maps = m.has_maps; symbolic = true }

-- in replies none may
abbrev pub in_replies : Source → Spelling
in_replies m = record { has_maps = m.has_maps; symbolic = false }
