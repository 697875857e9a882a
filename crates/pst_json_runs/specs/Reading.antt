-- The values that JSON spells.
use Rattle.std.specs.Prelude.{ℕ, ◌+◌, ℤ, pos, negsuc, nat_le, nat_lt, nat_eq, Bool, true, false, if◌then◌else◌, List, [], ◌∷◌, length, Option, Some, None, option_map, option_and_then, codes}
use Rattle.std.specs.List.{insert, prefix_len}
use Rattle.std.specs.Str.{bytes_eq}
use Rattle.json.specs.Find.{get_member}
use Rattle.json.specs.Json.{Json, null, boolean, number, string, array, object, Items, no_items, item, Members, no_members, member}
use Rattle.pst_value.specs.Keys.{key_less, most}
use Rattle.pst_value.specs.declared.key.Key.{Key}
use Rattle.pst_value.specs.declared.key.Key.TheVariants as key
use Rattle.pst_value.specs.declared.key.KeyTy.{KeyTy}
use Rattle.pst_value.specs.declared.key.KeyTy.TheVariants as kind
use Rattle.pst_value.specs.declared.ty.Ty.{Ty, out-Ty}
use Rattle.pst_value.specs.declared.ty.Ty.TheOpen.{Ty-F}
use Rattle.pst_value.specs.declared.value.Value.{Value}
use Rattle.pst_value.specs.declared.value.Value as value
use Rattle.pst_sexpr.specs.Integers.{integer_of}

-- ---- types, as far as JSON leaves open what is meant

abbrev pub tuple_level : Ty-F Ty → ℕ → Option (List Ty)
tuple_level (Ty-F.Tuple ts) count = if nat_eq (length ts) count then Some ts else None
tuple_level _ count = None

-- the types of the parts, if a tuple of so many parts is wanted
abbrev pub tuple_types : Option Ty → ℕ → Option (List Ty)
tuple_types None count = None
tuple_types (Some t) count = tuple_level (out-Ty t) count

abbrev pub item_level : Ty-F Ty → Option Ty
item_level (Ty-F.List t) = Some t
item_level _ = None

-- the type of the items, if a list is wanted
abbrev pub item_type : Option Ty → Option Ty
item_type t = option_and_then (λ t. item_level (out-Ty t)) t

abbrev pub map_level : Ty-F Ty → KeyTy × Option Ty
map_level (Ty-F.Map k t) = (k, Some t)
map_level _ = (kind.Text, None)

-- the types of keys and values: the keys are texts unless a map of other keys is wanted
abbrev pub map_types : Option Ty → KeyTy × Option Ty
map_types None = (kind.Text, None)
map_types (Some t) = map_level (out-Ty t)

abbrev pub reference_level : Ty-F Ty → Bool
reference_level (Ty-F.Ref t) = true
reference_level _ = false

-- whether the result of a command is wanted
abbrev pub is_reference : Option Ty → Bool
is_reference None = false
is_reference (Some t) = reference_level (out-Ty t)

-- ---- keys

abbrev pub int_or : Option ℤ → List ℕ → Key
int_or (Some n) name = key.Int n
int_or None name = key.Text name

-- the key of that type that a name spells, or else the name itself
abbrev pub key_in : KeyTy → List ℕ → Key
key_in kind.Int name = int_or (integer_of name) name
key_in kind.Bool name =
    if bytes_eq name (codes "true") then key.Bool true
    else if bytes_eq name (codes "false") then key.Bool false
    else key.Text name
key_in kind.Text name = key.Text name

-- how many keys from the front on come before the key
abbrev pub place_of : Key → List Key → ℕ
place_of k ks = prefix_len (λ l. key_less l k) ks

-- a list with one more item, at the place of the key among the keys
abbrev pub put : {A : Type 0} → List Key → Key → List A → A → List A
put ks k xs x = insert xs (place_of k ks) x

-- ---- values

abbrev pub first_or : List Ty → Option Ty → Option Ty
first_or [] t = t
first_or (u ∷ ts) t = Some u

abbrev pub without_first : List Ty → List Ty
without_first [] = []
without_first (u ∷ ts) = ts

abbrev pub count : Items → ℕ
count no_items = 0
count (item j js) = 1 + count js

abbrev pub size : Members → ℕ
size no_members = 0
size (member name j ms) = 1 + size ms

abbrev pub tuple_or_list : Option (List Ty) → List Value → Value
tuple_or_list (Some ts) vs = value.Tuple vs
tuple_or_list None vs = value.List vs

abbrev pub or_none : Option (List Ty) → List Ty
or_none (Some ts) = ts
or_none None = []

-- the integer of at most 64 bits that digits spell
abbrev pub number_in : List ℕ → Option Value
number_in digits = option_map value.Int (integer_of digits)

-- the variable of a number of at most four digits
abbrev pub variable_of : ℤ → Option Value
variable_of (pos n) = if nat_lt n 10000 then Some (value.Var n) else None
variable_of (negsuc n) = None

-- the variable whose number is spelled
abbrev pub variable_in : Json → Option Value
variable_in (number digits) = option_and_then variable_of (integer_of digits)
variable_in _ = None

-- the variable that `{"result":n}` spells
abbrev pub reference_in : Json → Option Value
reference_in (object ms) =
    if nat_eq (size ms) 1 then option_and_then variable_in (get_member (codes "result") ms) else None
reference_in _ = None

-- The value that JSON spells where the type is wanted, if it spells one. The type tells tuples from lists and what
-- keys are; the value need not have it.
abbrev mutual
  pub value_in : Option Ty → Json → Option Value
  value_in t null = None
  value_in t (boolean b) = Some (value.Bool b)
  value_in t (number digits) = number_in digits
  value_in t (string text) = Some (value.Text text)
  value_in t (array js) =
      option_map (tuple_or_list (tuple_types t (count js))) (values_in (or_none (tuple_types t (count js))) (item_type t) js)
  value_in t (object ms) =
      if is_reference t then reference_in (object ms)
      else if nat_le (size ms) most then map_in (map_types t).0 (map_types t).1 [] [] ms else None

  -- the first parts at the types, and each other part at the type
  pub values_in : List Ty → Option Ty → Items → Option (List Value)
  values_in ts t no_items = Some []
  values_in ts t (item j js) =
      option_and_then (λ v. option_map (λ vs. v ∷ vs) (values_in (without_first ts) t js)) (value_in (first_or ts t) j)

  -- the map of keys and values, each further member put at the place of its key
  pub map_in : KeyTy → Option Ty → List Key → List Value → Members → Option Value
  map_in k t ks vs no_members = Some (value.Map ks vs)
  map_in k t ks vs (member name j ms) =
      option_and_then (λ v. map_in k t (put ks (key_in k name) ks (key_in k name)) (put ks (key_in k name) vs v) ms) (value_in t j)
