-- What an argument or a reply has to be, and that the path to a fault leads to a tree which is not that.
use Rattle.std.specs.Prelude.{◌==◌, ◌&&◌, ◌||◌, ◌-◌, ℕ, zero, suc, nat_lt, Bool, true, false, not, if◌then◌else◌, List, [], ◌∷◌, length, map, slice_get, Option, Some, None, codes}
use Rattle.std.specs.Option.{is_some, is_none}
use Rattle.std.specs.Str.{bytes_eq}
use Rattle.pst_run_problems.specs.declared.value_fault.FoundValueFault.{FoundValueFault}
use Rattle.pst_run_problems.specs.declared.value_fault.WantedTypes.{WantedTypes}
use Rattle.pst_run_problems.specs.declared.value_fault.WantedTypes.TheVariants as types
use Rattle.pst_run_problems.specs.declared.value_fault.Wanted.{Wanted}
use Rattle.pst_run_problems.specs.declared.value_fault.Wanted.TheVariants as wanted
use Rattle.pst_model.specs.Parts.{types_of}
use Rattle.pst_model.specs.declared.model.Source.{Source}
use Rattle.pst_runs.specs.Values.{value_of, in_arguments, in_replies, key_of, pair_of, entry_key}
use Rattle.pst_sexpr.specs.Parts.{and_then, word_of, node_of}
use Rattle.pst_sexpr.specs.declared.form.Form.{Form}
use Rattle.pst_value.specs.Fits.{fits, fit_each}
use Rattle.pst_value.specs.Keys.{key_less}
use Rattle.pst_value.specs.declared.key.Key.{Key}
use Rattle.pst_value.specs.declared.key.Key.TheVariants as key
use Rattle.pst_value.specs.declared.key.KeyTy.{KeyTy}
use Rattle.pst_value.specs.declared.key.KeyTy.TheVariants as kind
use Rattle.pst_value.specs.declared.ty.Ty.{Ty, out-Ty}
use Rattle.pst_value.specs.declared.ty.Ty.TheOpen.{Ty-F}
use Rattle.pst_value.specs.declared.value.Value.{Value}

-- ---- values

-- the type that is wanted; a reply is a value of any type
abbrev pub type_of : Wanted → Option Ty
type_of wanted.Any = None
type_of (wanted.Type ty) = Some ty.now

abbrev pub has_type : List Ty → Ty → Option Value → Bool
has_type results ty None = false
has_type results ty (Some value) = fits results results [] value ty

-- whether a tree spells a reply, or an argument of the type, where commands have results of these types
abbrev pub accepts : Source → List Ty → Option Ty → Form → Bool
accepts m results None form = is_some (value_of (in_replies m) form)
accepts m results (Some ty) form = has_type results ty (value_of (in_arguments m) form)

-- ---- keys

abbrev pub kind_of : Key → KeyTy
kind_of (key.Int number) = kind.Int
kind_of (key.Bool truth) = kind.Bool
kind_of (key.Text text) = kind.Text

abbrev pub is_same : KeyTy → KeyTy → Bool
is_same kind.Int kind.Int = true
is_same kind.Bool kind.Bool = true
is_same kind.Text kind.Text = true
is_same _ _ = false

abbrev pub is_of : Option KeyTy → Key → Bool
is_of None k = true
is_of (Some kind) k = is_same (kind_of k) kind

abbrev pub is_after : Option Key → Key → Bool
is_after None k = true
is_after (Some before) k = key_less before k

-- whether there is a key, of the type that is wanted, after the key before it
abbrev pub is_next : Option KeyTy → Option Key → Option Key → Bool
is_next kind before None = false
is_next kind before (Some k) = is_of kind k && is_after before k

abbrev pub key_in : Option Form → Option Key
key_in None = None
key_in (Some entry) = entry_key entry

-- the entry before the one with the number, among the trees of a map
abbrev pub entry_before : List Form → ℕ → Option Form
entry_before trees number = if nat_lt number 2 then None else slice_get trees (number - 1)

abbrev pub key_before : List Form → ℕ → Option Key
key_before trees number = key_in (entry_before trees number)

-- ---- the parts of values

-- what a tree has to be: a value, an entry of a map, or the key of an entry
pub data Role : Type 0 where
  IsValue : Option Ty → Role
  IsEntry : Option KeyTy → Option Key → Option Ty → Role
  IsKey : Option KeyTy → Option Key → Role

-- what the trees after the head of a value have to be: values of one type, values of these types, or entries
pub data Parts : Type 0 where
  AreValues : Option Ty → Parts
  AreItems : List Ty → Parts
  AreEntries : Option KeyTy → Option Ty → Parts

-- what the code says of them
abbrev pub parts_in : WantedTypes → Parts
parts_in (types.Same w) = AreValues (type_of w)
parts_in (types.Items tys) = AreItems tys.now
parts_in (types.Params params) = AreItems (types_of params.now)
parts_in (types.Entries kind w) = AreEntries kind (type_of w)

abbrev pub is_head : List ℕ → Option (List ℕ) → Bool
is_head word None = false
is_head word (Some head) = bytes_eq head word

-- whether the word heads the trees
abbrev pub heads : List ℕ → List Form → Bool
heads word [] = false
heads word (first ∷ trees) = is_head word (word_of first)

abbrev pub after_head : List Form → List Form
after_head [] = []
after_head (first ∷ trees) = trees

abbrev pub parts_of_any : Source → List Form → Option Parts
parts_of_any m trees =
    if heads (codes "tuple") trees || heads (codes "list") trees then Some (AreValues None)
    else if m.has_maps && heads (codes "map") trees then Some (AreEntries None None)
    else None

abbrev pub parts_of_level : Ty-F Ty → List Form → Option Parts
parts_of_level (Ty-F.Tuple tys) trees =
    if length tys == length (after_head trees) && heads (codes "tuple") trees then Some (AreItems tys)
    else None
parts_of_level (Ty-F.List item) trees =
    if heads (codes "list") trees then Some (AreValues (Some item)) else None
parts_of_level (Ty-F.Map kind value) trees =
    if heads (codes "map") trees then Some (AreEntries (Some kind) (Some value)) else None
parts_of_level _ trees = None

abbrev pub parts_of_type : Ty → List Form → Option Parts
parts_of_type ty trees = parts_of_level (out-Ty ty) trees

-- what the trees in a value have to be, where the head and their number are right
abbrev pub parts_of : Source → Option Ty → List Form → Option Parts
parts_of m None trees = parts_of_any m trees
parts_of m (Some ty) trees = parts_of_type ty trees

abbrev pub some_value : Option Ty → Option Role
some_value None = None
some_value (Some ty) = Some (IsValue (Some ty))

abbrev pub role_at : Parts → List Form → ℕ → Option Role
role_at (AreValues ty) trees number = Some (IsValue ty)
role_at (AreItems tys) trees number = some_value (slice_get tys (number - 1))
role_at (AreEntries kind ty) trees number = Some (IsEntry kind (key_before trees number) ty)

-- what the tree with the number has to be; the head has the number 0
abbrev pub role_of : Parts → List Form → ℕ → Option Role
role_of parts trees number = if number == 0 then None else role_at parts trees number

-- the tree with the number, and what it has to be
abbrev pub tree_of : Parts → List Form → ℕ → Option (Role × Form)
tree_of parts trees number =
    and_then (role_of parts trees number) (λ role.
    and_then (slice_get trees number) (λ tree. Some (role, tree)))

abbrev pub entry_part :
    Option KeyTy → Option Key → Option Ty → Option (Form × Form) → ℕ → Option (Role × Form)
entry_part kind before ty (Some pair) zero = Some (IsKey kind before, pair.0)
entry_part kind before ty (Some pair) (suc zero) = Some (IsValue ty, pair.1)
entry_part kind before ty _ number = None

-- the tree with the number in a tree that has to be this, and what that one has to be
abbrev pub part_of : Source → Role → Form → ℕ → Option (Role × Form)
part_of m (IsValue ty) form number =
    and_then (node_of form) (λ trees. and_then (parts_of m ty trees) (λ parts. tree_of parts trees number))
part_of m (IsEntry kind before ty) form number = entry_part kind before ty (pair_of form) number
part_of m (IsKey kind before) form number = None

-- ---- places

abbrev pub is_refused : Source → List Ty → Role → Form → Bool
is_refused m results (IsValue ty) form = not (accepts m results ty form)
is_refused m results (IsEntry kind before ty) form = is_none (pair_of form)
is_refused m results (IsKey kind before) form = not (is_next kind before (key_of form))

abbrev pub for_part : Option (Role × Form) → (Role → Form → Bool) → Bool
for_part None test = false
for_part (Some part) test = test part.0 part.1

-- whether a path leads from a tree that has to be this to one which is not what it has to be
abbrev pub leads : Source → List Ty → List ℕ → Role → Form → Bool
leads m results [] role form = is_refused m results role form
leads m results (number ∷ path) role form = for_part (part_of m role form number) (leads m results path)

-- the same for a path that begins with the number of one of the trees in a value
abbrev pub leads_in : Source → List Ty → Parts → List Form → List ℕ → Bool
leads_in m results parts trees [] = false
leads_in m results parts trees (number ∷ path) = for_part (tree_of parts trees number) (leads m results path)

-- no fault is found, or its path leads to a tree that is refused
abbrev pub is_led : Source → List Ty → Role → Form → Option FoundValueFault → Bool
is_led m results role form None = true
is_led m results role form (Some found) = leads m results found.path role form

-- a reply is a value of any type
abbrev pub is_reply_led : Source → Form → Option FoundValueFault → Bool
is_reply_led m form found = is_led m [] (IsValue None) form found

abbrev pub is_led_in : Source → List Ty → Parts → List Form → Option FoundValueFault → Bool
is_led_in m results parts trees None = true
is_led_in m results parts trees (Some found) = leads_in m results parts trees found.path

-- ---- commands

-- whether trees spell arguments of these types
abbrev pub are_accepted : Source → List Ty → List Form → List Ty → Bool
are_accepted m results [] [] = true
are_accepted m results [] (ty ∷ tys) = false
are_accepted m results (form ∷ forms) [] = false
are_accepted m results (form ∷ forms) (ty ∷ tys) =
    if accepts m results (Some ty) form then are_accepted m results forms tys else false

-- whether there are values of these types, one for each
abbrev pub have_types : List Ty → List Ty → Option (List Value) → Bool
have_types results tys None = false
have_types results tys (Some values) = fit_each (map (fits results results []) values) tys

-- whether a path leads from a command with the trees to a tree in an argument that is not what it has to be, or
-- to the command itself, which has arguments that do not fit
abbrev pub call_leads : Source → List Ty → List Ty → List Form → List ℕ → Bool
call_leads m results tys trees [] = not (are_accepted m results (after_head trees) tys)
call_leads m results tys trees (number ∷ path) = leads_in m results (AreItems tys) trees (number ∷ path)

abbrev pub is_call_led : Source → List Ty → List Ty → List Form → Option FoundValueFault → Bool
is_call_led m results tys trees None = true
is_call_led m results tys trees (Some found) = call_leads m results tys trees found.path
