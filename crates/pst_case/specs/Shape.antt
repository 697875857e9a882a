-- The shape of a case, and its first fault.
use Rattle.std.specs.Prelude.{◌≡◌, ◌==◌, ◌&&◌, ◌||◌, not, ℕ, ◌+◌, nat_le, nat_lt, Bool, true, false, if◌then◌else◌, List, [], ◌∷◌, ◌++◌, length, map, Option, Some, None}
use Rattle.std.specs.List.{list_any, list_all}
use Rattle.pst_case.specs.declared.case.Case.{Case}
use Rattle.pst_case.specs.declared.case.Command.{Command}
use Rattle.pst_case.specs.declared.shaping.CaseFault.{CaseFault}
use Rattle.pst_case.specs.declared.shaping.CaseFaultKind.{CaseFaultKind}
use Rattle.pst_case.specs.declared.shaping.CaseFaultKind.TheVariants.{UnknownOp, BadArgument, ForwardVar, CrossVar, OverLimit}
use Rattle.pst_model.specs.Fitting.{args_fit}
use Rattle.pst_model.specs.Parts.{operation_of}
use Rattle.pst_model.specs.declared.model.Op.{Op}
use Rattle.pst_model.specs.declared.model.Source.{Source}
use Rattle.pst_value.specs.declared.ty.Ty.{Ty}
use Rattle.pst_value.specs.declared.ty.Ty.TheVariants as ty
use Rattle.pst_value.specs.declared.value.Value.{Value, fold-Value}
use Rattle.pst_value.specs.declared.value.Value.TheOpen.{Value-F}

-- ---- variables in values

abbrev pub holds_var_at : (ℕ → Bool) → Value-F Bool → Bool
holds_var_at p (Value-F.Int n) = false
holds_var_at p (Value-F.Bool b) = false
holds_var_at p (Value-F.Text t) = false
holds_var_at p (Value-F.Tuple parts) = list_any (λ held. held) parts
holds_var_at p (Value-F.List parts) = list_any (λ held. held) parts
holds_var_at p (Value-F.Map keys parts) = list_any (λ held. held) parts
holds_var_at p (Value-F.Var n) = p n
holds_var_at p (Value-F.Ref n held) = held
holds_var_at p (Value-F.Call op parts) = list_any (λ held. held) parts

-- whether an open variable of which the test holds stands in the value (the number of a reference does not
-- count)
unfoldable pub holds_var : (ℕ → Bool) → Value → Bool
holds_var p = fold-Value Bool (holds_var_at p)

abbrev pub holds_reference_at : Value-F Bool → Bool
holds_reference_at (Value-F.Int n) = false
holds_reference_at (Value-F.Bool b) = false
holds_reference_at (Value-F.Text t) = false
holds_reference_at (Value-F.Tuple parts) = list_any (λ held. held) parts
holds_reference_at (Value-F.List parts) = list_any (λ held. held) parts
holds_reference_at (Value-F.Map keys parts) = list_any (λ held. held) parts
holds_reference_at (Value-F.Var n) = false
holds_reference_at (Value-F.Ref n held) = true
holds_reference_at (Value-F.Call op parts) = list_any (λ held. held) parts

-- whether a reference stands in the value
unfoldable pub holds_reference : Value → Bool
holds_reference = fold-Value Bool holds_reference_at

-- ---- the commands of a case

abbrev pub joined : {A : Type 0} → List (List A) → List A
joined [] = []
joined (xs ∷ xss) = xs ++ joined xss

-- how many commands stand before the suffix: those of the prefix and of all branches
abbrev pub before_suffix : Case → ℕ
before_suffix c = length c.prefix + length (joined c.branches)

-- all commands, in the order of their numbers from 1: the prefix, the branches in turn, the suffix
abbrev pub commands_of : Case → List Command
commands_of c = c.prefix ++ joined c.branches ++ c.suffix

abbrev pub type_in : Option Op → Ty
type_in None = ty.Call
type_in (Some o) = o.result

-- the type of a command's result (no shaped case has an unknown operation)
abbrev pub result_type : Source → Command → Ty
result_type m c = type_in (operation_of m.items c.op)

-- the result types of all commands, by their numbers from 1
abbrev pub result_types : Source → Case → List Ty
result_types m c = map (result_type m) (commands_of c)

-- ---- faults

abbrev pub or_else : {A : Type 0} → Option A → Option A → Option A
or_else None later = later
or_else (Some a) later = Some a

abbrev pub is_known : Option Op → Bool
is_known None = false
is_known (Some o) = true

-- over 64 commands in the prefix, 8 in a branch, 16 in all branches, 8 in the suffix, or another number of
-- branches than two to four
abbrev pub are_over_limit :
    {C : Type 0} → (prefix : List C) (branches : List (List C)) (suffix : List C) → Bool
are_over_limit prefix branches suffix =
    not (nat_le (length prefix) 64)
    || not (list_all (λ b. nat_le (length b) 8) branches)
    || not (nat_le (length (joined branches)) 16)
    || not (nat_le 2 (length branches) && nat_le (length branches) 4)
    || not (nat_le (length suffix) 8)

abbrev pub over_limit : Case → Bool
over_limit c = are_over_limit c.prefix c.branches c.suffix

-- variable 0, or that of a command that is not earlier
abbrev pub is_forward : ℕ → ℕ → Bool
is_forward number n = (n == 0) || nat_le number n

-- the variable of a command of another branch: behind the prefix, and before this branch
abbrev pub is_cross : (prefix before : ℕ) → ℕ → Bool
is_cross prefix before n = nat_lt prefix n && nat_le n before

-- What is wrong with the command of a number, where so many commands stand in the prefix, and so many before
-- the command's branch. For a command of the prefix or of the suffix the second number is 0, so that no
-- variable crosses.
abbrev pub command_fault : Source → List Ty → (prefix before number : ℕ) → Command → Option CaseFaultKind
command_fault m vars prefix before number c =
    if not (is_known (operation_of m.items c.op)) then Some UnknownOp
    else if list_any (holds_var (is_forward number)) c.args then Some ForwardVar
    else if list_any (holds_var (is_cross prefix before)) c.args then Some CrossVar
    else if not (args_fit m vars vars c.op c.args) || list_any holds_reference c.args then Some BadArgument
    else None

abbrev pub at_command : ℕ → Option CaseFaultKind → Option CaseFault
at_command number None = None
at_command number (Some k) = Some (record { kind = k; command = number })

-- the first fault of a part whose first command has the number
abbrev pub part_fault : Source → List Ty → (prefix before number : ℕ) → List Command → Option CaseFault
part_fault m vars prefix before number [] = None
part_fault m vars prefix before number (c ∷ cs) =
    or_else (at_command number (command_fault m vars prefix before number c))
    (part_fault m vars prefix before (number + 1) cs)

-- the first fault of branches before which so many commands stand
abbrev pub branches_fault : Source → List Ty → (prefix before : ℕ) → List (List Command) → Option CaseFault
branches_fault m vars prefix before [] = None
branches_fault m vars prefix before (b ∷ bs) =
    or_else (part_fault m vars prefix before (before + 1) b)
    (branches_fault m vars prefix (before + length b) bs)

-- the first fault of the commands, by their numbers: the prefix, the branches in turn, the suffix
abbrev pub commands_fault : Source → Case → Option CaseFault
commands_fault m c =
    let vars = result_types m c in
    let prefix = length c.prefix in
    or_else (part_fault m vars prefix 0 1 c.prefix)
    (or_else (branches_fault m vars prefix prefix c.branches)
    (part_fault m vars prefix 0 (before_suffix c + 1) c.suffix))

-- the first fault of a case over a model: its limits, and then each command by its number
unfoldable pub shape_fault : Source → Case → Option CaseFault
shape_fault m c = if over_limit c then Some (record { kind = OverLimit; command = 0 }) else commands_fault m c

-- the case has the shape of the model
abbrev pub IsShaped : Source → Case → Type 0
IsShaped m c = shape_fault m c ≡ None
