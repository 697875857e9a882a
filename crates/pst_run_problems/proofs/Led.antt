-- The path to a fault in a part of a value, from the value.
use Rattle.std.proofs.Common.{◌≡◌, ℕ, ◌<◌, ◌==◌, true, false, cond, List, [], ◌∷◌, length, Option, Some, None, slice_get, get_or, refl, sym, ap, ◌∙◌, arith}
use Rattle.std.specs.Option.{option_map}
use Rattle.std.proofs.lemmas.Option.{slice_get_read, slice_get-map}
use Rattle.std.proofs.lemmas.Bool.Decides.{nat_tests}
use Rattle.pst_run_problems.specs.ValuePlaces.{Role, Parts, AreItems, AreEntries, role_of, role_at, for_part, leads, leads_in, call_leads, is_led, is_led_in, parts_in, type_of}
use Rattle.pst_run_problems.specs.declared.value_fault.FoundValueFault.{FoundValueFault}
use Rattle.pst_run_problems.specs.declared.value_fault.WantedTypes.{WantedTypes}
use Rattle.pst_run_problems.specs.declared.value_fault.WantedTypes.TheVariants as types
use Rattle.pst_run_problems.specs.declared.value_fault.Wanted.{Wanted}
use Rattle.pst_model.specs.Parts.{types_of}
use Rattle.pst_model.specs.declared.model.Param.{Param}
use Rattle.pst_model.specs.declared.model.Source.{Source}
use Rattle.pst_sexpr.specs.Parts.{and_then}
use Rattle.pst_sexpr.specs.declared.form.Form.{Form}
use Rattle.pst_value.specs.declared.key.KeyTy.{KeyTy}
use Rattle.pst_value.specs.declared.ty.Ty.{Ty}

-- what a fault that is found among the entries of a map says of the trees
pub entries_led : (m : Source) (rs : List Ty) (tys : WantedTypes) (kind : Option KeyTy) (w : Wanted) (trees : List Form) (o : Option FoundValueFault) (found : FoundValueFault) → tys ≡ types.Entries kind w → o ≡ Some found → ((m : Source) (rs : List Ty) (t : Option Ty) → is_led_in m rs (AreEntries kind t) trees o ≡ true) → leads_in m rs (parts_in tys) trees found.path ≡ true
entries_led m rs tys kind w trees o found e k h =
    let a : is_led_in m rs (AreEntries kind (type_of w)) trees (Some found) ≡ true = ap (is_led_in m rs (AreEntries kind (type_of w)) trees) (sym k) ∙ h m rs (type_of w) in
    ap (λ ty. leads_in m rs (parts_in ty) trees found.path) e ∙ a

not_zero : (n : ℕ) → 0 < n → (n == 0) ≡ false
not_zero n h = grind (arith, nat_tests)

number_role : (parts : Parts) (trees : List Form) (n : ℕ) → 0 < n → role_of parts trees n ≡ role_at parts trees n
number_role parts trees n h = ap (λ b. cond b None (role_at parts trees n)) (not_zero n h)

-- from the tree with the number to the value
part_led : (m : Source) (rs : List Ty) (parts : Parts) (trees : List Form) (n : ℕ) (role : Role) (tree : Form) (path : List ℕ) → role_of parts trees n ≡ Some role → slice_get trees n ≡ Some tree → leads m rs path role tree ≡ true → leads_in m rs parts trees (n ∷ path) ≡ true
part_led m rs parts trees n role tree path e k h =
    ap (λ o. for_part (and_then o (λ r. and_then (slice_get trees n) (λ t. Some (r, t)))) (leads m rs path)) e
    ∙ ap (λ o. for_part (and_then o (λ t. Some (role, t))) (leads m rs path)) k
    ∙ h

pub read_led : (m : Source) (rs : List Ty) (tys : WantedTypes) (trees : List Form) (n : ℕ) (role : Role) (tree : Form) (o p : Option FoundValueFault) (found : FoundValueFault) (path : List ℕ) → 0 < n → n < length trees → tree ≡ get_or trees n tree → role_at (parts_in tys) trees n ≡ Some role → o ≡ Some found → o ≡ p → path ≡ n ∷ found.path → is_led m rs role tree p ≡ true → leads_in m rs (parts_in tys) trees path ≡ true
read_led m rs tys trees n role tree o p found path z l g r k j e h =
    let a : is_led m rs role tree (Some found) ≡ true = ap (is_led m rs role tree) (sym k ∙ j) ∙ h in
    ap (leads_in m rs (parts_in tys) trees) e
    ∙ part_led m rs (parts_in tys) trees n role tree found.path (number_role (parts_in tys) trees n z ∙ r) (slice_get_read trees (length trees) n tree refl l g) a

-- the type of the parameter with the number
pub type_at : (params : List Param) (n : ℕ) (param : Param) → n < length params → param ≡ get_or params n param → slice_get (types_of params) n ≡ Some param.ty
type_at params n param l g = slice_get-map (λ p. p.ty) params n ∙ ap (option_map (λ p. p.ty)) (slice_get_read params (length params) n param refl l g)

-- an argument at fault, from its command
pub argument_led : (m : Source) (rs tys : List Ty) (trees : List Form) (path : List ℕ) → leads_in m rs (AreItems tys) trees path ≡ true → call_leads m rs tys trees path ≡ true
argument_led m rs tys trees [] h = absurd (cc)
argument_led m rs tys trees (n ∷ path) h = h
