-- Arguments are accepted exactly where each spells a value of its type.
use Rattle.std.proofs.Common.{◌≡◌, Bool, true, false, cond, ◌&&◌, List, [], ◌∷◌, map, Option, Some, None, refl, sym, ap, ◌∙◌}
use Rattle.pst_run_problems.specs.ValuePlaces.{has_type, have_types, are_accepted}
use Rattle.pst_model.specs.declared.model.Source.{Source}
use Rattle.pst_runs.specs.Values.{each, value_of, in_arguments}
use Rattle.pst_sexpr.specs.Parts.{and_then}
use Rattle.pst_sexpr.specs.declared.form.Form.{Form}
use Rattle.pst_value.specs.Fits.{fits, fit_each}
use Rattle.pst_value.specs.declared.ty.Ty.{Ty}
use Rattle.pst_value.specs.declared.value.Value.{Value}

with_first : Option Value → Option (List Value) → Option (List Value)
with_first o p = and_then o (λ v. and_then p (λ vs. Some (v ∷ vs)))

too_many : (rs : List Ty) (o : Option Value) (p : Option (List Value)) → false ≡ have_types rs [] (with_first o p)
unfolding with_first
too_many rs None p = refl
too_many rs (Some v) None = refl
too_many rs (Some v) (Some vs) = refl

not_both : (x b : Bool) → b ≡ false → cond x b false ≡ false
not_both true b h = h
not_both false b h = refl

both : (x b c : Bool) → b ≡ c → cond x b false ≡ (x && c)
both true b c h = h
both false b c h = refl

first_typed : (rs : List Ty) (ty : Ty) (tys : List Ty) (o : Option Value) (p : Option (List Value)) (b : Bool) → b ≡ have_types rs tys p → cond (has_type rs ty o) b false ≡ have_types rs (ty ∷ tys) (with_first o p)
unfolding with_first
first_typed rs ty tys None p b h = refl
first_typed rs ty tys (Some v) None b h = not_both (fits rs rs [] v ty) b h
first_typed rs ty tys (Some v) (Some vs) b h = both (fits rs rs [] v ty) b _ h

pub accepted : (m : Source) (rs : List Ty) (forms : List Form) (tys : List Ty) → are_accepted m rs forms tys ≡ have_types rs tys (each (value_of (in_arguments m)) forms)
unfolding with_first
accepted m rs [] [] = refl
accepted m rs [] (ty ∷ tys) = refl
accepted m rs (form ∷ forms) [] = too_many rs (value_of (in_arguments m) form) (each (value_of (in_arguments m)) forms)
accepted m rs (form ∷ forms) (ty ∷ tys) =
    first_typed rs ty tys (value_of (in_arguments m) form) (each (value_of (in_arguments m)) forms) _ (accepted m rs forms tys)
