-- The faults of a name in steps; those of a tree with no room, and with one more level of room.
use Rattle.std.proofs.Common.{◌≡◌, ◌≢◌, ℕ, Bool, true, false, zero, suc, ◌-◌, List, [], ◌∷◌, ◌++◌, map, Some, None, refl, ap, ◌∙◌, arith}
use Rattle.std.specs.Prelude.{not}
use Rattle.pst_sexpr.specs.declared.form.Form.{Form}
use Rattle.pst_syntax.specs.declared.fault.FaultKind.TheVariants.{UnknownForm, BadName, DoubleName, OverLimit}
use Rattle.pst_syntax.specs.Names.{is_short}
use Rattle.pst_syntax.specs.Shape.{Shape, TyShape, shape_of, ty_shape}
use Rattle.pst_syntax.specs.Faults.{fits, ty_fits, unless, name_faults}
use Rattle.pst_syntax_problems.specs.declared.fault.Role.{Role}
use Rattle.pst_syntax_problems.specs.declared.fault.Role.TheVariants as role
use Rattle.pst_syntax_problems.specs.declared.fault.FormFault.{FormFault}
use Rattle.pst_syntax_problems.specs.Placed.{placed, unless_at, known_at, all_at, none_at, spot_at, spot_in, spots, ty_spots, ty_faults_at, expr_faults_at}

-- one fault or none, and then the rest
both : (path : List ℕ) (r : Role) (b : Bool) (rest : List FormFault) → unless_at path r b OverLimit rest ≡ unless_at path r b OverLimit [] ++ rest
both path r true rest = refl
both path r false rest = refl

steps : (path : List ℕ) (r : Role) (is_lawful is_taken short : Bool) → map (placed path r) (unless is_lawful BadName (unless (not is_taken) DoubleName (unless short OverLimit []))) ≡ unless_at path r is_lawful BadName [] ++ (unless_at path r (not is_taken) DoubleName [] ++ unless_at path r short OverLimit [])
steps path r true true true = refl
steps path r true true false = refl
steps path r true false true = refl
steps path r true false false = refl
steps path r false true true = refl
steps path r false true false = refl
steps path r false false true = refl
steps path r false false false = refl

pub name_steps : (path : List ℕ) (r : Role) (is_lawful is_taken : Bool) (word : List ℕ) → map (placed path r) (name_faults is_lawful is_taken word) ≡ unless_at path r is_lawful BadName [] ++ (unless_at path r (not is_taken) DoubleName [] ++ unless_at path r (is_short word) OverLimit [])
name_steps path r is_lawful is_taken word = steps path r is_lawful is_taken (is_short word)

pub ty_unknown : (maps : Bool) (room : ℕ) (r : Role) (path : List ℕ) (f : Form) → ty_shape maps f ≡ None → ty_faults_at maps room r path f ≡ placed path r UnknownForm ∷ []
unfolding ty_faults_at
ty_unknown maps zero r path f h = ap (λ s. known_at path r s (λ shape. placed path role.DeepType OverLimit ∷ [])) h
ty_unknown maps (suc n) r path f h = ap (λ s. known_at path r s (λ shape. unless_at path r (ty_fits shape) OverLimit (all_at (spot_at none_at (λ inner. ty_faults_at maps n r) none_at) (ty_spots path shape)))) h

pub ty_full : (maps : Bool) (r : Role) (path : List ℕ) (f : Form) (s : TyShape) → ty_shape maps f ≡ Some s → ty_faults_at maps 0 r path f ≡ placed path role.DeepType OverLimit ∷ []
unfolding ty_faults_at
ty_full maps r path f s h = ap (λ s. known_at path r s (λ shape. placed path role.DeepType OverLimit ∷ [])) h

pub ty_inside : (maps : Bool) (room : ℕ) (r : Role) (path : List ℕ) (f : Form) (s : TyShape) → room ≢ 0 → ty_shape maps f ≡ Some s → ty_faults_at maps room r path f ≡ unless_at path r (ty_fits s) OverLimit [] ++ all_at (spot_at none_at (λ inner. ty_faults_at maps (room - 1) r) none_at) (ty_spots path s)
unfolding ty_faults_at
ty_inside maps zero r path f s ne h = absurd (ne refl)
ty_inside maps (suc n) r path f s ne h =
    ap (λ s. known_at path r s (λ shape. unless_at path r (ty_fits shape) OverLimit (all_at (spot_at none_at (λ inner. ty_faults_at maps n r) none_at) (ty_spots path shape)))) h
    ∙ both path r (ty_fits s) (all_at (spot_at none_at (λ inner. ty_faults_at maps n r) none_at) (ty_spots path s))
    ∙ ap (λ k. unless_at path r (ty_fits s) OverLimit [] ++ all_at (spot_at none_at (λ inner. ty_faults_at maps k r) none_at) (ty_spots path s)) (let e : n ≡ suc n - 1 = omega arith in e)

pub expr_unknown : (maps : Bool) (room : ℕ) (r : Role) (path : List ℕ) (f : Form) → shape_of maps f ≡ None → expr_faults_at maps room r path f ≡ placed path r UnknownForm ∷ []
unfolding expr_faults_at
expr_unknown maps zero r path f h = ap (λ s. known_at path r s (λ shape. placed path role.DeepExpression OverLimit ∷ [])) h
expr_unknown maps (suc n) r path f h = ap (λ s. known_at path r s (λ shape. unless_at path r (fits shape) OverLimit (all_at (spot_in maps (expr_faults_at maps n)) (spots maps path shape)))) h

pub expr_full : (maps : Bool) (r : Role) (path : List ℕ) (f : Form) (s : Shape) → shape_of maps f ≡ Some s → expr_faults_at maps 0 r path f ≡ placed path role.DeepExpression OverLimit ∷ []
unfolding expr_faults_at
expr_full maps r path f s h = ap (λ s. known_at path r s (λ shape. placed path role.DeepExpression OverLimit ∷ [])) h

pub expr_inside : (maps : Bool) (room : ℕ) (r : Role) (path : List ℕ) (f : Form) (s : Shape) → room ≢ 0 → shape_of maps f ≡ Some s → expr_faults_at maps room r path f ≡ unless_at path r (fits s) OverLimit [] ++ all_at (spot_in maps (expr_faults_at maps (room - 1))) (spots maps path s)
unfolding expr_faults_at
expr_inside maps zero r path f s ne h = absurd (ne refl)
expr_inside maps (suc n) r path f s ne h =
    ap (λ s. known_at path r s (λ shape. unless_at path r (fits shape) OverLimit (all_at (spot_in maps (expr_faults_at maps n)) (spots maps path shape)))) h
    ∙ both path r (fits s) (all_at (spot_in maps (expr_faults_at maps n)) (spots maps path s))
    ∙ ap (λ k. unless_at path r (fits s) OverLimit [] ++ all_at (spot_in maps (expr_faults_at maps k)) (spots maps path s)) (let e : n ≡ suc n - 1 = omega arith in e)

pub ruleset ty_levels = (ty_unknown, ty_full, ty_inside)

pub ruleset expr_levels = (expr_unknown, expr_full, expr_inside)
