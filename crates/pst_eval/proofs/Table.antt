-- The functions of a well-typed model give values of their result types, and each callback a value of its type.
use Rattle.std.proofs.Common.{◌≡◌, ◌≢◌, ◌||◌, not, ℕ, Bool, true, false, List, [], ◌∷◌, ◌++◌, length, reverse, Option, Some, None, Ok, Err, Result, refl, sym, ap, ◌∙◌, subst, inl, inr, eq-eqb, append_assoc, append-nil}
use Rattle.std.proofs.lemmas.Bool.{cases_Bool}
use Rattle.std.proofs.lemmas.List.{reverse-append}
use Rattle.std.specs.Str.{bytes_eq}
use Rattle.pst_eval.specs.Meaning.{Env, applied, called, frame, mean}
use Rattle.pst_model.specs.Parts.{initial_state_of, calls_of, operation_of, parameters_of, types_of}
use Rattle.pst_model.specs.declared.expr.Expr.{Expr}
use Rattle.pst_model.specs.declared.model.Fun.{Fun}
use Rattle.pst_model.specs.declared.model.Item.{Item}
use Rattle.pst_model.specs.declared.model.Item.TheVariants as item
use Rattle.pst_model.specs.declared.model.Op.{Op}
use Rattle.pst_model.specs.declared.model.Source.{Source}
use Rattle.pst_operators.specs.Outcome.{Outcome, Gives, Faults, Stuck, turn}
use Rattle.pst_model.proofs.Operations.{well_operation}
use Rattle.pst_model.specs.Rules.{Context, context_of, Has, Typed}
use Rattle.pst_model.specs.WellTyped.{name_s, name_r, pre_context, next_context, post_context, WellItem, WellItems, WellModel}
use Rattle.pst_value.specs.declared.fault.Fault.{Fault}
use Rattle.pst_value.specs.declared.ty.Ty.{Ty}
use Rattle.pst_value.specs.declared.ty.Ty.TheVariants as ty
use Rattle.pst_value.specs.declared.value.Value.{Value}
use Rattle.pst_eval.specs.Callbacks.{max_turns, at_names, of_expr, init_of, command_of, pre_in, pre_of, next_in, next_of, post_in, post_of, PreFits, NextFits, PostFits, Says, Given, GivenState}
use Rattle.pst_model.specs.Fitting.{is_state, is_state_in, args_fit, args_fit_in, ref_fits, ref_fits_in, result_fits, result_fits_in}
use Rattle.pst_eval.proofs.Fitting.{Fit, FitAll, all_from, Agrees, frame_agrees}
use Rattle.pst_eval.proofs.Operating.{By, by_path, by_then, turn_by}
use Rattle.pst_eval.proofs.Sound.{FunctionsFit, sound}

-- the body of each function has its result's type over the earlier ones
abbrev pub FunctionsWell : List Item → List Item → Type 0
FunctionsWell items [] = Unit {0}
FunctionsWell items (item.Fun f ∷ earlier) = Typed items earlier f.is_post (Has (context_of f.params) f.body f.result) × FunctionsWell items earlier
FunctionsWell items (item.State t ∷ earlier) = FunctionsWell items earlier
FunctionsWell items (item.Init e ∷ earlier) = FunctionsWell items earlier
FunctionsWell items (item.Command e ∷ earlier) = FunctionsWell items earlier
FunctionsWell items (item.Op o ∷ earlier) = FunctionsWell items earlier

one_well : (items : List Item) (S : Ty) (earlier : List Item) (i : Item) → WellItem items S earlier i → FunctionsWell items earlier → FunctionsWell items (i ∷ earlier)
one_well items S earlier (item.Fun f) w h = (w, h)
one_well items S earlier (item.State t) w h = h
one_well items S earlier (item.Init e) w h = h
one_well items S earlier (item.Command e) w h = h
one_well items S earlier (item.Op o) w h = h

pub functions_well : (items : List Item) (S : Ty) (earlier later : List Item) → WellItems items S earlier later → FunctionsWell items earlier → FunctionsWell items (reverse later ++ earlier)
functions_well items S earlier [] w h = h
functions_well items S earlier (i ∷ later) w h =
    let P : List Item → Type 0 = λ is. FunctionsWell items is in
    subst P (sym (ap (λ is. is ++ earlier) (reverse-append (i ∷ []) later) ∙ append_assoc (reverse later) (i ∷ []) earlier)) (functions_well items S (i ∷ earlier) later w.1 (one_well items S earlier i w.0 h))

pub all_well : (m : Source) → WellModel m → FunctionsWell m.items (reverse m.items)
all_well m w =
    let P : List Item → Type 0 = λ is. FunctionsWell m.items is in
    subst P (append-nil (reverse m.items)) (functions_well m.items w.state [] m.items w.well tt)

-- the opening state and the calls among well-typed items
pub well_opening : (items : List Item) (S : Ty) (earlier later : List Item) (e : Expr) → WellItems items S earlier later → initial_state_of later ≡ Some e → Typed items (reverse items) false (Has [] e S)
well_opening items S earlier [] x w e = absurd (cc)
well_opening items S earlier (item.Init y ∷ later) x w e = let q : y ≡ x = cc in let P : Expr → Type 0 = λ k. Typed items (reverse items) false (Has [] k S) in subst P q w.0
well_opening items S earlier (item.Op p ∷ later) x w e = well_opening items S (item.Op p ∷ earlier) later x w.1 e
well_opening items S earlier (item.Fun f ∷ later) x w e = well_opening items S (item.Fun f ∷ earlier) later x w.1 e
well_opening items S earlier (item.State t ∷ later) x w e = well_opening items S (item.State t ∷ earlier) later x w.1 e
well_opening items S earlier (item.Command t ∷ later) x w e = well_opening items S (item.Command t ∷ earlier) later x w.1 e

pub well_calls : (items : List Item) (S : Ty) (earlier later : List Item) (e : Expr) → WellItems items S earlier later → calls_of later ≡ Some e → Typed items (reverse items) false (Has ((name_s, S) ∷ []) e (ty.List ty.Call))
well_calls items S earlier [] x w e = absurd (cc)
well_calls items S earlier (item.Command y ∷ later) x w e = let q : y ≡ x = cc in let P : Expr → Type 0 = λ k. Typed items (reverse items) false (Has ((name_s, S) ∷ []) k (ty.List ty.Call)) in subst P q w.0
well_calls items S earlier (item.Op p ∷ later) x w e = well_calls items S (item.Op p ∷ earlier) later x w.1 e
well_calls items S earlier (item.Fun f ∷ later) x w e = well_calls items S (item.Fun f ∷ earlier) later x w.1 e
well_calls items S earlier (item.State t ∷ later) x w e = well_calls items S (item.State t ∷ earlier) later x w.1 e
well_calls items S earlier (item.Init t ∷ later) x w e = well_calls items S (item.Init t ∷ earlier) later x w.1 e

-- a function that is marked post is applied in mode post alone
pub marked : (post : Bool) (g : Fun) → (post || not g.is_post) ≡ true → g.is_post ≡ true → post ≡ true
marked true g l p = refl
marked false g l p = absurd (let n : not g.is_post ≡ false = ap not p in cc)

module _ (free vars : List Ty) where
  pub functions_fit : (items earlier : List Item) → FunctionsWell items earlier → (post : Bool) → (post ≡ true → free ≡ []) → FunctionsFit free vars items earlier post (called items earlier)
  functions_fit items [] w post closed f g args t e l fit = absurd (cc)
  functions_fit items (item.State x ∷ earlier) w post closed f g args t e l fit = functions_fit items earlier w post closed f g args t e l fit
  functions_fit items (item.Init x ∷ earlier) w post closed f g args t e l fit = functions_fit items earlier w post closed f g args t e l fit
  functions_fit items (item.Command x ∷ earlier) w post closed f g args t e l fit = functions_fit items earlier w post closed f g args t e l fit
  functions_fit items (item.Op x ∷ earlier) w post closed f g args t e l fit = functions_fit items earlier w post closed f g args t e l fit
  functions_fit items (item.Fun h ∷ earlier) w post closed f g args t e l fit = elim (cases_Bool (bytes_eq h.name f)) [
    | inl s ↦
        let q = rw s at e in
        let r : h ≡ g = cc in
        let P : Fun → Type 0 = λ k. (post || not k.is_post) ≡ true → FitAll free vars (parameters_of items) args (types_of k.params) → By (λ v. Fit free vars (parameters_of items) v k.result) (applied (called items (item.Fun h ∷ earlier)) f args t) in
        subst P r (λ lawful fits.
        let inner : h.is_post ≡ true → free ≡ [] = λ p. closed (marked post h lawful p) in
        let a = frame_agrees free vars (parameters_of items) h.params args fits in
        let R = λ (v : Value). Fit free vars (parameters_of items) v h.result in
        rw (s, eq-eqb (length h.params) (length args) a.0)
        (by_then (λ u. Unit {0}) R (turn t) (λ r. mean items (called items earlier) h.body (frame h.params args) r.1) (turn_by t)
        (λ u n z. sound free vars items earlier h.is_post inner (called items earlier) (functions_fit items earlier w.1 h.is_post inner) _ w.0 (frame h.params args) n a.1))) l fit
    | inr s ↦ rw s (functions_fit items earlier w.1 post closed f g args t (rw s at e) l fit)
  ]

  abbrev FitIn : Source → Value → Ty → Type 0
  FitIn m v T = Fit free vars (parameters_of m.items) v T

  -- an expression of the model
  names_by : (m : Source) (post : Bool) (e : Expr) (G : Context) (T : Ty) (env : Env) → (post ≡ true → free ≡ []) → WellModel m → Typed m.items (reverse m.items) post (Has G e T) → Agrees free vars (parameters_of m.items) env G → By (λ v. FitIn m v T) (at_names m e env)
  unfolding at_names
  names_by m post e G T env closed w h a = sound free vars m.items (reverse m.items) post closed (called m.items (reverse m.items)) (functions_fit m.items (reverse m.items) (all_well m w) post closed) _ h env max_turns a

  plainly : false ≡ true → free ≡ []
  plainly e = absurd (cc)

  pub init_by : (m : Source) (w : WellModel m) → By (λ v. FitIn m v w.state) (init_of m)
  unfolding init_of
  init_by m w =
      by_path (λ v. FitIn m v w.state) _ _ (ap (λ o. of_expr m o []) w.opening_is)
      (names_by m false w.opening [] w.state [] plainly w (well_opening m.items w.state [] m.items w.opening w.well w.opening_is) tt)

  pub state_from : (m : Source) (w : WellModel m) (s : Value) → is_state m free vars s ≡ true → FitIn m s w.state
  unfolding is_state
  state_from m w s h = ap (λ o. is_state_in m free vars s o) (sym w.state_is) ∙ h

  pub state_to : (m : Source) (w : WellModel m) (s : Value) → FitIn m s w.state → is_state m free vars s ≡ true
  unfolding is_state
  state_to m w s h = ap (λ o. is_state_in m free vars s o) w.state_is ∙ h

  pub command_by : (m : Source) (s : Value) (w : WellModel m) → is_state m free vars s ≡ true → By (λ v. FitIn m v (ty.List ty.Call)) (command_of m s)
  unfolding command_of
  command_by m s w h =
      by_path (λ v. FitIn m v (ty.List ty.Call)) _ _ (ap (λ o. of_expr m o ((name_s, s) ∷ [])) w.calls_is)
      (names_by m false w.calls ((name_s, w.state) ∷ []) (ty.List ty.Call) ((name_s, s) ∷ []) plainly w (well_calls m.items w.state [] m.items w.calls w.well w.calls_is) (record { name = refl; here = state_from m w s h; outer = tt }))

  pub frame_of : (m : Source) (o : Op) (op : ℕ) (args : List Value) → operation_of m.items op ≡ Some o → args_fit m free vars op args ≡ true → Agrees free vars (parameters_of m.items) (frame o.params args) (context_of o.params)
  unfolding args_fit
  frame_of m o op args e h = (frame_agrees free vars (parameters_of m.items) o.params args (all_from free vars (parameters_of m.items) args (types_of o.params) (ap (λ q. args_fit_in m free vars q args) (sym e) ∙ h))).1

  no_operation : (m : Source) (op : ℕ) (args : List Value) → operation_of m.items op ≡ None → args_fit m free vars op args ≡ true → ⊥
  unfolding args_fit
  no_operation m op args e h = let q : false ≡ true = ap (λ q. args_fit_in m free vars q args) (sym e) ∙ h in cc

  pub the_operation : (m : Source) (op : ℕ) (args : List Value) → args_fit m free vars op args ≡ true → (o : Op) × (operation_of m.items op ≡ Some o)
  the_operation m op args h = at (operation_of m.items op) refl
    where
      at : (q : Option Op) → operation_of m.items op ≡ q → (o : Op) × (operation_of m.items op ≡ Some o)
      at None e = absurd (no_operation m op args e h)
      at (Some o) e = (o, e)

  pub pre_by : (m : Source) (op : ℕ) (s : Value) (args : List Value) → WellModel m → PreFits m op s args free vars → By (λ v. FitIn m v ty.Bool) (pre_of m op s args)
  unfolding pre_of
  pre_by m op s args w h =
      let o = the_operation m op args h.arguments in
      by_path (λ v. FitIn m v ty.Bool) _ _ (ap (λ q. pre_in m q s args) o.1)
      (names_by m false o.0.pre (pre_context w.state o.0) ty.Bool ((name_s, s) ∷ frame o.0.params args) plainly w (well_operation m op o.0 w o.1).pre
      (record { name = refl; here = state_from m w s h.state; outer = frame_of m o.0 op args o.1 h.arguments }))

  pub ref_of : (m : Source) (o : Op) (op : ℕ) (r : Value) → operation_of m.items op ≡ Some o → ref_fits m free vars op r ≡ true → FitIn m r (ty.Ref o.result)
  unfolding ref_fits
  ref_of m o op r e h = ap (λ q. ref_fits_in m free vars q r) (sym e) ∙ h

  pub next_by : (m : Source) (op : ℕ) (s : Value) (args : List Value) (r : Value) (w : WellModel m) → NextFits m op s args r free vars → By (λ v. FitIn m v w.state) (next_of m op s args r)
  unfolding next_of
  next_by m op s args r w h =
      let o = the_operation m op args h.arguments in
      by_path (λ v. FitIn m v w.state) _ _ (ap (λ q. next_in m q s args r) o.1)
      (names_by m false o.0.next (next_context w.state o.0) w.state ((name_r, r) ∷ (name_s, s) ∷ frame o.0.params args) plainly w (well_operation m op o.0 w o.1).next
      (record { name = refl; here = ref_of m o.0 op r o.1 h.result; outer = record { name = refl; here = state_from m w s h.state; outer = frame_of m o.0 op args o.1 h.arguments } }))

result_of : (vars : List Ty) (m : Source) (o : Op) (op : ℕ) (r : Value) → operation_of m.items op ≡ Some o → result_fits m [] vars op r ≡ true → Fit [] vars (parameters_of m.items) r o.result
unfolding result_fits
result_of vars m o op r e h = ap (λ q. result_fits_in m [] vars q r) (sym e) ∙ h

pub post_by : (vars : List Ty) (m : Source) (op : ℕ) (s : Value) (args : List Value) (r : Value) → WellModel m → PostFits m op s args r vars → By (λ v. Fit [] vars (parameters_of m.items) v ty.Bool) (post_of m op s args r)
unfolding post_of
post_by vars m op s args r w h =
    let o = the_operation [] vars m op args h.arguments in
    by_path (λ v. Fit [] vars (parameters_of m.items) v ty.Bool) _ _ (ap (λ q. post_in m q s args r) o.1)
    (names_by [] vars m true o.0.post (post_context w.state o.0) ty.Bool ((name_r, r) ∷ (name_s, s) ∷ frame o.0.params args) (λ e. refl) w (well_operation m op o.0 w o.1).post
    (record { name = refl; here = result_of vars m o.0 op r o.1 h.result; outer = record { name = refl; here = state_from [] vars m w s h.state; outer = frame_of [] vars m o.0 op args o.1 h.arguments } }))

pub by_not_stuck : {A : Type 0} (P : A → Type 0) (o : Outcome (A × ℕ)) → By P o → o ≢ Stuck
by_not_stuck P (Gives r) h e = absurd (cc)
by_not_stuck P (Faults why) h e = absurd (cc)
by_not_stuck P Stuck h e = h

-- what a callback gives fits
pub given_by : (m : Source) (free vars : List Ty) (T : Ty) (o : Outcome (Value × ℕ)) (a : Result (Value × ℕ) Fault) → Says o a → By (λ v. Fit free vars (parameters_of m.items) v T) o → Given m free vars T a
given_by m free vars T o (Ok p) e h = let C : Outcome (Value × ℕ) → Type 0 = λ q. By (λ v. Fit free vars (parameters_of m.items) v T) q in subst C e h
given_by m free vars T o (Err why) e h = tt

-- what is given as a state is one
pub state_given : (m : Source) (w : WellModel m) (free vars : List Ty) (a : Result (Value × ℕ) Fault) → Given m free vars w.state a → GivenState m free vars a
state_given m w free vars (Ok p) h = state_to free vars m w p.0 h
state_given m w free vars (Err why) h = tt
