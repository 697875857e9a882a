-- The functions of a well-typed model commute with results in place of variables, and so do its callbacks.
use Rattle.std.proofs.Common.{◌≡◌, ◌≢◌, ◌||◌, not, ℕ, Bool, true, false, List, [], ◌∷◌, ◌++◌, length, map, reverse, Option, Some, refl, sym, ap, ◌∙◌, subst, inl, inr, append-nil, eq-eqb}
use Rattle.std.proofs.lemmas.Bool.{cases_Bool}
use Rattle.std.proofs.lemmas.List.{length-map}
use Rattle.std.specs.Str.{bytes_eq}
use Rattle.pst_eval.proofs.Fitting.{Fit, FitAll, Agrees, frame_agrees}
use Rattle.pst_eval.proofs.Operating.{turn_by}
use Rattle.pst_eval.proofs.Sound.{sound}
use Rattle.pst_eval.proofs.Table.{FunctionsWell, functions_well, functions_fit, all_well, well_opening, well_calls, marked, state_from, frame_of, ref_of, the_operation, pre_by, by_not_stuck}
use Rattle.pst_eval.specs.Callbacks.{max_turns, at_names, of_expr, init_of, command_of, pre_in, pre_of, next_in, next_of, PreFits, NextFits}
use Rattle.pst_model.proofs.Operations.{well_operation}
use Rattle.pst_model.specs.Fitting.{is_state}
use Rattle.pst_eval.specs.Meaning.{Env, called, frame}
use Rattle.pst_model.specs.Parts.{operation_of, parameters_of, types_of}
use Rattle.pst_model.specs.declared.expr.Expr.{Expr}
use Rattle.pst_model.specs.declared.model.Fun.{Fun}
use Rattle.pst_model.specs.declared.model.Item.{Item}
use Rattle.pst_model.specs.declared.model.Item.TheVariants as item
use Rattle.pst_model.specs.declared.model.Op.{Op}
use Rattle.pst_model.specs.declared.model.Param.{Param}
use Rattle.pst_model.specs.declared.model.Source.{Source}
use Rattle.pst_operators.specs.Outcome.{Stuck, turn}
use Rattle.pst_model.specs.Rules.{Context, context_of, Has, Typed}
use Rattle.pst_model.specs.WellTyped.{name_s, name_r, pre_context, next_context, WellItems, WellModel}
use Rattle.pst_eval.proofs.Commutes.{FunctionsCommute, commutes}
use Rattle.pst_eval.proofs.Mapping.{commute_then, mapped_leaves, turn_commutes}
use Rattle.pst_eval.proofs.Operands.{bool_stays}
use Rattle.pst_eval.specs.SymbolicLaws.{EnvFits, mean_over, IsPlainOver}
use Rattle.pst_eval.specs.Substituted.{substituted_in, substituted_outcome}
use Rattle.pst_value.specs.Subst.{substituted}
use Rattle.pst_value.specs.declared.ty.Ty.{Ty}
use Rattle.pst_value.specs.declared.ty.Ty.TheVariants as ty
use Rattle.pst_value.specs.declared.value.Value.{Value}

-- the functions of the first items of a model
wells_first : (items : List Item) (T : Ty) (earlier before after : List Item) → WellItems items T earlier (before ++ after) → WellItems items T earlier before
wells_first items T earlier [] after w = tt
wells_first items T earlier (i ∷ before) after w = (w.0, wells_first items T (i ∷ earlier) before after w.1)

pub first_well : (m : Source) → WellModel m → (before after : List Item) → m.items ≡ before ++ after → FunctionsWell m.items (reverse before)
first_well m w before after e =
    let P : List Item → Type 0 = λ is. WellItems m.items w.state [] is in
    let Q : List Item → Type 0 = λ is. FunctionsWell m.items is in
    subst Q (append-nil (reverse before)) (functions_well m.items w.state [] before (wells_first m.items w.state [] before after (subst P e w.well)) tt)

module _ (rs : List (Option Value)) where
  abbrev S : Value → Value
  S = substituted rs

  pub frame_commutes : (ps : List Param) (vs : List Value) → frame ps (map S vs) ≡ substituted_in rs (frame ps vs)
  frame_commutes [] vs = refl
  frame_commutes (p ∷ ps) [] = refl
  frame_commutes (p ∷ ps) (v ∷ vs) = ap (λ env. (p.name, S v) ∷ env) (frame_commutes ps vs)

  module _ (free vars : List Ty) where
    plainly : false ≡ true → free ≡ []
    plainly e = absurd (cc)

    not_marked : (g : Fun) → (false || not g.is_post) ≡ true → g.is_post ≡ false
    not_marked g l = elim (cases_Bool g.is_post) [ inl p ↦ absurd (let q = marked false g l p in cc) | inr p ↦ p ]

    pub functions_commute : (items earlier : List Item) → FunctionsWell items earlier → FunctionsCommute rs free vars items earlier (called items earlier)
    functions_commute items [] w f g args t e l fit = absurd (cc)
    functions_commute items (item.State x ∷ earlier) w f g args t e l fit = functions_commute items earlier w f g args t e l fit
    functions_commute items (item.Init x ∷ earlier) w f g args t e l fit = functions_commute items earlier w f g args t e l fit
    functions_commute items (item.Command x ∷ earlier) w f g args t e l fit = functions_commute items earlier w f g args t e l fit
    functions_commute items (item.Op x ∷ earlier) w f g args t e l fit = functions_commute items earlier w f g args t e l fit
    functions_commute items (item.Fun h ∷ earlier) w f g args t e l fit = elim (cases_Bool (bytes_eq h.name f)) [
      | inl s ↦
          let q = rw s at e in
          let r : g ≡ h = cc in
          let A : Fun → Type 0 = λ k. FitAll free vars (parameters_of items) args (types_of k.params) in
          let B : Fun → Type 0 = λ k. (false || not k.is_post) ≡ true in
          let C : Bool → Type 0 = λ b. Typed items earlier b (Has (context_of h.params) h.body h.result) in
          let a = frame_agrees free vars (parameters_of items) h.params args (subst A r fit) in
          let n : length (map S args) ≡ length args = length-map args S in
          let typed = subst C (not_marked h (subst B r l)) w.0 in
          rw (s, n, eq-eqb (length h.params) (length args) a.0, frame_commutes h.params args)
          (commute_then (λ u. Unit {0}) (λ u. u) S (turn t) (turn t) _ _ (turn_by t) (turn_commutes t) (λ u k z.
          commutes rs free vars items earlier (called items earlier) (functions_fit free vars items earlier w.1 false plainly) (functions_commute items earlier w.1) _ typed (frame h.params args) k a.1))
      | inr s ↦ rw s (functions_commute items earlier w.1 f g args t (rw s at e) l fit)
    ]

    agrees : (m : Source) (env : Env) (G : Context) → EnvFits m free vars env G → Agrees free vars (parameters_of m.items) env G
    agrees m [] [] h = tt
    agrees m [] (c ∷ G) h = h
    agrees m (b ∷ env) [] h = h
    agrees m (b ∷ env) (c ∷ G) h = record { name = h.0; here = h.1; outer = agrees m env G h.2 }

    -- ---- expressions

    pub over_commutes : (m : Source) → WellModel m → (before after : List Item) → m.items ≡ before ++ after → (G : Context) (e : Expr) (T : Ty) → IsPlainOver m before G e T
        → (env : Env) → EnvFits m free vars env G → (t : ℕ)
        → (mean_over m before e (substituted_in rs env) t ≡ substituted_outcome rs (mean_over m before e env t)) × (mean_over m before e env t ≢ Stuck)
    over_commutes m w before after is G e T h env f t =
        let well = first_well m w before after is in
        let fit = functions_fit free vars m.items (reverse before) well false plainly in
        let a = agrees m env G f in (
          commutes rs free vars m.items (reverse before) (called m.items (reverse before)) fit (functions_commute m.items (reverse before) well) _ h env t a,
          by_not_stuck (λ v. Fit free vars (parameters_of m.items) v T) _ (sound free vars m.items (reverse before) false plainly (called m.items (reverse before)) fit _ h env t a),
        )

    -- an expression of the model
    names_commute : (m : Source) (e : Expr) (G : Context) (T : Ty) (env : Env) → WellModel m → Typed m.items (reverse m.items) false (Has G e T) → Agrees free vars (parameters_of m.items) env G
        → at_names m e (substituted_in rs env) ≡ substituted_outcome rs (at_names m e env)
    unfolding at_names
    names_commute m e G T env w h a =
        let well = all_well m w in
        commutes rs free vars m.items (reverse m.items) (called m.items (reverse m.items)) (functions_fit free vars m.items (reverse m.items) well false plainly) (functions_commute m.items (reverse m.items) well) _ h env max_turns a

    -- ---- callbacks

    pub command_commutes : (m : Source) (s : Value) → WellModel m → is_state m free vars s ≡ true → command_of m (S s) ≡ substituted_outcome rs (command_of m s)
    unfolding command_of
    command_commutes m s w h =
        ap (λ o. of_expr m o ((name_s, S s) ∷ [])) w.calls_is
        ∙ names_commute m w.calls ((name_s, w.state) ∷ []) (ty.List ty.Call) ((name_s, s) ∷ []) w (well_calls m.items w.state [] m.items w.calls w.well w.calls_is) (record { name = refl; here = state_from free vars m w s h; outer = tt })
        ∙ ap (λ o. substituted_outcome rs (of_expr m o ((name_s, s) ∷ []))) (sym w.calls_is)

    pre_in-commutes : (m : Source) (op : ℕ) (o : Op) (s : Value) (args : List Value) → WellModel m → operation_of m.items op ≡ Some o → PreFits m op s args free vars
        → pre_in m (Some o) (S s) (map S args) ≡ substituted_outcome rs (pre_in m (Some o) s args)
    pre_in-commutes m op o s args w e h =
        ap (λ env. at_names m o.pre ((name_s, S s) ∷ env)) (frame_commutes o.params args)
        ∙ names_commute m o.pre (pre_context w.state o) ty.Bool ((name_s, s) ∷ frame o.params args) w (well_operation m op o w e).pre
        (record { name = refl; here = state_from free vars m w s h.state; outer = frame_of free vars m o op args e h.arguments })

    pub pre_commutes : (m : Source) (op : ℕ) (s : Value) (args : List Value) → WellModel m → PreFits m op s args free vars → pre_of m op (S s) (map S args) ≡ pre_of m op s args
    unfolding pre_of
    pre_commutes m op s args w h =
        let o = the_operation free vars m op args h.arguments in
        ap (λ q. pre_in m q (S s) (map S args)) o.1 ∙ pre_in-commutes m op o.0 s args w o.1 h ∙ ap (λ q. substituted_outcome rs (pre_in m q s args)) (sym o.1)
        ∙ mapped_leaves S (λ v. Fit free vars (parameters_of m.items) v ty.Bool) _ (pre_by free vars m op s args w h) (bool_stays rs free vars (parameters_of m.items))

    next_in-commutes : (m : Source) (op : ℕ) (o : Op) (s : Value) (args : List Value) (r : Value) → WellModel m → operation_of m.items op ≡ Some o → NextFits m op s args r free vars
        → next_in m (Some o) (S s) (map S args) (S r) ≡ substituted_outcome rs (next_in m (Some o) s args r)
    next_in-commutes m op o s args r w e h =
        ap (λ env. at_names m o.next ((name_r, S r) ∷ (name_s, S s) ∷ env)) (frame_commutes o.params args)
        ∙ names_commute m o.next (next_context w.state o) w.state ((name_r, r) ∷ (name_s, s) ∷ frame o.params args) w (well_operation m op o w e).next
        (record { name = refl; here = ref_of free vars m o op r e h.result; outer = record { name = refl; here = state_from free vars m w s h.state; outer = frame_of free vars m o op args e h.arguments } })

    pub next_commutes : (m : Source) (op : ℕ) (s : Value) (args : List Value) (r : Value) → WellModel m → NextFits m op s args r free vars
        → next_of m op (S s) (map S args) (S r) ≡ substituted_outcome rs (next_of m op s args r)
    unfolding next_of
    next_commutes m op s args r w h =
        let o = the_operation free vars m op args h.arguments in
        ap (λ q. next_in m q (S s) (map S args) (S r)) o.1 ∙ next_in-commutes m op o.0 s args r w o.1 h ∙ ap (λ q. substituted_outcome rs (next_in m q s args r)) (sym o.1)

  pub init_commutes : (m : Source) → WellModel m → substituted_outcome rs (init_of m) ≡ init_of m
  unfolding init_of
  init_commutes m w =
      ap (λ o. substituted_outcome rs (of_expr m o [])) w.opening_is
      ∙ sym (names_commute [] [] m w.opening [] w.state [] w (well_opening m.items w.state [] m.items w.opening w.well w.opening_is) tt)
      ∙ ap (λ o. of_expr m o []) (sym w.opening_is)
