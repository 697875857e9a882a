-- A value in which no variable may stand open fits also where some may, and so the callbacks may be asked of a call of
-- unknown outcome.
use Rattle.std.proofs.Common.{◌≡◌, ℕ, zero, suc, Bool, true, ◌&&◌, nat_le, length, List, [], ◌∷◌, map, sym, ap, ◌∙◌, ℤ, Option, Some, None, slice_get}
use Rattle.std.proofs.lemmas.List.{length-map}
use Rattle.std.specs.List.{AllByRecursion, list_all}
use Rattle.pst_eval.proofs.Unused.{next_is_state}
use Rattle.pst_eval.specs.Callbacks.{NextFits, next_of}
use Rattle.pst_judge.specs.UnknownFitting.{UnknownFits}
use Rattle.pst_judge.specs.declared.events.Event.{Event}
use Rattle.pst_model.specs.Fitting.{is_state, is_state_in, args_fit, args_fit_in}
use Rattle.pst_model.specs.Parts.{operation_of, parameters_of, state_of, types_of}
use Rattle.pst_model.specs.declared.model.Op.{Op}
use Rattle.pst_model.specs.declared.model.Source.{Source}
use Rattle.pst_operators.specs.Outcome.{Gives}
use Rattle.pst_value.proofs.ItemsExact.{both_first, both_second}
use Rattle.pst_value.proofs.Forms.{value_induction}
use Rattle.pst_value.proofs.Typing.{fits-Int, fits-Truth, fits-Text, fits-Tuple, fits-ListOf, fits-MapOf, fits-Var, fits-Ref, fits-Call}
use Rattle.pst_value.specs.Fits.{fits, fits_level, fit_each, fit_params, is_ty}
use Rattle.pst_value.specs.Keys.{are_keys}
use Rattle.pst_value.specs.Subst.{numbered}
use Rattle.pst_value.specs.Text.{limit}
use Rattle.pst_value.specs.declared.key.Key.{Key}
use Rattle.pst_value.specs.declared.value.Value.{Value}
use Rattle.pst_value.specs.declared.value.Value.TheOpen.{Value-F}
use Rattle.pst_value.specs.declared.ty.Ty.{Ty, out-Ty}
use Rattle.pst_value.specs.declared.ty.Ty.TheOpen.{Ty-F}

-- no command has the number, since there are none
none-numbered : (n : ℕ) (t : Ty) → is_ty (numbered [] n) t ≡ true → ⊥
none-numbered zero t h = cc
none-numbered (suc n) t h = cc

module _ (free vars : List Ty) (ops : List (List Ty)) where
  abbrev narrow : Value → Ty → Bool
  narrow = fits [] vars ops

  abbrev wide : Value → Ty → Bool
  wide = fits free vars ops

  abbrev Wider : Value → Type 0
  Wider v = (t : Ty) → narrow v t ≡ true → wide v t ≡ true

  each_wider : (xs : List Value) (ts : List Ty) → AllByRecursion Wider xs → fit_each (map narrow xs) ts ≡ true → fit_each (map wide xs) ts ≡ true
  each_wider [] ts h e = e
  each_wider (x ∷ xs) [] h e = e
  each_wider (x ∷ xs) (t ∷ ts) h e =
      let p : wide x t ≡ true = h.0 t (both_first (narrow x t) _ e) in
      let q : fit_each (map wide xs) ts ≡ true = each_wider xs ts h.1 (both_second (narrow x t) _ e) in
      ap (λ b. b && fit_each (map wide xs) ts) p ∙ q

  all_wider : (xs : List Value) (t : Ty) → AllByRecursion Wider xs → list_all (λ f. f t) (map narrow xs) ≡ true → list_all (λ f. f t) (map wide xs) ≡ true
  all_wider [] t h e = e
  all_wider (x ∷ xs) t h e =
      let p : wide x t ≡ true = h.0 t (both_first (narrow x t) _ e) in
      let q : list_all (λ f. f t) (map wide xs) ≡ true = all_wider xs t h.1 (both_second (narrow x t) _ e) in
      ap (λ b. b && list_all (λ f. f t) (map wide xs)) p ∙ q

  -- ---- one level

  int_wider : (n : ℤ) (x : Ty-F Ty) → fits_level [] vars ops (Value-F.Int n) x ≡ true → fits_level free vars ops (Value-F.Int n) x ≡ true
  int_wider n Ty-F.Int e = e
  int_wider n Ty-F.Bool e = e
  int_wider n Ty-F.Text e = e
  int_wider n (Ty-F.Tuple ts) e = e
  int_wider n (Ty-F.List s) e = e
  int_wider n (Ty-F.Map kt s) e = e
  int_wider n (Ty-F.Ref s) e = e
  int_wider n Ty-F.Call e = e

  truth_wider : (b : Bool) (x : Ty-F Ty) → fits_level [] vars ops (Value-F.Bool b) x ≡ true → fits_level free vars ops (Value-F.Bool b) x ≡ true
  truth_wider b Ty-F.Int e = e
  truth_wider b Ty-F.Bool e = e
  truth_wider b Ty-F.Text e = e
  truth_wider b (Ty-F.Tuple ts) e = e
  truth_wider b (Ty-F.List s) e = e
  truth_wider b (Ty-F.Map kt s) e = e
  truth_wider b (Ty-F.Ref s) e = e
  truth_wider b Ty-F.Call e = e

  text_wider : (bs : List ℕ) (x : Ty-F Ty) → fits_level [] vars ops (Value-F.Text bs) x ≡ true → fits_level free vars ops (Value-F.Text bs) x ≡ true
  text_wider bs Ty-F.Int e = e
  text_wider bs Ty-F.Bool e = e
  text_wider bs Ty-F.Text e = e
  text_wider bs (Ty-F.Tuple ts) e = e
  text_wider bs (Ty-F.List s) e = e
  text_wider bs (Ty-F.Map kt s) e = e
  text_wider bs (Ty-F.Ref s) e = e
  text_wider bs Ty-F.Call e = e

  tuple_wider : (xs : List Value) → AllByRecursion Wider xs → (x : Ty-F Ty) → fits_level [] vars ops (Value-F.Tuple (map narrow xs)) x ≡ true → fits_level free vars ops (Value-F.Tuple (map wide xs)) x ≡ true
  tuple_wider xs h (Ty-F.Tuple ts) e = each_wider xs ts h e
  tuple_wider xs h Ty-F.Int e = e
  tuple_wider xs h Ty-F.Bool e = e
  tuple_wider xs h Ty-F.Text e = e
  tuple_wider xs h (Ty-F.List t) e = e
  tuple_wider xs h (Ty-F.Map kt t) e = e
  tuple_wider xs h (Ty-F.Ref t) e = e
  tuple_wider xs h Ty-F.Call e = e

  list_wider : (xs : List Value) → AllByRecursion Wider xs → (x : Ty-F Ty) → fits_level [] vars ops (Value-F.List (map narrow xs)) x ≡ true → fits_level free vars ops (Value-F.List (map wide xs)) x ≡ true
  list_wider xs h (Ty-F.List t) e =
      let same : length (map wide xs) ≡ length (map narrow xs) = simp length-map in
      ap (λ n. nat_le n limit && list_all (λ f. f t) (map wide xs)) same
      ∙ ap (λ b. b && list_all (λ f. f t) (map wide xs)) (both_first (nat_le (length (map narrow xs)) limit) _ e)
      ∙ all_wider xs t h (both_second (nat_le (length (map narrow xs)) limit) _ e)
  list_wider xs h (Ty-F.Map kt t) e = e
  list_wider xs h Ty-F.Int e = e
  list_wider xs h Ty-F.Bool e = e
  list_wider xs h Ty-F.Text e = e
  list_wider xs h (Ty-F.Tuple t) e = e
  list_wider xs h (Ty-F.Ref t) e = e
  list_wider xs h Ty-F.Call e = e

  map_wider : (ks : List Key) (xs : List Value) → AllByRecursion Wider xs → (x : Ty-F Ty) → fits_level [] vars ops (Value-F.Map ks (map narrow xs)) x ≡ true → fits_level free vars ops (Value-F.Map ks (map wide xs)) x ≡ true
  map_wider ks xs h (Ty-F.Map kt t) e =
      let same : length (map wide xs) ≡ length (map narrow xs) = simp length-map in
      ap (λ n. are_keys kt n ks && list_all (λ f. f t) (map wide xs)) same
      ∙ ap (λ b. b && list_all (λ f. f t) (map wide xs)) (both_first (are_keys kt (length (map narrow xs)) ks) _ e)
      ∙ all_wider xs t h (both_second (are_keys kt (length (map narrow xs)) ks) _ e)
  map_wider ks xs h Ty-F.Int e = e
  map_wider ks xs h Ty-F.Bool e = e
  map_wider ks xs h Ty-F.Text e = e
  map_wider ks xs h (Ty-F.Tuple t) e = e
  map_wider ks xs h (Ty-F.List t) e = e
  map_wider ks xs h (Ty-F.Ref t) e = e
  map_wider ks xs h Ty-F.Call e = e

  params_wider : (xs : List Value) → AllByRecursion Wider xs → (o : Option (List Ty)) → fit_params (map narrow xs) o ≡ true → fit_params (map wide xs) o ≡ true
  params_wider xs h None e = e
  params_wider xs h (Some ts) e = each_wider xs ts h e

  call_wider : (op : ℕ) (xs : List Value) → AllByRecursion Wider xs → (x : Ty-F Ty) → fits_level [] vars ops (Value-F.Call op (map narrow xs)) x ≡ true → fits_level free vars ops (Value-F.Call op (map wide xs)) x ≡ true
  call_wider op xs h Ty-F.Call e = params_wider xs h (slice_get ops op) e
  call_wider op xs h Ty-F.Int e = e
  call_wider op xs h Ty-F.Bool e = e
  call_wider op xs h Ty-F.Text e = e
  call_wider op xs h (Ty-F.Tuple t) e = e
  call_wider op xs h (Ty-F.List t) e = e
  call_wider op xs h (Ty-F.Map kt t) e = e
  call_wider op xs h (Ty-F.Ref t) e = e

  var_wider : (n : ℕ) (x : Ty-F Ty) → fits_level [] vars ops (Value-F.Var n) x ≡ true → fits_level free vars ops (Value-F.Var n) x ≡ true
  var_wider n (Ty-F.Ref t) e = absurd (none-numbered n t e)
  var_wider n Ty-F.Int e = e
  var_wider n Ty-F.Bool e = e
  var_wider n Ty-F.Text e = e
  var_wider n (Ty-F.Tuple t) e = e
  var_wider n (Ty-F.List t) e = e
  var_wider n (Ty-F.Map kt t) e = e
  var_wider n Ty-F.Call e = e

  ref_wider : (n : ℕ) (v : Value) (x : Ty-F Ty) → Wider v → fits_level [] vars ops (Value-F.Ref n (narrow v)) x ≡ true → fits_level free vars ops (Value-F.Ref n (wide v)) x ≡ true
  ref_wider n v (Ty-F.Ref t) h e =
      ap (λ b. b && wide v t) (both_first (is_ty (numbered vars n) t) _ e) ∙ h t (both_second (is_ty (numbered vars n) t) _ e)
  ref_wider n v Ty-F.Int h e = e
  ref_wider n v Ty-F.Bool h e = e
  ref_wider n v Ty-F.Text h e = e
  ref_wider n v (Ty-F.Tuple t) h e = e
  ref_wider n v (Ty-F.List t) h e = e
  ref_wider n v (Ty-F.Map kt t) h e = e
  ref_wider n v Ty-F.Call h e = e

  pub fits-opened : (v : Value) → Wider v
  fits-opened = value_induction Wider (record {
    int = λ n t e. fits-Int free vars ops n t ∙ int_wider n (out-Ty t) (sym (fits-Int [] vars ops n t) ∙ e);
    truth = λ b t e. fits-Truth free vars ops b t ∙ truth_wider b (out-Ty t) (sym (fits-Truth [] vars ops b t) ∙ e);
    text = λ bs t e. fits-Text free vars ops bs t ∙ text_wider bs (out-Ty t) (sym (fits-Text [] vars ops bs t) ∙ e);
    tuple = λ xs h t e. fits-Tuple free vars ops xs t ∙ tuple_wider xs h (out-Ty t) (sym (fits-Tuple [] vars ops xs t) ∙ e);
    items = λ xs h t e. fits-ListOf free vars ops xs t ∙ list_wider xs h (out-Ty t) (sym (fits-ListOf [] vars ops xs t) ∙ e);
    maps = λ ks xs h t e. fits-MapOf free vars ops ks xs t ∙ map_wider ks xs h (out-Ty t) (sym (fits-MapOf [] vars ops ks xs t) ∙ e);
    var = λ n t e. fits-Var free vars ops n t ∙ var_wider n (out-Ty t) (sym (fits-Var [] vars ops n t) ∙ e);
    ref = λ n v h t e. fits-Ref free vars ops n v t ∙ ref_wider n v (out-Ty t) h (sym (fits-Ref [] vars ops n v t) ∙ e);
    call = λ op xs h t e. fits-Call free vars ops op xs t ∙ call_wider op xs h (out-Ty t) (sym (fits-Call [] vars ops op xs t) ∙ e);
  })

  pub each_opened : (vs : List Value) (ts : List Ty) → fit_each (map narrow vs) ts ≡ true → fit_each (map wide vs) ts ≡ true
  each_opened [] ts e = e
  each_opened (v ∷ vs) [] e = e
  each_opened (v ∷ vs) (t ∷ ts) e =
      let p : wide v t ≡ true = fits-opened v t (both_first (narrow v t) _ e) in
      ap (λ b. b && fit_each (map wide vs) ts) p ∙ each_opened vs ts (both_second (narrow v t) _ e)

-- ---- states, arguments, and calls of unknown outcome

module _ (m : Source) (free vars : List Ty) where
  the_state : (o : Option Ty) (s : Value) → is_state_in m [] vars s o ≡ true → is_state_in m free vars s o ≡ true
  the_state None s h = h
  the_state (Some t) s h = fits-opened free vars (parameters_of m.items) s t h

  state_opened : (s : Value) → is_state m [] vars s ≡ true → is_state m free vars s ≡ true
  unfolding is_state
  state_opened s h = the_state (state_of m.items) s h

  the_arguments : (o : Option Op) (args : List Value) → args_fit_in m [] vars o args ≡ true → args_fit_in m free vars o args ≡ true
  the_arguments None args h = h
  the_arguments (Some o) args h = each_opened free vars (parameters_of m.items) args (types_of o.params) h

  arguments_opened : (op : ℕ) (args : List Value) → args_fit m [] vars op args ≡ true → args_fit m free vars op args ≡ true
  unfolding args_fit
  arguments_opened op args h = the_arguments (operation_of m.items op) args h

module _ (m : Source) (vars : List Ty) (e : Event) (s : Value) (state : is_state m [] vars s ≡ true) (fit : UnknownFits m vars e) where
  -- `next` may be asked of the call
  pub next_fits : NextFits m e.op s e.args e.reference vars vars
  next_fits = record { state = state_opened m vars vars s state; arguments = arguments_opened m vars vars e.op e.args fit.arguments; result = fit.reference }

  -- and no variable stands open in the state that it gives
  pub next_state : (p : Value × ℕ) → next_of m e.op s e.args e.reference ≡ Gives p → is_state m [] vars p.0 ≡ true
  next_state p is = next_is_state m e.op fit.unnamed fit.well vars fit.number fit.operation fit.is fit.place s e.args e.reference p state fit.arguments is
