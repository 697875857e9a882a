-- Where the next state does not depend on the result, it is the same whatever the result is, and a state without open
-- variables.
use Rattle.std.proofs.Common.{◌≡◌, ℕ, true, false, ◌&&◌, List, [], ◌∷◌, Option, Some, None, refl, sym, ap, ◌∙◌, subst}
use Rattle.pst_eval.proofs.Inhabited.{has_value}
use Rattle.pst_eval.proofs.Operating.{By}
use Rattle.pst_eval.proofs.Table.{the_operation, next_by, state_to}
use Rattle.pst_eval.proofs.Unnamed.{ignores_result}
use Rattle.pst_eval.specs.Callbacks.{NextFits, next_in, next_of}
use Rattle.pst_eval.specs.Meaning.{frame}
use Rattle.pst_eval.specs.Names.{next_names_result, next_names_result_in}
use Rattle.pst_model.proofs.Operations.{well_operation}
use Rattle.pst_model.specs.Fitting.{is_state, args_fit, ref_fits, ref_fits_in}
use Rattle.pst_model.specs.Parts.{operation_of, parameters_of}
use Rattle.pst_model.specs.WellTyped.{name_s, WellModel}
use Rattle.pst_model.specs.declared.model.Op.{Op}
use Rattle.pst_model.specs.declared.model.Source.{Source}
use Rattle.pst_operators.specs.Outcome.{Gives}
use Rattle.pst_value.proofs.ExactTypes.{same_ty-Decides}
use Rattle.pst_value.proofs.Typing.{fits-Ref-Ref}
use Rattle.pst_value.specs.Fits.{fits, is_ty}
use Rattle.pst_value.specs.Subst.{numbered}
use Rattle.pst_value.specs.declared.ty.Ty.{Ty}
use Rattle.pst_value.specs.declared.value.Value.{Value, Ref}

module _ (m : Source) (op : ℕ) (unnamed : next_names_result m op ≡ false) where
  in_operation : (q : Option Op) → next_names_result_in q ≡ false → (s : Value) (args : List Value) (v w : Value) → next_in m q s args v ≡ next_in m q s args w
  in_operation None n s args v w = refl
  in_operation (Some o) n s args v w = ignores_result m o.next n ((name_s, s) ∷ frame o.params args) v w

  pub same_next : (s : Value) (args : List Value) (v w : Value) → next_of m op s args v ≡ next_of m op s args w
  unfolding next_of
  same_next s args v w = in_operation (operation_of m.items op) unnamed s args v w

  -- the result of a command of the number
  module _ (well : WellModel m) (vars : List Ty) (number : ℕ) (o : Op) (is : operation_of m.items op ≡ Some o) (place : numbered vars number ≡ Some o.result) where
    a_reference : (v : Value) → fits [] vars (parameters_of m.items) v o.result ≡ true → ref_fits m [] vars op (Ref number v) ≡ true
    unfolding ref_fits
    a_reference v h =
        ap (λ q. ref_fits_in m [] vars q (Ref number v)) is
        ∙ fits-Ref-Ref [] vars (parameters_of m.items) number v o.result
        ∙ ap (λ b. b && fits [] vars (parameters_of m.items) v o.result) (ap (λ t. is_ty t o.result) place ∙ (same_ty-Decides o.result o.result).1 refl) ∙ h

    pub next_is_state : (s : Value) (args : List Value) (r : Value) (p : Value × ℕ) → is_state m [] vars s ≡ true → args_fit m [] vars op args ≡ true → next_of m op s args r ≡ Gives p → is_state m [] vars p.0 ≡ true
    next_is_state s args r p state arguments e =
        let v = has_value [] vars (parameters_of m.items) o.result (well_operation m op o well is).result in
        let fit : NextFits m op s args (Ref number v.0) [] vars = record { state = state; arguments = arguments; result = a_reference v.0 v.1 } in
        let given = next_by [] vars m op s args (Ref number v.0) well fit in
        state_to [] vars m well p.0 (subst (By (λ x. fits [] vars (parameters_of m.items) x well.state ≡ true)) (same_next s args (Ref number v.0) r ∙ e) given)
