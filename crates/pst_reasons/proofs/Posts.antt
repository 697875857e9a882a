-- What a postcondition gives, evaluated by itself.
use Rattle.std.proofs.Common.{◌≡◌, ℕ, Bool, List, ◌∷◌, Some, None, Result, Ok, Err, sym, ap, ◌∙◌, subst}
use Rattle.pst_reasons.specs.Allowed.{PostGives}
use Rattle.std.specs.Prelude.{reverse}
use Rattle.pst_eval.specs.Callbacks.{at_names, max_turns, post_in, post_of}
use Rattle.pst_eval.specs.Meaning.{called, frame, mean}
use Rattle.pst_model.specs.Parts.{operation_of}
use Rattle.pst_model.specs.declared.model.Op.{Op}
use Rattle.pst_model.specs.declared.model.Source.{Source}
use Rattle.pst_operators.specs.Answers.{Answers, Meets, Stops}
use Rattle.pst_operators.specs.Operators.{truth_of}
use Rattle.pst_operators.specs.Outcome.{Outcome, Gives, Stuck, and_then}
use Rattle.pst_operators.specs.declared.stop.Stop.{Stop}
use Rattle.pst_operators.specs.declared.stop.Stop.TheVariants.{Fault, Stuck as IsStuck, NoMemory}
use Rattle.pst_model.specs.WellTyped.{name_s, name_r}
use Rattle.pst_value.specs.declared.value.Value.{Value}

pub post_is : (m : Source) (op : ℕ) (o : Op) (s : Value) (args : List Value) (r : Value) → operation_of m.items op ≡ Some o → post_of m op s args r ≡ at_names m o.post ((name_r, r) ∷ (name_s, s) ∷ frame o.params args)
unfolding post_of
post_is m op o s args r is = ap (λ q. post_in m q s args r) is

pub no_post : (m : Source) (op : ℕ) (s : Value) (args : List Value) (r : Value) → operation_of m.items op ≡ None → post_of m op s args r ≡ Stuck
unfolding post_of
no_post m op s args r is = ap (λ q. post_in m q s args r) is

pub post_given : (m : Source) (op : ℕ) (o : Op) (s : Value) (args : List Value) (r : Value) (a : Result Value Stop) (left : ℕ) → operation_of m.items op ≡ Some o
    → Meets (mean m.items (called m.items (reverse m.items)) o.post ((name_r, r) ∷ (name_s, s) ∷ frame o.params args) max_turns) a left → PostGives (post_of m op s args r) a
unfolding at_names
post_given m op o s args r (Ok v) left is h = (left, post_is m op o s args r is ∙ h)
post_given m op o s args r (Err (Fault why)) left is h = post_is m op o s args r is ∙ h
post_given m op o s args r (Err IsStuck) left is h = post_is m op o s args r is ∙ h
post_given m op o s args r (Err NoMemory) left is h = tt

-- ---- the truth that it is

pub stops_then : (o : Outcome (Value × ℕ)) (why : Stop) → Stops o why → Stops (and_then o (λ p. truth_of p.0)) why
stops_then o (Fault k) h = ap (λ x. and_then x (λ p. truth_of p.0)) h
stops_then o IsStuck h = ap (λ x. and_then x (λ p. truth_of p.0)) h
stops_then o NoMemory h = tt

pub truth_then : (o : Outcome (Value × ℕ)) (v : Value) (left : ℕ) (r : Result Bool Stop) → o ≡ Gives (v, left) → Answers (truth_of v) r → Answers (and_then o (λ p. truth_of p.0)) r
truth_then o v left r is h =
    let P : Outcome (Value × ℕ) → Type 0 = λ x. Answers (and_then x (λ p. truth_of p.0)) r in
    subst P (sym is) h
