-- The run of a compiled callback has the outcome of its expression.
use Rattle.std.proofs.Common.{◌≡◌, ℕ, ◌-◌, List, [], ◌++◌, length, Some, ap, ◌∙◌}
use Rattle.pst_model.specs.declared.expr.Expr.{Expr}
use Rattle.pst_model.specs.declared.model.Item.{Item}
use Rattle.pst_value.specs.declared.value.Value.{Value}
use Rattle.pst_eval.specs.Meaning.{Env, called, mean}
use Rattle.pst_operators.specs.Outcome.{Gives, Faults, Stuck, or_stuck}
use Rattle.pst_machine.specs.declared.code.Instr.TheVariants.{Return}
use Rattle.pst_machine.specs.declared.code.FunCode.{FunCode}
use Rattle.pst_machine.specs.Machine.{Regs, State, Continues, continue_with, using, opening, filled, empty_regs, return_to, fetch, steps, End, Ends, Runs}
use Rattle.pst_compile.specs.Code.{Scope, number}
use Rattle.pst_compile.proofs.Steps.{state_at, one_halt, Reaches, obeys}
use Rattle.pst_compile.proofs.Good.{Below, Holds, OperandAt}
use Rattle.pst_compile.proofs.Calls.{IsCode, opens, body_reaches}
use Rattle.pst_compile.proofs.Main.{HasFuns, expr_good, calls_good}

abbrev pub IsWell : End → Type 0
IsWell (Gives r) = Unit {0}
IsWell (Faults why) = Unit {0}
IsWell Stuck = ⊥

module _ (code : List FunCode) where
  finished : (g n a q : ℕ) (regs0 : Regs) (s : State) (m : End) → fetch code g q ≡ Some (Return a) → Reaches code g [] s q (OperandAt (Below n) n a regs0) m → IsWell m → Ends code s m
  finished g n a q regs0 s (Gives r) h x well = x.2.by (Gives r) (one_halt code _ (Gives r) (obeys code g [] q x.0 r.1 (Return a) h ∙ ap (λ o. using o (λ v. return_to [] v r.1)) x.1.value))
  finished g n a q regs0 s (Faults why) h x well = x
  finished g n a q regs0 s Stuck h x well = absurd well

  -- fs: the items, the last first; the callback's code is function g
  pub callback_runs : (items fs : List Item) → HasFuns code items fs → (g n : ℕ) (sc : Scope) (e : Expr) → IsCode code items (number fs) g n sc e → (env : Env) (vs : List Value) (turns : ℕ) → n ≡ length vs → ((rest : Regs) → Holds (Below n) sc env (filled vs ++ rest)) → IsWell (mean items (called items fs) e env turns) → Runs code g vs turns (mean items (called items fs) e env turns)
  callback_runs items fs has g n sc e is env vs turns equal holds well =
      let inner = filled vs ++ empty_regs (is.fc.registers - is.fc.args) in
      let good = expr_good code items (number fs) (called items fs) (calls_good code items fs has) e in
      let b = body_reaches code items (number fs) g n sc e (mean items (called items fs) e) is good [] env inner turns (holds _) in
      let ends : Ends code (state_at g 0 inner turns []) (mean items (called items fs) e env turns) = finished g n _ b.0 inner (state_at g 0 inner turns []) (mean items (called items fs) e env turns) b.1 b.2 well in
      record {
        after = ends.after;
        leads =
            ap (λ x. continue_with (using (or_stuck x) (λ fc. using (opening fc vs) (λ regs. Continues (state_at g 0 regs turns [])))) (steps code ends.after)) is.here
            ∙ ap (λ x. continue_with (using x (λ regs. Continues (state_at g 0 regs turns []))) (steps code ends.after)) (opens code is.fc vs (is.args ∙ equal))
            ∙ ends.leads;
      }
