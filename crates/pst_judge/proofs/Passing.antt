-- Where the form of a model shows that no command fails, every interleaving is all true.
use Rattle.std.proofs.Common.{◌≡◌, ◌≤◌, ◌<◌, ◌+◌, ℕ, zero, suc, true, List, [], ◌∷◌, length, sum, get_or, reverse, Option, Some, None, Ok, Bor, refl, sym, ap, ◌∙◌, subst, arith, slice_get, slice_index}
use Rattle.std.specs.Prelude.{IfSome}
use Rattle.pst_case.specs.Shape.{result_types}
use Rattle.pst_case.specs.declared.case.Case.{Case}
use Rattle.pst_eval.proofs.Fitting.{Fit}
use Rattle.pst_eval.proofs.Operating.{By}
use Rattle.pst_eval.proofs.Table.{next_by, state_to}
use Rattle.pst_eval.specs.Callbacks.{max_turns, at_names, pre_in, pre_of, next_in, next_of}
use Rattle.pst_eval.specs.Meaning.{Mean, Part, called, frame, mean, mean_at, part_at}
use Rattle.pst_grid.proofs.Answering.{IsAt-none, merge}
use Rattle.pst_grid.proofs.Completing.{Completes-head, Completes-tail}
use Rattle.pst_grid.proofs.Placing.{IsAt-branch, IsAt-more, sum-more, sum-le, sum-left}
use Rattle.pst_grid.specs.Answers.{IsEveryAnswer}
use Rattle.pst_grid.specs.Completions.{Completes, IsAt}
use Rattle.pst_grid.specs.Merges.{later, after, run, none_done, one_more}
use Rattle.pst_grid.specs.declared.steps.Ending.TheVariants.{AllTrue}
use Rattle.pst_grid.specs.declared.steps.EveryAnswer.TheVariants.{All}
use Rattle.pst_judge.specs.Symbolic.{CommandFits, symbolic_step, symbolic_outcome, step_outcome, step_of, command_at, run_commands, next_step, allowed}
use Rattle.pst_judge.specs.Replay.{branch_lengths}
use Rattle.pst_judge.specs.SymbolicSearch.{BranchesFit, CommandsFit, IsSymbolicState, last_commands}
use Rattle.pst_judge.specs.Total.{StepReaches, EachReaches, BranchesReach, TotalFor}
use Rattle.pst_judge.specs.declared.symbolic.NumberedCommand.{NumberedCommand}
use Rattle.pst_model.specs.Fitting.{is_state}
use Rattle.pst_model.specs.Parts.{operation_of, parameters_of}
use Rattle.pst_model.specs.WellTyped.{WellModel, name_r, name_s}
use Rattle.pst_model.specs.declared.expr.Expr.{Expr-F, fold-roll-Expr}
use Rattle.pst_model.specs.declared.expr.Expr.TheVariants as expr
use Rattle.pst_model.specs.declared.model.Op.{Op}
use Rattle.pst_model.specs.declared.model.Param.{Param}
use Rattle.pst_model.specs.declared.model.Source.{Source}
use Rattle.pst_operators.specs.Operators.{bool}
use Rattle.pst_operators.specs.Outcome.{Outcome, Gives, Faults, Stuck}
use Rattle.pst_eval.proofs.Bounding.{greater_first, greater_second}
use Rattle.pst_eval.specs.Reach.{greater, reach_of_value, NoFault, Reaches, UpTo, Within}
use Rattle.pst_eval.specs.declared.reach.NamesWithReach.{NamesWithReach, Frame, With'}
use Rattle.pst_value.specs.declared.ty.Ty.{Ty}
use Rattle.pst_value.specs.declared.value.Value.{Value, out-roll-Value}
use Rattle.pst_value.specs.declared.value.Value.TheOpen.{Value-F}

-- ---- what the code finds

-- from a state that reaches so far at most, by the names that the expressions see
pub step_reaches : (m : Source) (o : Op) (e : NumberedCommand) (reach after : ℕ) (inner : NamesWithReach)
    → operation_of m.items e.op ≡ Some o → o.pre ≡ expr.Bool true → Reaches inner o.next after
    → ((s : Value) → UpTo reach s → Within inner ((name_r, e.variable) ∷ (name_s, s) ∷ frame o.params e.args))
    → StepReaches m e reach after
unfolding pre_of next_of at_names
step_reaches m o e reach after inner is pre next within = λ s up.
    let F = called m.items (reverse m.items) in
    let literal : mean m.items F (expr.Bool true) ≡ mean_at m.items F (Expr-F.Bool true) =
    ap (mean m.items F) (sym (expr.rolls-Bool true)) ∙ fold-roll-Expr Part Mean part_at (mean_at m.items F) (Expr-F.Bool true) in
    let env = (name_s, s) ∷ frame o.params e.args in
    let C : Outcome (Value × ℕ) → Type 0 = λ q. NoFault (UpTo after) q in (
      ap (λ q. pre_in m q s e.args) is ∙ ap (λ p. at_names m p env) pre ∙ ap (λ n. n env max_turns) literal,
      subst C (sym (ap (λ q. next_in m q s e.args e.variable) is)) (next m.items F ((name_r, e.variable) ∷ env) (within s up) max_turns),
    )

-- the names that `next` sees (where they stand in memory does not matter)
abbrev seen : (far reach : ℕ) → Bor (List Param) → Bor (List Value) → NamesWithReach
seen far reach ps vs =
    let behind : Bor (Unit {0}) = record { ref_ptr = ps.ref_ptr; now = tt } in
    let r : Bor (List ℕ) = record { ref_ptr = ps.ref_ptr; now = name_r } in
    let s : Bor (List ℕ) = record { ref_ptr = ps.ref_ptr; now = name_s } in
    With' r far behind (With' s reach behind (Frame ps vs))

pub some_step : (m : Source) (o : Op) (e : NumberedCommand) (reach far : ℕ) (ps : Bor (List Param)) (vs : Bor (List Value)) (found : Option ℕ)
    → operation_of m.items e.op ≡ Some o → o.pre ≡ expr.Bool true → ps.now ≡ o.params → vs.now ≡ e.args → far ≡ reach_of_value e.variable
    → IfSome found (Reaches (seen far reach ps vs) o.next) → IfSome found (StepReaches m e reach)
some_step m o e reach far ps vs None is pre ps_is vs_is far_is h = tt
some_step m o e reach far ps vs (Some next) is pre ps_is vs_is far_is h =
    step_reaches m o e reach next (seen far reach ps vs) is pre h (λ s up. (refl, omega (arith, far_is), (refl, up, rw (ps_is, vs_is) refl)))

no_fault_wider : (a b : ℕ) (o : Outcome (Value × ℕ)) → a ≤ b → NoFault (UpTo a) o → NoFault (UpTo b) o
no_fault_wider a b (Gives r) l h = omega (arith, l, h)
no_fault_wider a b (Faults why) l h = h
no_fault_wider a b Stuck l h = tt

module _ (m : Source) (reach : ℕ) where
  step_wider : (e : NumberedCommand) (a b : ℕ) → a ≤ b → StepReaches m e reach a → StepReaches m e reach b
  step_wider e a b l h = λ s up. let k = h s up in (k.0, no_fault_wider a b _ l k.1)

  pub each_wider : (es : List NumberedCommand) (a b : ℕ) → a ≤ b → EachReaches m es reach a → EachReaches m es reach b
  each_wider [] a b l h = tt
  each_wider (e ∷ es) a b l h = (step_wider e a b l h.0, each_wider es a b l h.1)

  pub branches_wider : (ess : List (List NumberedCommand)) (a b : ℕ) → a ≤ b → BranchesReach m ess reach a → BranchesReach m ess reach b
  branches_wider [] a b l h = tt
  branches_wider (es ∷ ess) a b l h = (each_wider es a b l h.0, branches_wider ess a b l h.1)

  pub each_more : (es : List NumberedCommand) (e : NumberedCommand) (rest : List NumberedCommand) (a b n : ℕ) → es ≡ e ∷ rest → n ≡ greater a b
      → StepReaches m e reach a → EachReaches m rest reach b → EachReaches m es reach n
  each_more es e rest a b n p q h k =
      let C : List NumberedCommand → Type 0 = λ ds. EachReaches m ds reach n in
      let f = greater_first a b in let g = greater_second a b in
      subst C (sym p) (step_wider e a n (omega (arith, q, f)) h, each_wider rest b n (omega (arith, q, g)) k)

  pub branches_more : (ess : List (List NumberedCommand)) (es : List NumberedCommand) (rest : List (List NumberedCommand)) (a b n : ℕ) → ess ≡ es ∷ rest → n ≡ greater a b
      → EachReaches m es reach a → BranchesReach m rest reach b → BranchesReach m ess reach n
  branches_more ess es rest a b n p q h k =
      let C : List (List NumberedCommand) → Type 0 = λ ds. BranchesReach m ds reach n in
      let f = greater_first a b in let g = greater_second a b in
      subst C (sym p) (each_wider es a n (omega (arith, q, f)) h, branches_wider rest b n (omega (arith, q, g)) k)

  -- one step, and those that are left
  pub one_step : (branches : List (List NumberedCommand)) (suffix : List NumberedCommand) (steps left a b n : ℕ) → steps ≡ suc left → n ≡ greater a b
      → BranchesReach m branches reach a → EachReaches m suffix reach b → TotalFor m branches suffix left n → TotalFor m branches suffix steps reach
  one_step branches suffix steps left a b n p q h k t =
      let C : ℕ → Type 0 = λ i. TotalFor m branches suffix i reach in
      let f = greater_first a b in let g = greater_second a b in
      subst C (sym p) (n, branches_wider branches a n (omega (arith, q, f)) h, each_wider suffix b n (omega (arith, q, g)) k, t)

-- ---- all merges

module _ (m : Source) (well : WellModel m) (vars : List Ty) where
  abbrev Stands : Value → Type 0
  Stands s = is_state m vars vars s ≡ true

  -- the command passes, in a state that stands and reaches so far
  abbrev Passes : NumberedCommand → (reach : ℕ) → Value → Type 0
  Passes e reach s = (next : Value) × (symbolic_step m s e ≡ Ok next) × Stands next × UpTo reach next

  one_passes : (e : NumberedCommand) (reach after : ℕ) (s : Value) → CommandFits m vars e → Stands s → UpTo reach s → StepReaches m e reach after → Passes e after s
  one_passes e reach after s fits stands up k =
      let step = k s up in
      by (next_of m e.op s e.args e.variable) refl step.1
      (next_by vars vars m e.op s e.args e.variable well (record { state = stands; arguments = fits.arguments; result = fits.variable }))
      step.0
    where
      by : (o : Outcome (Value × ℕ)) → next_of m e.op s e.args e.variable ≡ o → NoFault (UpTo after) (next_of m e.op s e.args e.variable)
          → By (λ v. Fit vars vars (parameters_of m.items) v well.state) (next_of m e.op s e.args e.variable)
          → pre_of m e.op s e.args ≡ Gives (bool true, max_turns) → Passes e after s
      by (Gives p) is safe fit pre =
          let safe' = rw is at safe in
          let fit' = rw is at fit in
          (p.0, ap (λ q. allowed e.number q (next_step e.number (next_of m e.op s e.args e.variable))) pre ∙ rw (out-roll-Value (Value-F.Bool true)) (ap (next_step e.number) is), state_to vars vars m well p.0 fit', safe')
      by (Faults why) is safe fit pre = absurd (rw is at safe)
      by Stuck is safe fit pre = absurd (rw is at fit)

  -- ---- the suffix

  last_pass : (branches : List (List NumberedCommand)) (all es : List NumberedCommand) (steps reach : ℕ) (s : Value) → CommandsFit m vars es
      → ((r a : ℕ) → EachReaches m all r a → EachReaches m es r a) → length es ≤ steps → TotalFor m branches all steps reach → Stands s → UpTo reach s → last_commands m es s ≡ AllTrue
  last_pass branches all [] steps reach s fits part few total stands up = refl
  last_pass branches all (e ∷ es) zero reach s fits part few total stands up = absurd (omega (arith, few))
  last_pass branches all (e ∷ es) (suc steps) reach s fits part few total stands up =
      let p = one_passes e reach total.0 s fits.0 stands up (part reach total.0 total.2).0 in
      ap (λ t. after (step_outcome t) (λ next. run_commands m es next (λ last. AllTrue))) p.1
      ∙ ap later (last_pass branches all es steps total.0 p.0 fits.1 (λ r a k. (part r a k).1) (omega (arith, few)) total.3 p.2 p.3)

  -- ---- the branches

  in_branch : (es : List NumberedCommand) (i reach after : ℕ) (e : NumberedCommand) → slice_get es i ≡ Some e → EachReaches m es reach after → StepReaches m e reach after
  in_branch [] i reach after e h k = absurd (cc)
  in_branch (d ∷ es) zero reach after e h k = let q : d ≡ e = cc in let P : NumberedCommand → Type 0 = λ x. StepReaches m x reach after in subst P q k.0
  in_branch (d ∷ es) (suc i) reach after e h k = in_branch es i reach after e h k.1

  in_branches : (ess : List (List NumberedCommand)) (b i reach after : ℕ) (e : NumberedCommand) → command_at ess b i ≡ Some e → BranchesReach m ess reach after → StepReaches m e reach after
  in_branches [] b i reach after e h k = absurd (cc)
  in_branches (es ∷ ess) zero i reach after e h k = in_branch es i reach after e h k.0
  in_branches (es ∷ ess) (suc b) i reach after e h k = in_branches ess b i reach after e h k.1

  module _ (lengths : List ℕ) (branches : List (List NumberedCommand)) (suffix : List NumberedCommand) (last_fit : CommandsFit m vars suffix)
      (each : (b i : ℕ) → i < slice_index lengths b → (e : NumberedCommand) × (command_at branches b i ≡ Some e) × CommandFits m vars e) where
    words_pass : (word done : List ℕ) (steps reach : ℕ) (s : Value) → IsAt lengths done → Completes lengths done word → sum lengths + length suffix ≤ sum done + steps
        → TotalFor m branches suffix steps reach → Stands s → UpTo reach s → run (symbolic_outcome m branches) (last_commands m suffix) done s word ≡ AllTrue
    words_pass [] done steps reach s at c few total stands up =
        let l = sum-le done lengths at.branches at.within in
        last_pass branches suffix suffix steps reach s last_fit (λ r a k. k) (omega (arith, few, l)) total stands up
    words_pass (b ∷ word) done zero reach s at c few total stands up =
        let l = sum-left lengths done b at (Completes-head lengths done b word c) in absurd (omega (arith, few, l))
    words_pass (b ∷ word) done (suc steps) reach s at c few total stands up =
        let left = Completes-head lengths done b word c in
        let found = each b (get_or done b 0) left in
        let p = one_passes found.0 reach total.0 s found.2 stands up (in_branches branches b (get_or done b 0) reach total.0 found.0 found.1 total.1) in
        let more = sum-more lengths done b at left in
        ap (λ o. after (step_outcome (step_of m s o)) (λ next. run (symbolic_outcome m branches) (last_commands m suffix) (one_more done b) next word)) found.1
        ∙ ap (λ t. after (step_outcome t) (λ next. run (symbolic_outcome m branches) (last_commands m suffix) (one_more done b) next word)) p.1
        ∙ ap later (words_pass word (one_more done b) steps total.0 p.0 (IsAt-more lengths done b at left) (Completes-tail lengths done b (IsAt-branch lengths done b at left) word c) (omega (arith, few, more)) total.3 p.2 p.3)

    pub all_pass : (steps : ℕ) (s : Value) → sum lengths + length suffix ≤ steps → TotalFor m branches suffix steps (reach_of_value s) → Stands s
        → IsEveryAnswer (symbolic_outcome m branches) (last_commands m suffix) lengths s All
    all_pass steps s few total stands = λ v k.
        words_pass v (none_done lengths) steps (reach_of_value s) s (IsAt-none lengths) (merge lengths v k) (omega (arith, few)) total stands (omega arith)

-- of a case
pub case_passes : (m n : Source) (c : Case) (lengths : List ℕ) (branches : List (List NumberedCommand)) (suffix : List NumberedCommand) (steps : ℕ) (s : Value)
    → n ≡ m → WellModel n → lengths ≡ branch_lengths c → BranchesFit m c branches → CommandsFit m (result_types m c) suffix → IsSymbolicState m c s
    → sum lengths + length suffix ≤ steps → TotalFor n branches suffix steps (reach_of_value s)
    → IsEveryAnswer (symbolic_outcome m branches) (last_commands m suffix) lengths s All
case_passes m n c lengths branches suffix steps s is well long each last stands few total =
    let W : Source → Type 0 = λ k. WellModel k in
    let T : Source → Type 0 = λ k. TotalFor k branches suffix steps (reach_of_value s) in
    let E : List ℕ → Type 0 = λ ls. (b i : ℕ) → i < slice_index ls b → (e : NumberedCommand) × (command_at branches b i ≡ Some e) × CommandFits m (result_types m c) e in
    all_pass m (subst W is well) (result_types m c) lengths branches suffix last (subst E (sym long) each) steps s few (subst T is total) stands
