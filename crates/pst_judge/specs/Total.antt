-- What the form of a model shows of its operations: after a command the state reaches so far at most, its
-- precondition is true, and its next state comes without a fault.
use Rattle.std.specs.Prelude.{◌≡◌, ℕ, zero, suc, true, List, [], ◌∷◌}
use Rattle.pst_eval.specs.Callbacks.{max_turns, pre_of, next_of}
use Rattle.pst_judge.specs.declared.symbolic.NumberedCommand.{NumberedCommand}
use Rattle.pst_model.specs.declared.model.Source.{Source}
use Rattle.pst_operators.specs.Operators.{bool}
use Rattle.pst_operators.specs.Outcome.{Gives}
use Rattle.pst_eval.specs.Reach.{NoFault, UpTo}
use Rattle.pst_value.specs.declared.value.Value.{Value}

module _ (m : Source) where
  -- from each state that reaches up to `reach`, the command's precondition is true, and its next state comes without a
  -- fault and reaches up to `after`
  abbrev pub StepReaches : NumberedCommand → (reach after : ℕ) → Type 0
  StepReaches e reach after =
      (s : Value) → UpTo reach s
      → (pre_of m e.op s e.args ≡ Gives (bool true, max_turns))
      × NoFault (UpTo after) (next_of m e.op s e.args e.variable)

  abbrev pub EachReaches : List NumberedCommand → (reach after : ℕ) → Type 0
  EachReaches [] reach after = Unit {0}
  EachReaches (e ∷ es) reach after = StepReaches e reach after × EachReaches es reach after

  abbrev pub BranchesReach : List (List NumberedCommand) → (reach after : ℕ) → Type 0
  BranchesReach [] reach after = Unit {0}
  BranchesReach (es ∷ ess) reach after = EachReaches es reach after × BranchesReach ess reach after

  -- in so many steps, whichever commands they are, from a state that reaches up to `reach`
  abbrev pub TotalFor : (branches : List (List NumberedCommand)) (suffix : List NumberedCommand)
      → (steps : ℕ) → (reach : ℕ) → Type 0
  TotalFor branches suffix zero reach = Unit {0}
  TotalFor branches suffix (suc steps) reach =
      (after : ℕ) × BranchesReach branches reach after × EachReaches suffix reach after
      × TotalFor branches suffix steps after
