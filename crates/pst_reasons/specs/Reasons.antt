-- Why no interleaving in an order explains the replies of a history.
use Rattle.std.specs.Prelude.{◌≡◌, ◌↔◌, ◌==◌, ◌||◌, ℕ, zero, suc, ◌+◌, ◌<◌, ◌≤◌, Bool, true, false, if◌then◌else◌, List, [], ◌∷◌, ◌++◌, length}
use Rattle.pst_case.specs.Shape.{before_suffix}
use Rattle.pst_case.specs.declared.case.Case.{Case}
use Rattle.pst_case.specs.declared.history.History.{History}
use Rattle.pst_grid.specs.Merges.{IsLeast, IsMerge}
use Rattle.pst_grid.specs.Orders.{any_order}
use Rattle.pst_grid.specs.declared.steps.Ending.TheVariants.{AllTrue}
use Rattle.pst_judge.specs.InOrder.{IsRunInOrder}
use Rattle.pst_judge.specs.Replay.{Asking, post_asked, replayed, replayed_asking, branch_lengths}
use Rattle.pst_model.specs.declared.model.Source.{Source}
use Rattle.pst_operators.specs.Outcome.{Outcome, Gives}
use Rattle.pst_value.specs.declared.value.Value.{Value, Bool as Truth}

-- ---- sets of commands

abbrev pub is_among : ℕ → List ℕ → Bool
is_among number [] = false
is_among number (n ∷ numbers) = (n == number) || is_among number numbers

-- the numbers but one
abbrev pub without : ℕ → List ℕ → List ℕ
without number [] = []
without number (n ∷ numbers) = if n == number then without number numbers else n ∷ without number numbers

-- the numbers from 1 up to the last one
abbrev pub numbers_to : ℕ → List ℕ
numbers_to zero = []
numbers_to (suc last) = numbers_to last ++ suc last ∷ []

-- the numbers rise, each above the one before it; all are above the first bound, and up to the last
abbrev pub AreRising : ℕ → ℕ → List ℕ → Type 0
AreRising low last [] = Unit {0}
AreRising low last (n ∷ numbers) = (low < n) × (n ≤ last) × AreRising n last numbers

-- how many commands a case has
abbrev pub number_of_commands : Case → ℕ
number_of_commands c = before_suffix c + length c.suffix

-- ---- what is asked

-- a truth value that is true
abbrev pub always_true : Outcome (Value × ℕ)
always_true = Gives (Truth true, 0)

-- the postconditions of the commands with these numbers; of others nothing is asked
abbrev pub asks : List ℕ → Source → Asking
asks numbers m s e = if is_among e.number numbers then post_asked m s e else always_true

-- ---- cores

-- where only the merges in order count
module _ (m : Source) (order : List ℕ → ℕ → Bool) (c : Case) (h : History) where
  -- the merge is in order, and true to its end where this is asked of each event
  abbrev pub IsTrueInOrder : Asking → List ℕ → Type 0
  IsTrueInOrder asked word = IsRunInOrder order c word × (replayed_asking m asked c h word ≡ AllTrue)

  -- the merge is so where the postconditions of these commands are asked
  abbrev pub IsTrueAsking : List ℕ → List ℕ → Type 0
  IsTrueAsking numbers word = IsTrueInOrder (asks numbers m) word

  -- the least merge that is
  abbrev pub IsLeastTrue : List ℕ → List ℕ → Type 0
  IsLeastTrue numbers word = IsLeast (IsTrueAsking numbers) word

  -- what these commands answered can all be right: some merge in order makes their postconditions true
  abbrev pub IsPossible : List ℕ → Type 0
  IsPossible numbers = (word : List ℕ) × IsTrueAsking numbers word

  abbrev pub IsImpossible : List ℕ → Type 0
  IsImpossible numbers = IsPossible numbers → ⊥

  -- what these commands answered cannot all be right, and with any one of them less it can
  abbrev pub IsCore : List ℕ → Type 0
  IsCore numbers =
      IsImpossible numbers
      × ((number : ℕ) → is_among number numbers ≡ true → IsPossible (without number numbers))

  -- each of these numbers is needed: with one of them less, and the first ones, it can
  abbrev pub IsNeeded : List ℕ → List ℕ → Type 0
  IsNeeded first numbers =
      (number : ℕ) → is_among number numbers ≡ true → IsPossible (without number (first ++ numbers))

  -- on the way to a core: these numbers cannot all be right with the first ones before them, each of these is
  -- needed, and all rise
  pub record IsCoreSoFar (first numbers : List ℕ) : Type 0 where
    pub impossible : IsImpossible (first ++ numbers)
    pub needed : IsNeeded first numbers
    pub rising : AreRising 0 (number_of_commands c) (first ++ numbers)

  -- no merge in order makes all postconditions true
  abbrev pub IsUnexplained : Type 0
  IsUnexplained = (word : List ℕ) → IsRunInOrder order c word → replayed m c h word ≡ AllTrue → ⊥

-- in the order in which every branch is always open each merge counts
abbrev pub AnyOrderHasEachMerge : Type 0
AnyOrderHasEachMerge =
    (c : Case) (word : List ℕ) → IsRunInOrder any_order c word ↔ IsMerge (branch_lengths c) word
