-- The interleavings that are in an order.
use Rattle.std.specs.Prelude.{◌≡◌, ℕ, ◌<◌, ◌≤◌, List, [], ◌∷◌, slice_index, Bool, true}
use Rattle.pst_grid.specs.Completions.{IsAt, Completes}
use Rattle.pst_grid.specs.Merges.{IsMerge, one_more, none_done}

-- An order says whether a branch is open, where so many commands of each branch are done: whether its next command
-- may come next.
-- the order in which every branch is always open
abbrev pub any_order : List ℕ → ℕ → Bool
any_order done b = true

module _ (order : List ℕ → ℕ → Bool) where
  -- each letter of the word comes where its branch is open
  abbrev pub IsInOrder : List ℕ → List ℕ → Type 0
  IsInOrder done [] = Unit {0}
  IsInOrder done (b ∷ w) = (order done b ≡ true) × IsInOrder (one_more done b) w

-- a word that begins with the letter b
abbrev pub StartsWith : ℕ → List ℕ → Type 0
StartsWith b [] = ⊥
StartsWith b (a ∷ w) = a ≡ b

module _ (order : List ℕ → ℕ → Bool) (lengths : List ℕ) where
  -- a merge that is in order
  abbrev pub IsMergeInOrder : List ℕ → Type 0
  IsMergeInOrder word = IsMerge lengths word × IsInOrder order (none_done lengths) word

  -- the branch is open and has a command left
  abbrev pub IsOpen : List ℕ → ℕ → Type 0
  IsOpen done b = (slice_index done b < slice_index lengths b) × (order done b ≡ true)

  -- no branch is so
  abbrev pub IsNoneOpen : List ℕ → Type 0
  IsNoneOpen done = (b : ℕ) → IsOpen done b → ⊥

  -- the branch is the first such
  abbrev pub IsFirstOpen : List ℕ → ℕ → Type 0
  IsFirstOpen done b = IsOpen done b × ((c : ℕ) → c < b → IsOpen done c → ⊥)

  -- wherever commands are left, some branch that has one is open
  abbrev pub NeverBlocks : Type 0
  NeverBlocks = (done : List ℕ) → IsAt lengths done
      → (b : ℕ) → slice_index done b < slice_index lengths b → (c : ℕ) × IsOpen done c

  -- the commands that are left, each time that of the first open branch: the least word in order
  abbrev pub IsFilled : List ℕ → List ℕ → Type 0
  IsFilled done [] = (b : ℕ) → slice_index lengths b ≤ slice_index done b
  IsFilled done (b ∷ w) = IsFirstOpen done b × IsFilled (one_more done b) w

  -- the words in order that complete a merge where so many commands of each branch are done
  abbrev pub Extends : List ℕ → List ℕ → Type 0
  Extends done word = Completes lengths done word × IsInOrder order done word

  -- those that begin with the letter b
  abbrev pub Begins : List ℕ → ℕ → List ℕ → Type 0
  Begins done b w = StartsWith b w × Extends done w
