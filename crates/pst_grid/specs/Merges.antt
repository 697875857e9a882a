-- Words, merges, the order of words, and the run of a word.
use Rattle.std.specs.Prelude.{◌≡◌, ℕ, ◌+◌, ◌<◌, ◌==◌, ◌⊎◌, List, [], ◌∷◌, length, replicate, slice_index, slice_set, suc, if◌then◌else◌}
use Rattle.pst_grid.specs.declared.steps.Ending.{Ending}
use Rattle.pst_grid.specs.declared.steps.Ending.TheVariants.{AllTrue, StopsAt}
use Rattle.pst_grid.specs.declared.steps.StepOutcome.{StepOutcome}
use Rattle.pst_grid.specs.declared.steps.StepOutcome.TheVariants.{Next, Stop}

-- A word is a list of letters, and the letter b stands for the next command of branch b.
-- how many times a word has the letter b
abbrev pub times : ℕ → List ℕ → ℕ
times b [] = 0
times b (a ∷ word) = (if a == b then 1 else 0) + times b word

-- a merge of branches of these lengths: the word has each letter as often as its branch has commands
abbrev pub IsMerge : List ℕ → List ℕ → Type 0
IsMerge lengths word = (b : ℕ) → times b word ≡ slice_index lengths b

-- the first word is the second one, or comes before it in the order of words (for words of one length)
abbrev pub IsUpTo : List ℕ → List ℕ → Type 0
IsUpTo [] w = Unit {0}
IsUpTo (a ∷ v) [] = ⊥
IsUpTo (a ∷ v) (b ∷ w) = (a < b) ⊎ ((a ≡ b) × IsUpTo v w)

-- the least word with a property
abbrev pub IsLeast : (List ℕ → Type 0) → List ℕ → Type 0
IsLeast P w = P w × ((v : List ℕ) → P v → IsUpTo w v)

-- the ending, with one true event more before it
abbrev pub later : {F : Type 0} → Ending F → Ending F
later AllTrue = AllTrue
later (StopsAt n why) = StopsAt (suc n) why

-- what follows a step
abbrev pub after : {S F : Type 0} → StepOutcome S F → (S → Ending F) → Ending F
after (Next s) rest = later (rest s)
after (Stop why) rest = StopsAt 0 why

-- no command of any branch is done
abbrev pub none_done : List ℕ → List ℕ
none_done lengths = replicate (length lengths) 0

-- how many commands of each branch are done, after one more of branch b
abbrev pub one_more : List ℕ → ℕ → List ℕ
one_more done b = slice_set done b (slice_index done b + 1)

-- The run of a word from a state: each letter takes the next command of its branch, by the index of those
-- that are done. Where the word ends, the rest follows.
abbrev pub run : {S F : Type 0} → (S → ℕ → ℕ → StepOutcome S F) → (rest : S → Ending F)
    → (done : List ℕ) → S → List ℕ → Ending F
run turn rest done s [] = rest s
run turn rest done s (b ∷ w) =
    after (turn s b (slice_index done b)) (λ next. run turn rest (one_more done b) next w)

-- where nothing follows the branches
abbrev pub nothing_follows : {S F : Type 0} → S → Ending F
nothing_follows s = AllTrue
