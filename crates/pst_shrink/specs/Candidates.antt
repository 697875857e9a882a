-- The shrink candidates of a case.
use Rattle.std.specs.Prelude.{ℕ, ◌+◌, ◌==◌, Bool, not, if◌then◌else◌, List, [], ◌∷◌, ◌++◌, length, map, filter}
use Rattle.std.specs.List.{list_any, range_with_len}
use Rattle.pst_case.specs.Shape.{before_suffix, commands_of}
use Rattle.pst_case.specs.declared.case.Case.{Case}
use Rattle.pst_case.specs.declared.case.Command.{Command}
use Rattle.pst_shrink.specs.Number.{numbers_by, renumber_case}
use Rattle.pst_shrink.specs.declared.candidate.Renumbering.TheVariants.{Without, Moved}
use Rattle.pst_value.specs.Holds.{holds}

-- ---- which commands are used

-- whether an argument of the command holds the variable of command n, or a reference to its result
abbrev pub command_uses : ℕ → Command → Bool
command_uses n c = list_any (holds n) c.args

-- whether some command of the case uses command n
abbrev pub is_used : ℕ → Case → Bool
is_used n c = list_any (command_uses n) (commands_of c)

-- ---- cases without one command

-- the commands but for command n, where their numbers begin with `first`
abbrev pub others : (n first : ℕ) → List Command → List Command
others n first [] = []
others n first (c ∷ cs) = if first == n then others n (first + 1) cs else c ∷ others n (first + 1) cs

-- the same of each branch, where the numbers of the first branch begin with `first`
abbrev pub branch_others : (n first : ℕ) → List (List Command) → List (List Command)
branch_others n first [] = []
branch_others n first (b ∷ bs) = others n first b ∷ branch_others n (first + length b) bs

-- the numbers that the commands of the branches, and those of the suffix, begin with
abbrev pub first_of_branches : Case → ℕ
first_of_branches c = length c.prefix + 1

abbrev pub first_of_suffix : Case → ℕ
first_of_suffix c = before_suffix c + 1

-- the case without its command n
abbrev pub without : ℕ → Case → Case
without n c = renumber_case (numbers_by (Without n) (length (commands_of c)))
    (record {
      prefix = others n 1 c.prefix;
      branches = branch_others n (first_of_branches c) c.branches;
      suffix = others n (first_of_suffix c) c.suffix;
    })

-- the cases without one of the first `most` commands that no command uses, in order
abbrev pub drops : Case → (most : ℕ) → List Case
drops c most = map (λ n. without n c) (filter (λ n. not (is_used n c)) (range_with_len 1 most))

-- ---- cases with one command moved to the end of the prefix

-- the case with command n of a branch, which is x, moved to the end of the prefix
abbrev pub moved : ℕ → Command → Case → Case
moved n x c = renumber_case (numbers_by (Moved n (first_of_branches c)) (length (commands_of c)))
    (record {
      prefix = c.prefix ++ x ∷ [];
      branches = branch_others n (first_of_branches c) c.branches;
      suffix = c.suffix;
    })

-- the cases with the first command of one of these branches moved, where their numbers begin with `first`
abbrev pub moves : Case → (first : ℕ) → List (List Command) → List Case
moves c first [] = []
moves c first ([] ∷ bs) = moves c first bs
moves c first ((x ∷ xs) ∷ bs) = moved first x c ∷ moves c (first + length (x ∷ xs)) bs

-- ---- all candidates

-- first the cases without one command, by command number; then those with the first command of one branch
-- moved, branch by branch
abbrev pub candidates : Case → List Case
candidates c = drops c (length (commands_of c)) ++ moves c (first_of_branches c) c.branches
