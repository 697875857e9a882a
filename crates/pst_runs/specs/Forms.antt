-- The form of an item: its case, and the lists of replies and of times behind it.
use Rattle.std.specs.Prelude.{◌==◌, ◌&&◌, ◌+◌, ℕ, nat_le, Bool, true, false, if◌then◌else◌, List, [], ◌∷◌, length, Option, Some, None, codes}
use Rattle.std.specs.List.{list_all}
use Rattle.std.specs.Str.{bytes_eq}
use Rattle.pst_model.specs.declared.model.Source.{Source}
use Rattle.pst_runs.specs.Commands.{commands_of}
use Rattle.pst_runs.specs.Values.{each}
use Rattle.pst_sexpr.specs.Parts.{and_then, word_of, node_of}
use Rattle.pst_runs.specs.declared.commands.SpelledCommand.{SpelledCommand}
use Rattle.pst_runs.specs.declared.commands.SpelledCase.{SpelledCase}
use Rattle.pst_sexpr.specs.declared.form.Form.{Form}

abbrev pub section_in : List ℕ → List Form → Option (List Form)
section_in name [] = None
section_in name (first ∷ parts) =
    and_then (word_of first) (λ word. if bytes_eq word name then Some parts else None)

-- the parts of a node that is headed by the word
abbrev pub section : List ℕ → Form → Option (List Form)
section name form = and_then (node_of form) (section_in name)

-- the commands of a section
abbrev pub section_commands : Source → List ℕ → Form → Option (List SpelledCommand)
section_commands m name form = and_then (section name form) (commands_of m)

-- ---- the branches

-- `(left ..) (right ..)`
abbrev pub two_branches : Source → (left right : Form) → Option (List (List SpelledCommand))
two_branches m left right =
    and_then (section_commands m (codes "left") left) (λ l.
    and_then (section_commands m (codes "right") right) (λ r. Some (l ∷ r ∷ [])))

abbrev pub branch_of : Source → Form → Option (List SpelledCommand)
branch_of m form = and_then (node_of form) (commands_of m)

abbrev pub are_two_to_four : List Form → Bool
are_two_to_four forms = nat_le 2 (length forms) && nat_le (length forms) 4

abbrev pub each_branch : Source → List Form → Option (List (List SpelledCommand))
each_branch m forms = if are_two_to_four forms then each (branch_of m) forms else None

-- `(branches (..) (..) ..)`, two to four of them
abbrev pub many_branches : Source → Form → Option (List (List SpelledCommand))
many_branches m form = and_then (section (codes "branches") form) (each_branch m)

abbrev pub branches_of : Source → List Form → Option (List (List SpelledCommand))
branches_of m (left ∷ right ∷ []) = two_branches m left right
branches_of m (branches ∷ []) = many_branches m branches
branches_of m _ = None

-- ---- the case

-- the last of some trees, and those before it
abbrev pub front_and_last : List Form → Option (List Form × Form)
front_and_last [] = None
front_and_last (form ∷ []) = Some ([], form)
front_and_last (form ∷ next ∷ more) = and_then (front_and_last (next ∷ more)) (λ p. Some (form ∷ p.0, p.1))

-- the prefix and the branches of a case, and the commands of its suffix, where there is one
pub record Sections : Type 0 where
  pub front : List Form
  pub suffix : Option (List Form)

abbrev pub cut : (whole front : List Form) → Option (List Form) → Sections
cut whole front None = record { front = whole; suffix = None }
cut whole front (Some forms) = record { front = front; suffix = Some forms }

abbrev pub cut_at : List Form → Option (List Form × Form) → Sections
cut_at parts None = record { front = parts; suffix = None }
cut_at parts (Some p) = cut parts p.0 (section (codes "suffix") p.1)

-- `(suffix ..)` may stand behind the branches
abbrev pub sections_of : List Form → Sections
sections_of parts = cut_at parts (front_and_last parts)

-- a case without a suffix has one of no commands
abbrev pub suffix_of : Source → Option (List Form) → Option (List SpelledCommand)
suffix_of m None = Some []
suffix_of m (Some forms) = commands_of m forms

abbrev pub case_in : Source → List Form → Option (List Form) → Option SpelledCase
case_in m [] suffix = None
case_in m (first ∷ others) suffix =
    and_then (section_commands m (codes "prefix") first) (λ p.
    and_then (branches_of m others) (λ bs.
    and_then (suffix_of m suffix) (λ s. Some (record { prefix = p; branches = bs; suffix = s }))))

-- `(prefix ..)`, the branches, and the suffix
abbrev pub case_of : Source → Sections → Option SpelledCase
case_of m sections = case_in m sections.front sections.suffix

-- ---- the lists of replies and of times

abbrev pub is_node : Option (List Form) → Bool
is_node None = false
is_node (Some parts) = true

abbrev pub are_nodes : List Form → Bool
are_nodes forms = list_all (λ form. is_node (node_of form)) forms

-- a case, and its lists of replies and of times, if it has them
pub record Parts : Type 0 where
  pub read : SpelledCase
  pub replies : Option (List Form)
  pub times : Option (List Form)

abbrev pub number_of_parts : Option (List Form) → SpelledCase → ℕ
number_of_parts None c = length c.branches + 1
number_of_parts (Some suffix) c = length c.branches + 2

-- the prefix, each branch, and the suffix where it is written, though it be empty
abbrev pub is_number_of_parts : ℕ → Sections → SpelledCase → Bool
is_number_of_parts n sections c = n == number_of_parts sections.suffix c

-- a list for each part
abbrev pub are_reply_lists : List Form → Sections → SpelledCase → Bool
are_reply_lists lists sections c = is_number_of_parts (length lists) sections c && are_nodes lists

-- a list for each branch
abbrev pub are_time_lists : Option (List Form) → SpelledCase → Bool
are_time_lists None c = true
are_time_lists (Some lists) c = (length lists == length c.branches) && are_nodes lists

-- `(replies (..) (..) ..)`, and the times where they were recorded
abbrev pub with_replies : Form → Option (List Form) → Sections → SpelledCase → Option Parts
with_replies form times sections c =
    and_then (section (codes "replies") form) (λ lists.
    if are_reply_lists lists sections c && are_time_lists times c
    then Some (record { read = c; replies = Some lists; times = times }) else None)

abbrev pub without_replies : SpelledCase → Option Parts
without_replies c = Some (record { read = c; replies = None; times = None })

-- ---- the item

abbrev pub case_parts : Source → List Form → Option Parts
case_parts m parts = and_then (case_of m (sections_of parts)) without_replies

abbrev pub run_sections : Source → Form → Option (List Form) → Sections → Option Parts
run_sections m replies times sections = and_then (case_of m sections) (with_replies replies times sections)

-- the last part is `(replies ..)`
abbrev pub replied_parts : Source → Option (List Form) → List Form → Option Parts
replied_parts m times parts = and_then (front_and_last parts) (λ p. run_sections m p.1 times (sections_of p.0))

abbrev pub run_ending : Source → (parts front : List Form) → (times : Option (List Form)) → Option Parts
run_ending m parts front None = replied_parts m None parts
run_ending m parts front (Some times) = replied_parts m (Some times) front

-- `(times ..)` may stand behind the replies
abbrev pub run_parts : Source → List Form → Option Parts
run_parts m parts =
    and_then (front_and_last parts) (λ p. run_ending m parts p.0 (section (codes "times") p.1))

abbrev pub item_in : Source → List Form → Option Parts
item_in m [] = None
item_in m (first ∷ parts) = and_then (word_of first) (λ head.
    if bytes_eq head (codes "case") then case_parts m parts
    else if bytes_eq head (codes "run") then run_parts m parts
    else None)

-- THE TABLE OF ITEMS: `(case (prefix ..) (left ..) (right ..))` and `(case (prefix ..) (branches (..) (..)
-- ..))`, each with `(suffix ..)` as its last part or without it; and `(run .. (replies (..) (..) ..))`, with
-- `(times (..) (..) ..)` as its last part or without it
unfoldable pub parts_of : Source → Form → Option Parts
parts_of m form = and_then (node_of form) (item_in m)
