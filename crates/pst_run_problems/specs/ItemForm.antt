-- The first fault in the form of an item, and its place. `Refused` says what makes it the right one.
use Rattle.std.specs.Prelude.{◌==◌, ◌+◌, ℕ, Bool, true, false, not, if◌then◌else◌, List, [], ◌∷◌, length, position, Option, Some, None, codes}
use Rattle.std.specs.List.{list_all}
use Rattle.std.specs.Option.{option_map, option_or}
use Rattle.pst_run_problems.specs.declared.form_fault.CaseFormFault.{CaseFormFault}
use Rattle.pst_run_problems.specs.declared.form_fault.CaseFormFault.TheVariants.{OtherHead, Missing, OtherPart, NoCall, BranchCount, NoBranch, NoBranchCall, Misplaced, ListCount, NoList, TimeListCount, NoTimeList}
use Rattle.pst_run_problems.specs.declared.form_fault.PartsWithReplyLists.{PartsWithReplyLists}
use Rattle.pst_run_problems.specs.declared.form_fault.RunSection.{RunSection}
use Rattle.pst_run_problems.specs.declared.form_fault.RunSection.TheVariants.{Prefix, Left, Right, Suffix, Replies}
use Rattle.pst_runs.specs.Forms.{section, are_two_to_four, is_node}
use Rattle.pst_sexpr.specs.Parts.{word_of, node_of}
use Rattle.pst_sexpr.specs.declared.form.Form.{Form}

abbrev pub word : RunSection → List ℕ
word Prefix = codes "prefix"
word Left = codes "left"
word Right = codes "right"
word Suffix = codes "suffix"
word Replies = codes "replies"

-- ---- commands

abbrev pub is_word : Option (List ℕ) → Bool
is_word None = false
is_word (Some word) = true

abbrev pub is_call_in : List Form → Bool
is_call_in [] = false
is_call_in (first ∷ arguments) = is_word (word_of first)

abbrev pub is_call_at : Option (List Form) → Bool
is_call_at None = false
is_call_at (Some parts) = is_call_in parts

-- `(NAME ARGUMENT ..)`
abbrev pub is_call : Form → Bool
is_call form = is_call_at (node_of form)

-- the number of the first tree that is no call
abbrev pub no_call : List Form → Option ℕ
no_call forms = position (λ form. not (is_call form)) forms

abbrev pub calls_fault : ℕ → List Form → Option CaseFormFault
calls_fault place commands = option_map (λ offset. NoCall place (offset + 1)) (no_call commands)

abbrev pub in_section : RunSection → ℕ → Option (List Form) → Option CaseFormFault
in_section wanted place None = Some (OtherPart wanted place)
in_section wanted place (Some commands) = calls_fault place commands

-- of the tree with the number, which has to be the part
abbrev pub section_fault : RunSection → ℕ → Form → Option CaseFormFault
section_fault wanted place form = in_section wanted place (section (word wanted) form)

-- ---- branches

abbrev pub in_branch : ℕ → Option (List Form) → Option CaseFormFault
in_branch number None = Some (NoBranch number)
in_branch number (Some commands) = option_map (NoBranchCall number) (no_call commands)

abbrev pub branch_fault : ℕ → Form → Option CaseFormFault
branch_fault number form = in_branch number (node_of form)

abbrev pub branches_from : ℕ → List Form → Option CaseFormFault
branches_from number [] = None
branches_from number (form ∷ forms) = option_or (branch_fault number form) (branches_from (number + 1) forms)

abbrev pub branches_fault : List Form → Option CaseFormFault
branches_fault forms = if are_two_to_four forms then branches_from 1 forms else Some (BranchCount (length forms))

-- ---- what follows the branches

abbrev pub after_all : ℕ → List Form → Option CaseFormFault
after_all place [] = None
after_all place (form ∷ more) = Some (Misplaced place)

abbrev pub count : PartsWithReplyLists → ℕ
count parts = if parts.has_suffix then parts.branches + 2 else parts.branches + 1

abbrev pub is_list : Form → Bool
is_list form = is_node (node_of form)

abbrev pub lists_fault : PartsWithReplyLists → List Form → Option CaseFormFault
lists_fault parts lists =
    if length lists == count parts then (if list_all is_list lists then None else Some NoList)
    else Some (ListCount (length lists) parts)

abbrev pub time_lists_fault : PartsWithReplyLists → List Form → Option CaseFormFault
time_lists_fault parts lists =
    if length lists == parts.branches then (if list_all is_list lists then None else Some NoTimeList)
    else Some (TimeListCount (length lists) parts.branches)

abbrev pub in_times : PartsWithReplyLists → ℕ → Option (List Form) → List Form → Option CaseFormFault
in_times parts place None more = Some (Misplaced place)
in_times parts place (Some lists) more = option_or (after_all (place + 1) more) (time_lists_fault parts lists)

-- the times may follow the replies
abbrev pub times_fault : PartsWithReplyLists → ℕ → List Form → Option CaseFormFault
times_fault parts place [] = None
times_fault parts place (form ∷ more) = in_times parts place (section (codes "times") form) more

abbrev pub in_replies : PartsWithReplyLists → ℕ → Option (List Form) → List Form → Option CaseFormFault
in_replies parts place None more = Some (OtherPart Replies place)
in_replies parts place (Some lists) more =
    option_or (times_fault parts (place + 1) more) (lists_fault parts lists)

abbrev pub replies_fault : PartsWithReplyLists → ℕ → Form → List Form → Option CaseFormFault
replies_fault parts place form more = in_replies parts place (section (word Replies) form) more

-- a run has its replies behind its case
abbrev pub end_fault : Bool → PartsWithReplyLists → ℕ → List Form → Option CaseFormFault
end_fault false parts place forms = after_all place forms
end_fault true parts place [] = Some (Missing Replies)
end_fault true parts place (form ∷ more) = replies_fault parts place form more

abbrev pub in_suffix : Bool → ℕ → ℕ → Option (List Form) → Form → List Form → Option CaseFormFault
in_suffix is_run branches place None form more =
    end_fault is_run (record { branches = branches; has_suffix = false }) place (form ∷ more)
in_suffix is_run branches place (Some commands) form more =
    option_or (calls_fault place commands)
    (end_fault is_run (record { branches = branches; has_suffix = true }) (place + 1) more)

-- a suffix may follow the branches
abbrev pub rest_fault : Bool → ℕ → ℕ → List Form → Option CaseFormFault
rest_fault is_run branches place [] =
    end_fault is_run (record { branches = branches; has_suffix = false }) place []
rest_fault is_run branches place (form ∷ more) =
    in_suffix is_run branches place (section (word Suffix) form) form more

-- ---- the item

abbrev pub right_fault : Bool → List Form → Option CaseFormFault
right_fault is_run [] = Some (Missing Right)
right_fault is_run (form ∷ more) = option_or (section_fault Right 3 form) (rest_fault is_run 2 4 more)

abbrev pub in_branches : Bool → Option (List Form) → Form → List Form → Option CaseFormFault
in_branches is_run None form more = option_or (section_fault Left 2 form) (right_fault is_run more)
in_branches is_run (Some branches) form more =
    option_or (branches_fault branches) (rest_fault is_run (length branches) 3 more)

abbrev pub after_prefix : Bool → List Form → Option CaseFormFault
after_prefix is_run [] = Some (Missing Left)
after_prefix is_run (form ∷ more) = in_branches is_run (section (codes "branches") form) form more

abbrev pub parts_fault : Bool → List Form → Option CaseFormFault
parts_fault is_run [] = Some (Missing Prefix)
parts_fault is_run (form ∷ more) = option_or (section_fault Prefix 1 form) (after_prefix is_run more)

abbrev pub run_fault : Option (List Form) → Option CaseFormFault
run_fault None = Some OtherHead
run_fault (Some parts) = parts_fault true parts

abbrev pub case_fault : Option (List Form) → Option (List Form) → Option CaseFormFault
case_fault None run = run_fault run
case_fault (Some parts) run = parts_fault false parts

-- what is wrong with the form of an item
unfoldable pub form_fault : Form → Option CaseFormFault
form_fault form = case_fault (section (codes "case") form) (section (codes "run") form)
