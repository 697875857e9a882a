-- Where a fault in the form of an item is, and that the reader's definition refuses the tree there.
use Rattle.std.specs.Prelude.{ℕ, Bool, false, not, List, [], ◌∷◌, slice_get, Option, Some, None}
use Rattle.std.specs.Option.{is_some}
use Rattle.pst_run_problems.specs.ItemForm.{word}
use Rattle.pst_run_problems.specs.declared.form_fault.CaseFormFault.{CaseFormFault}
use Rattle.pst_run_problems.specs.declared.form_fault.CaseFormFault.TheVariants.{OtherHead, Missing, OtherPart, NoCall, BranchCount, NoBranch, NoBranchCall, Misplaced, ListCount, NoList, TimeListCount, NoTimeList}
use Rattle.pst_model.specs.declared.model.Source.{Source}
use Rattle.pst_runs.specs.Commands.{command_of}
use Rattle.pst_runs.specs.Forms.{section, many_branches, parts_of}
use Rattle.pst_sexpr.specs.Parts.{node_of, tree_in}
use Rattle.pst_sexpr.specs.declared.form.Form.{Form}

-- the path from the item to the tree at fault; the item itself where a part is missing
abbrev pub place : CaseFormFault → List ℕ
place OtherHead = []
place (Missing wanted) = []
place (OtherPart wanted number) = number ∷ []
place (NoCall number command) = number ∷ command ∷ []
place (BranchCount count) = 2 ∷ []
place (NoBranch number) = 2 ∷ number ∷ []
place (NoBranchCall number command) = 2 ∷ number ∷ command ∷ []
place (Misplaced number) = number ∷ []
place (ListCount lists parts) = []
place NoList = []
place (TimeListCount lists branches) = []
place NoTimeList = []

-- whether a tree is what the tree at fault has to be; no tree may be where one is misplaced
abbrev pub is_wanted : Source → CaseFormFault → Form → Bool
is_wanted m OtherHead form = is_some (parts_of m form)
is_wanted m (Missing wanted) form = is_some (parts_of m form)
is_wanted m (OtherPart wanted number) form = is_some (section (word wanted) form)
is_wanted m (NoCall number command) form = is_some (command_of m form)
is_wanted m (BranchCount count) form = is_some (many_branches m form)
is_wanted m (NoBranch number) form = is_some (node_of form)
is_wanted m (NoBranchCall number command) form = is_some (command_of m form)
is_wanted m (Misplaced number) form = false
is_wanted m (ListCount lists parts) form = is_some (parts_of m form)
is_wanted m NoList form = is_some (parts_of m form)
is_wanted m (TimeListCount lists branches) form = is_some (parts_of m form)
is_wanted m NoTimeList form = is_some (parts_of m form)

abbrev pub is_refused : Source → CaseFormFault → Option Form → Bool
is_refused m fault None = false
is_refused m fault (Some form) = not (is_wanted m fault form)

-- the place of the fault leads to a tree that is not what has to be there
unfoldable pub refused : Source → CaseFormFault → Form → Bool
refused m fault form = is_refused m fault (tree_in (place fault) form)
