-- The place of a fault leads to a tree that the reader's definition refuses.
use Rattle.std.proofs.Common.{◌≡◌, ℕ, ◌+◌, ◌==◌, Bool, true, false, not, if◌then◌else◌, List, [], ◌∷◌, length, Option, Some, None, ◌⊎◌, inl, inr, refl, sym, ap, subst, ◌∙◌, arith, add-one}
use Rattle.std.specs.Prelude.{codes, suc, slice_get}
use Rattle.std.specs.List.{list_all}
use Rattle.std.specs.Str.{bytes_eq}
use Rattle.pst_runs.specs.Values.{each}
use Rattle.std.specs.Option.{is_some, is_none, option_map, option_or}
use Rattle.std.proofs.lemmas.Option.{slice_get-get_or}
use Rattle.std.proofs.lemmas.List.Quantifiers.{position-Some}
use Rattle.std.proofs.Common.{get_or}
use Rattle.pst_run_problems.proofs.FormAgrees.{call_same, form_agrees}
use Rattle.pst_run_problems.specs.ItemForm.{word, is_call, no_call, calls_fault, in_section, section_fault, in_branch, branch_fault, branches_from, branches_fault, after_all, count, lists_fault, time_lists_fault, in_times, times_fault, in_replies, end_fault, in_suffix, rest_fault, right_fault, in_branches, after_prefix, parts_fault, case_fault, form_fault}
use Rattle.pst_run_problems.specs.Places.{place, is_wanted, is_refused, refused}
use Rattle.pst_run_problems.specs.declared.form_fault.CaseFormFault.{CaseFormFault}
use Rattle.pst_run_problems.specs.declared.form_fault.CaseFormFault.TheVariants.{OtherHead, Missing, OtherPart, NoCall, BranchCount, NoBranch, NoBranchCall, Misplaced, ListCount, NoList, TimeListCount, NoTimeList}
use Rattle.pst_run_problems.specs.declared.form_fault.PartsWithReplyLists.{PartsWithReplyLists}
use Rattle.pst_run_problems.specs.declared.form_fault.RunSection.{RunSection}
use Rattle.pst_run_problems.specs.declared.form_fault.RunSection.TheVariants.{Prefix, Left, Right, Replies}
use Rattle.pst_model.specs.declared.model.Source.{Source}
use Rattle.pst_runs.specs.Commands.{command_of}
use Rattle.pst_runs.specs.Forms as form
use Rattle.pst_sexpr.specs.Parts.{and_then, word_of, node_of, tree_in}
use Rattle.pst_sexpr.specs.declared.form.Form.{Form}

-- the tree that a path leads to from the trees of the item; a path of no numbers leads to the item
abbrev at_path : Source → CaseFormFault → List Form → List ℕ → Type 0
at_path m fault trees [] = Unit {0}
at_path m fault trees (number ∷ path) = is_refused m fault (and_then (slice_get trees number) (tree_in path)) ≡ true

-- each fault that is found points at a tree that is refused
pub record Points (m : Source) (trees : List Form) (found : Option CaseFormFault) : Type 0 where
  pub points : (fault : CaseFormFault) → found ≡ Some fault → at_path m fault trees (place fault)

pub nothing : (m : Source) (trees : List Form) → Points m trees None
nothing m trees = record { points = λ fault e. absurd (cc) }

found : (m : Source) (trees : List Form) (fault : CaseFormFault) → at_path m fault trees (place fault) → Points m trees (Some fault)
found m trees fault h = record { points = λ other e. let same : fault ≡ other = cc in subst (λ f. at_path m f trees (place f)) same h }

either : (m : Source) (trees : List Form) (x y : Option CaseFormFault) → Points m trees x → Points m trees y → Points m trees (option_or x y)
either m trees None y h k = k
either m trees (Some fault) y h k = h

mapped : (m : Source) (trees : List Form) (n : Option ℕ) (g : ℕ → CaseFormFault) → ((i : ℕ) → n ≡ Some i → at_path m (g i) trees (place (g i))) → Points m trees (option_map g n)
mapped m trees None g h = nothing m trees
mapped m trees (Some i) g h = found m trees (g i) (h i refl)

decided : {A : Type 0} (o : Option A) → (o ≡ None) ⊎ ((a : A) × (o ≡ Some a))
decided None = inl refl
decided (Some a) = inr (a, refl)

-- ---- the trees from a place on

pub record From (trees : List Form) (place : ℕ) (rest : List Form) : Type 0 where
  pub at : (k : ℕ) → slice_get trees (place + k) ≡ slice_get rest k

first_of : (trees : List Form) (place : ℕ) (f : Form) (rest : List Form) → From trees place (f ∷ rest) → slice_get trees place ≡ Some f
first_of trees place f rest h = let same : place + 0 ≡ place = omega arith in subst (λ i. slice_get trees i ≡ Some f) same (h.at 0)

next_of : (trees : List Form) (place : ℕ) (f : Form) (rest : List Form) → From trees place (f ∷ rest) → From trees (place + 1) rest
next_of trees place f rest h = record {
  at = λ k. let same : place + suc k ≡ place + 1 + k = omega arith in subst (λ i. slice_get trees i ≡ slice_get rest k) same (h.at (suc k));
}

-- ---- commands

-- the first tree that is no call
no_call_at : (m : Source) (forms : List Form) (i : ℕ) → no_call forms ≡ Some i → (f : Form) × (slice_get forms i ≡ Some f) × (not (is_some (command_of m f)) ≡ true)
no_call_at m [] i e = absurd (cc)
no_call_at m (first ∷ forms) i e =
    let all = first ∷ forms in
    let p = position-Some (λ f. not (is_call f)) all i first e in
    (get_or all i first, slice_get-get_or all i first p.0, sym (call_same m (get_or all i first)) ∙ p.1)

wrong : (m : Source) (fault : CaseFormFault) (o : Option Form) (f : Form) → o ≡ Some f → not (is_wanted m fault f) ≡ true → is_refused m fault o ≡ true
wrong m fault o f e h = subst (λ t. is_refused m fault t ≡ true) (sym e) h

step : (trees : List Form) (number : ℕ) (path : List ℕ) (f : Form) → slice_get trees number ≡ Some f → and_then (slice_get trees number) (tree_in path) ≡ tree_in path f
step trees number path f e = ap (λ o. and_then o (tree_in path)) e

into : (f : Form) (parts : List Form) (number : ℕ) (path : List ℕ) → node_of f ≡ Some parts → tree_in (number ∷ path) f ≡ and_then (slice_get parts number) (tree_in path)
into f parts number path e = ap (λ o. and_then o (λ ps. and_then (slice_get ps number) (tree_in path))) e

-- the node of a section
section_node : (name : List ℕ) (o : Option (List Form)) (commands : List Form) → and_then o (form.section_in name) ≡ Some commands → (head : Form) × (o ≡ Some (head ∷ commands))
section_node name None commands e = absurd (cc)
section_node name (Some []) commands e = absurd (cc)
section_node name (Some (first ∷ parts)) commands e = (first, ap (λ ps. Some (first ∷ ps)) (section_parts name (word_of first) parts commands e))
  where
    worded : (b : Bool) (parts commands : List Form) → (if b then Some parts else None) ≡ Some commands → parts ≡ commands
    worded true parts commands e = cc
    worded false parts commands e = absurd (cc)

    section_parts : (name : List ℕ) (w : Option (List ℕ)) (parts commands : List Form) → and_then w (λ word. if bytes_eq word name then Some parts else None) ≡ Some commands → parts ≡ commands
    section_parts name None parts commands e = absurd (cc)
    section_parts name (Some w) parts commands e = worded (bytes_eq w name) parts commands e

calls_points : (m : Source) (trees : List Form) (number : ℕ) (a : Form) (name : List ℕ) (commands : List Form) → slice_get trees number ≡ Some a → form.section name a ≡ Some commands → Points m trees (calls_fault number commands)
calls_points m trees number a name commands e k =
    let node = section_node name (node_of a) commands k in
    mapped m trees (no_call commands) (λ offset. NoCall number (offset + 1)) (λ i q.
    let bad = no_call_at m commands i q in
    let later : slice_get (node.0 ∷ commands) (i + 1) ≡ Some bad.0 = rw add-one bad.1 in
    wrong m (NoCall number (i + 1)) _ bad.0
    (step trees number ((i + 1) ∷ []) a e ∙ into a (node.0 ∷ commands) (i + 1) [] node.1 ∙ step (node.0 ∷ commands) (i + 1) [] bad.0 later)
    bad.2)

section_points : (m : Source) (trees : List Form) (wanted : RunSection) (number : ℕ) (a : Form) → slice_get trees number ≡ Some a → Points m trees (section_fault wanted number a)
section_points m trees wanted number a e = elim (decided (form.section (word wanted) a)) [
  | inl k ↦ subst (λ o. Points m trees (in_section wanted number o)) (sym k)
      (found m trees (OtherPart wanted number) (wrong m (OtherPart wanted number) _ a (step trees number [] a e) (ap (λ o. not (is_some o)) k)))
  | inr k ↦ subst (λ o. Points m trees (in_section wanted number o)) (sym k.1)
      (calls_points m trees number a (word wanted) k.0 e k.1)
]

-- ---- branches

branch_points : (m : Source) (trees : List Form) (b : Form) (parts : List Form) (number : ℕ) (f : Form) → slice_get trees 2 ≡ Some b → node_of b ≡ Some parts → slice_get parts number ≡ Some f → Points m trees (branch_fault number f)
branch_points m trees b parts number f e n q = elim (decided (node_of f)) [
  | inl k ↦ subst (λ o. Points m trees (in_branch number o)) (sym k)
      (found m trees (NoBranch number) (wrong m (NoBranch number) _ f
      (step trees 2 (number ∷ []) b e ∙ into b parts number [] n ∙ step parts number [] f q)
      (ap (λ o. not (is_some o)) k)))
  | inr k ↦ subst (λ o. Points m trees (in_branch number o)) (sym k.1)
      (mapped m trees (no_call k.0) (NoBranchCall number) (λ i w.
      let bad = no_call_at m k.0 i w in
      wrong m (NoBranchCall number i) _ bad.0
      (step trees 2 (number ∷ i ∷ []) b e ∙ into b parts number (i ∷ []) n ∙ step parts number (i ∷ []) f q ∙ into f k.0 i [] k.1 ∙ step k.0 i [] bad.0 bad.1)
      bad.2))
]

from_points : (m : Source) (trees : List Form) (b : Form) (parts : List Form) (number : ℕ) (forms : List Form) → slice_get trees 2 ≡ Some b → node_of b ≡ Some parts → From parts number forms → Points m trees (branches_from number forms)
from_points m trees b parts number [] e n h = nothing m trees
from_points m trees b parts number (f ∷ forms) e n h =
    either m trees _ _ (branch_points m trees b parts number f e n (first_of parts number f forms h))
    (from_points m trees b parts (number + 1) forms e n (next_of parts number f forms h))

-- a fault of two: where the test fails, or another
tested : (m : Source) (trees : List Form) (b : Bool) (x : Option CaseFormFault) (z : CaseFormFault) → Points m trees x → (b ≡ false → at_path m z trees (place z)) → Points m trees (if b then x else Some z)
tested m trees true x z h k = h
tested m trees false x z h k = found m trees z (k refl)

behind_head : (head : Form) (forms : List Form) → From (head ∷ forms) 1 forms
behind_head head forms = record { at = λ k. let same : suc k ≡ 1 + k = omega arith in subst (λ i. slice_get (head ∷ forms) i ≡ slice_get forms k) same refl }

not_many : (m : Source) (b : Form) (forms : List Form) → form.section (codes "branches") b ≡ Some forms → form.are_two_to_four forms ≡ false → form.many_branches m b ≡ None
not_many m b forms e k =
    ap (λ o. and_then o (form.each_branch m)) e
    ∙ ap (λ t. if t then each (form.branch_of m) forms else None) k

branches_points : (m : Source) (trees : List Form) (b : Form) (forms : List Form) → slice_get trees 2 ≡ Some b → form.section (codes "branches") b ≡ Some forms → Points m trees (branches_fault forms)
branches_points m trees b forms e k =
    let node = section_node (codes "branches") (node_of b) forms k in
    tested m trees (form.are_two_to_four forms) _ (BranchCount (length forms))
    (from_points m trees b (node.0 ∷ forms) 1 forms e node.1 (behind_head node.0 forms))
    (λ t. wrong m (BranchCount (length forms)) _ b (step trees 2 [] b e) (ap (λ o. not (is_some o)) (not_many m b forms k t)))

-- ---- what follows the branches

after_points : (m : Source) (trees : List Form) (number : ℕ) (rest : List Form) → From trees number rest → Points m trees (after_all number rest)
after_points m trees number [] h = nothing m trees
after_points m trees number (f ∷ rest) h =
    found m trees (Misplaced number) (wrong m (Misplaced number) _ f (step trees number [] f (first_of trees number f rest h)) refl)

lists_points : (m : Source) (trees : List Form) (parts : PartsWithReplyLists) (lists : List Form) → Points m trees (lists_fault parts lists)
lists_points m trees parts lists =
    tested m trees (length lists == count parts) _ (ListCount (length lists) parts)
    (tested m trees (list_all (λ list. form.is_node (node_of list)) lists) None NoList (nothing m trees) (λ _. tt))
    (λ _. tt)

time_lists_points : (m : Source) (trees : List Form) (parts : PartsWithReplyLists) (lists : List Form) → Points m trees (time_lists_fault parts lists)
time_lists_points m trees parts lists =
    tested m trees (length lists == parts.branches) _ (TimeListCount (length lists) parts.branches)
    (tested m trees (list_all (λ list. form.is_node (node_of list)) lists) None NoTimeList (nothing m trees) (λ _. tt))
    (λ _. tt)

times_points : (m : Source) (trees : List Form) (parts : PartsWithReplyLists) (number : ℕ) (rest : List Form) → From trees number rest → Points m trees (times_fault parts number rest)
times_points m trees parts number [] h = nothing m trees
times_points m trees parts number (f ∷ rest) h = elim (decided (form.section (codes "times") f)) [
  | inl k ↦ subst (λ o. Points m trees (in_times parts number o rest)) (sym k)
      (found m trees (Misplaced number) (wrong m (Misplaced number) _ f (step trees number [] f (first_of trees number f rest h)) refl))
  | inr k ↦ subst (λ o. Points m trees (in_times parts number o rest)) (sym k.1)
      (either m trees _ _ (after_points m trees (number + 1) rest (next_of trees number f rest h)) (time_lists_points m trees parts k.0))
]

replies_points : (m : Source) (trees : List Form) (parts : PartsWithReplyLists) (number : ℕ) (f : Form) (rest : List Form) → From trees number (f ∷ rest) → Points m trees (in_replies parts number (form.section (codes "replies") f) rest)
replies_points m trees parts number f rest h = elim (decided (form.section (codes "replies") f)) [
  | inl k ↦ subst (λ o. Points m trees (in_replies parts number o rest)) (sym k)
      (found m trees (OtherPart Replies number) (wrong m (OtherPart Replies number) _ f (step trees number [] f (first_of trees number f rest h)) (ap (λ o. not (is_some o)) k)))
  | inr k ↦ subst (λ o. Points m trees (in_replies parts number o rest)) (sym k.1)
      (either m trees _ _ (times_points m trees parts (number + 1) rest (next_of trees number f rest h)) (lists_points m trees parts k.0))
]

end_points : (m : Source) (trees : List Form) (r : Bool) (parts : PartsWithReplyLists) (number : ℕ) (rest : List Form) → From trees number rest → Points m trees (end_fault r parts number rest)
end_points m trees false parts number rest h = after_points m trees number rest h
end_points m trees true parts number [] h = found m trees (Missing Replies) tt
end_points m trees true parts number (f ∷ rest) h = replies_points m trees parts number f rest h

rest_points : (m : Source) (trees : List Form) (r : Bool) (n number : ℕ) (rest : List Form) → From trees number rest → Points m trees (rest_fault r n number rest)
rest_points m trees r n number [] h = end_points m trees r (record { branches = n; has_suffix = false }) number [] h
rest_points m trees r n number (f ∷ rest) h = elim (decided (form.section (codes "suffix") f)) [
  | inl k ↦ subst (λ o. Points m trees (in_suffix r n number o f rest)) (sym k)
      (end_points m trees r (record { branches = n; has_suffix = false }) number (f ∷ rest) h)
  | inr k ↦ subst (λ o. Points m trees (in_suffix r n number o f rest)) (sym k.1)
      (either m trees _ _ (calls_points m trees number f (codes "suffix") k.0 (first_of trees number f rest h) k.1)
      (end_points m trees r (record { branches = n; has_suffix = true }) (number + 1) rest (next_of trees number f rest h)))
]

-- ---- the item

right_points : (m : Source) (trees : List Form) (r : Bool) (rest : List Form) → From trees 3 rest → Points m trees (right_fault r rest)
right_points m trees r [] h = found m trees (Missing Right) tt
right_points m trees r (f ∷ rest) h =
    either m trees _ _ (section_points m trees Right 3 f (first_of trees 3 f rest h))
    (rest_points m trees r 2 4 rest (next_of trees 3 f rest h))

prefix_points : (m : Source) (trees : List Form) (r : Bool) (rest : List Form) → From trees 2 rest → Points m trees (after_prefix r rest)
prefix_points m trees r [] h = found m trees (Missing Left) tt
prefix_points m trees r (f ∷ rest) h = elim (decided (form.section (codes "branches") f)) [
  | inl k ↦ subst (λ o. Points m trees (in_branches r o f rest)) (sym k)
      (either m trees _ _ (section_points m trees Left 2 f (first_of trees 2 f rest h))
      (right_points m trees r rest (next_of trees 2 f rest h)))
  | inr k ↦ subst (λ o. Points m trees (in_branches r o f rest)) (sym k.1)
      (either m trees _ _ (branches_points m trees f k.0 (first_of trees 2 f rest h) k.1)
      (rest_points m trees r (length k.0) 3 rest (next_of trees 2 f rest h)))
]

parts_points : (m : Source) (trees : List Form) (r : Bool) (rest : List Form) → From trees 1 rest → Points m trees (parts_fault r rest)
parts_points m trees r [] h = found m trees (Missing Prefix) tt
parts_points m trees r (f ∷ rest) h =
    either m trees _ _ (section_points m trees Prefix 1 f (first_of trees 1 f rest h))
    (prefix_points m trees r rest (next_of trees 1 f rest h))

-- a fault of the item as a whole, where the reader refuses the item
whole : (m : Source) (f : Form) (fault : CaseFormFault) → not (is_some (form.parts_of m f)) ≡ true → place fault ≡ [] → not (is_wanted m fault f) ≡ true
whole m f OtherHead h e = h
whole m f (Missing wanted) h e = h
whole m f (OtherPart wanted number) h e = absurd (cc)
whole m f (NoCall number command) h e = absurd (cc)
whole m f (BranchCount n) h e = absurd (cc)
whole m f (NoBranch number) h e = absurd (cc)
whole m f (NoBranchCall number command) h e = absurd (cc)
whole m f (Misplaced number) h e = absurd (cc)
whole m f (ListCount lists parts) h e = h
whole m f NoList h e = h
whole m f (TimeListCount lists branches) h e = h
whole m f NoTimeList h e = h

pointed : (m : Source) (f : Form) (trees : List Form) (fault : CaseFormFault) (path : List ℕ) → place fault ≡ path → not (is_some (form.parts_of m f)) ≡ true → node_of f ≡ Some trees → at_path m fault trees path → is_refused m fault (tree_in path f) ≡ true
pointed m f trees fault [] e h n k = whole m f fault h e
pointed m f trees fault (number ∷ path) e h n k = ap (is_refused m fault) (into f trees number path n) ∙ k

not_read : (m : Source) (f : Form) (fault : CaseFormFault) → form_fault f ≡ Some fault → not (is_some (form.parts_of m f)) ≡ true
not_read m f fault e = ap not (sym (form_agrees m f).same ∙ ap is_none e)

headed : (m : Source) (r : Bool) (f : Form) (name : List ℕ) (parts : List Form) (fault : CaseFormFault) → form.section name f ≡ Some parts → parts_fault r parts ≡ Some fault → not (is_some (form.parts_of m f)) ≡ true → is_refused m fault (tree_in (place fault) f) ≡ true
headed m r f name parts fault k e h =
    let node = section_node name (node_of f) parts k in
    let found = parts_points m (node.0 ∷ parts) r parts (behind_head node.0 parts) in
    pointed m f (node.0 ∷ parts) fault (place fault) refl h node.1 (found.points fault e)

pub fault_refused : (m : Source) (f : Form) (fault : CaseFormFault) → form_fault f ≡ Some fault → refused m fault f ≡ true
unfolding form_fault refused
fault_refused m f fault e =
    let h = not_read m f fault e in
    elim (decided (form.section (codes "case") f)) [
      | inl k ↦ elim (decided (form.section (codes "run") f)) [
        | inl l ↦
            let other : Some OtherHead ≡ Some fault = sym (ap (λ o. case_fault o (form.section (codes "run") f)) k ∙ ap (λ o. case_fault None o) l) ∙ e in
            let same : OtherHead ≡ fault = cc in
            subst (λ x. is_refused m x (tree_in (place x) f) ≡ true) same (whole m f OtherHead h refl)
        | inr l ↦ headed m true f (codes "run") l.0 fault l.1 (sym (ap (λ o. case_fault o (form.section (codes "run") f)) k ∙ ap (λ o. case_fault None o) l.1) ∙ e) h
      ]
      | inr k ↦ headed m false f (codes "case") k.0 fault k.1 (sym (ap (λ o. case_fault o (form.section (codes "run") f)) k.1) ∙ e) h
    ]
