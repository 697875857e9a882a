-- A fault in the form of an item is found exactly where the reader refuses the form.
use Rattle.std.proofs.Common.{◌≡◌, ℕ, ◌+◌, ◌==◌, ◌&&◌, Bool, true, false, not, if◌then◌else◌, List, [], ◌∷◌, ◌++◌, length, Option, Some, None, ◌⊎◌, inl, inr, refl, sym, ap, subst, append_assoc, ◌∙◌}
use Rattle.std.specs.Prelude.{codes}
use Rattle.std.specs.List.{list_all}
use Rattle.std.specs.Option.{is_some, is_none, option_or}
use Rattle.std.specs.Str.{bytes_eq}
use Rattle.std.proofs.lemmas.Slice.Eq.{bytes_eq-Decides}
use Rattle.pst_run_problems.proofs.Agree.{Agrees, both_agree, later_found, none_agree, then_agree, found_agree, map_agree, some_agree, nested_agree, each_agree, length_each}
use Rattle.pst_run_problems.specs.ItemForm.{word, is_word, is_call_at, is_call, no_call, calls_fault, in_section, section_fault, in_branch, branch_fault, branches_from, branches_fault, after_all, count, time_lists_fault, in_times, times_fault, in_replies, replies_fault, end_fault, in_suffix, rest_fault, right_fault, in_branches, after_prefix, parts_fault, case_fault, form_fault}
use Rattle.pst_run_problems.specs.declared.form_fault.CaseFormFault.{CaseFormFault}
use Rattle.pst_run_problems.specs.declared.form_fault.CaseFormFault.TheVariants.{Missing, NoCall, NoBranchCall}
use Rattle.pst_run_problems.specs.declared.form_fault.PartsWithReplyLists.{PartsWithReplyLists}
use Rattle.pst_run_problems.specs.declared.form_fault.RunSection.{RunSection}
use Rattle.pst_run_problems.specs.declared.form_fault.RunSection.TheVariants.{Prefix, Left, Right, Replies}
use Rattle.pst_model.specs.declared.model.Source.{Source}
use Rattle.pst_runs.specs.Commands.{command_of, command_in, commands_of}
use Rattle.pst_runs.specs.Forms as form
use Rattle.pst_runs.specs.Values.{each}
use Rattle.pst_runs.specs.declared.commands.SpelledCase.{SpelledCase}
use Rattle.pst_runs.specs.declared.commands.SpelledCommand.{SpelledCommand}
use Rattle.pst_runs.proofs.Last.{last_behind}
use Rattle.pst_sexpr.specs.Parts.{and_then, word_of, node_of}
use Rattle.pst_sexpr.specs.declared.form.Form.{Form}

-- ---- calls, sections and branches

worded : {A B : Type 0} (w : Option A) (g : A → B) → is_some (and_then w (λ a. Some (g a))) ≡ is_some w
worded None g = refl
worded (Some a) g = refl

is_word_some : (w : Option (List ℕ)) → is_word w ≡ is_some w
is_word_some None = refl
is_word_some (Some word) = refl

call_at : (m : Source) (o : Option (List Form)) → not (is_call_at o) ≡ not (is_some (and_then o (command_in m)))
call_at m None = refl
call_at m (Some []) = refl
call_at m (Some (first ∷ args)) = ap not (is_word_some (word_of first) ∙ sym (worded (word_of first) _))

pub call_same : (m : Source) (f : Form) → not (is_call f) ≡ not (is_some (command_of m f))
call_same m f = call_at m (node_of f)

pub calls_agree : (m : Source) (forms : List Form) → Agrees (no_call forms) (commands_of m forms)
calls_agree m forms = record { same = each_agree (λ f. not (is_call f)) (command_of m) (call_same m) forms }

calls_fault_agrees : (m : Source) (place : ℕ) (commands : List Form) → Agrees (calls_fault place commands) (commands_of m commands)
calls_fault_agrees m place commands = map_agree (no_call commands) (λ offset. NoCall place (offset + 1)) (commands_of m commands) (calls_agree m commands)

pub section_agrees : (m : Source) (wanted : RunSection) (place : ℕ) (o : Option (List Form)) → Agrees (in_section wanted place o) (and_then o (commands_of m))
section_agrees m wanted place None = both_agree _
section_agrees m wanted place (Some commands) = calls_fault_agrees m place commands

branch_agrees : (m : Source) (number : ℕ) (o : Option (List Form)) → Agrees (in_branch number o) (and_then o (commands_of m))
branch_agrees m number None = both_agree _
branch_agrees m number (Some commands) = map_agree (no_call commands) (NoBranchCall number) (commands_of m commands) (calls_agree m commands)

from_agrees : (m : Source) (number : ℕ) (forms : List Form) → Agrees (branches_from number forms) (each (form.branch_of m) forms)
from_agrees m number [] = none_agree _
from_agrees m number (f ∷ forms) =
    then_agree (branch_fault number f) (branches_from (number + 1) forms) (form.branch_of m f) _
    (branch_agrees m number (node_of f))
    (λ b e. some_agree (branches_from (number + 1) forms) (each (form.branch_of m) forms) (λ bs. b ∷ bs) (from_agrees m (number + 1) forms))

counted_agree : {A B : Type 0} (b : Bool) (x : Option A) (z : A) (o : Option B) → Agrees x o → Agrees (if b then x else Some z) (if b then o else None)
counted_agree true x z o h = h
counted_agree false x z o h = both_agree z

branches_agree : (m : Source) (forms : List Form) → Agrees (branches_fault forms) (form.each_branch m forms)
branches_agree m forms = counted_agree (form.are_two_to_four forms) _ _ _ (from_agrees m 1 forms)

length_counted : {A : Type 0} (b : Bool) (o : Option A) (a : A) → (if b then o else None) ≡ Some a → o ≡ Some a
length_counted true o a e = e
length_counted false o a e = absurd (cc)

length_branches : (m : Source) (forms : List Form) (bs : List (List SpelledCommand)) → form.each_branch m forms ≡ Some bs → length bs ≡ length forms
length_branches m forms bs e = length_each (form.branch_of m) forms bs (length_counted (form.are_two_to_four forms) _ _ e)

-- ---- one tree does not begin with two words

apart_words : (one other w : List ℕ) (b : Bool) → bytes_eq w one ≡ b → bytes_eq one other ≡ false → (parts found : List Form) → (if b then Some parts else None) ≡ Some found → (if bytes_eq w other then Some parts else None) ≡ None
apart_words one other w true e d parts found h =
    let same : w ≡ one = (bytes_eq-Decides w one).0 e in
    rw same (rw d refl)
apart_words one other w false e d parts found h = absurd (cc)

apart_worded : (one other : List ℕ) (w : Option (List ℕ)) → bytes_eq one other ≡ false → (parts found : List Form) → and_then w (λ word. if bytes_eq word one then Some parts else None) ≡ Some found → and_then w (λ word. if bytes_eq word other then Some parts else None) ≡ None
apart_worded one other None d parts found h = refl
apart_worded one other (Some w) d parts found h = apart_words one other w (bytes_eq w one) refl d parts found h

apart_node : (one other : List ℕ) (o : Option (List Form)) → bytes_eq one other ≡ false → (found : List Form) → and_then o (form.section_in one) ≡ Some found → and_then o (form.section_in other) ≡ None
apart_node one other None d found h = refl
apart_node one other (Some []) d found h = refl
apart_node one other (Some (first ∷ parts)) d found h = apart_worded one other (word_of first) d parts found h

pub apart : (one other : List ℕ) (f : Form) (found : List Form) → bytes_eq one other ≡ false → form.section one f ≡ Some found → form.section other f ≡ None
apart one other f found d h = apart_node one other (node_of f) d found h

-- ---- the lists of replies

lists_tested : {A : Type 0} (a b t : Bool) (f g : CaseFormFault) (x : A) (y : Option CaseFormFault) → is_none y ≡ t
    → Agrees (option_or y (if a then (if b then None else Some f) else Some g)) (if (a && b) && t then Some x else None)
lists_tested a b true f g x (Some z) h = absurd (cc)
lists_tested a b false f g x None h = absurd (cc)
lists_tested true true true f g x None h = none_agree x
lists_tested true false true f g x None h = both_agree f
lists_tested false b true f g x None h = both_agree g
lists_tested true true false f g x (Some z) h = both_agree z
lists_tested true false false f g x (Some z) h = both_agree z
lists_tested false b false f g x (Some z) h = both_agree z

none_tested : (a b : Bool) (f g : CaseFormFault) → is_none (if a then (if b then None else Some f) else Some g) ≡ (a && b)
none_tested true true f g = refl
none_tested true false f g = refl
none_tested false b f g = refl

-- as many lists of times as branches
time_lists_same : (c : SpelledCase) (parts : PartsWithReplyLists) (times : List Form) → parts.branches ≡ length c.branches
    → is_none (time_lists_fault parts times) ≡ form.are_time_lists (Some times) c
time_lists_same c parts times q =
    none_tested (length times == parts.branches) _ _ _
    ∙ ap (λ n. (length times == n) && form.are_nodes times) q

-- what is found behind the replies, and the lists of times that are read there
record Behind (parts : PartsWithReplyLists) (place : ℕ) (more : List Form) (times : Option (List Form)) (c : SpelledCase) : Type 0 where
  same : is_none (times_fault parts place more) ≡ form.are_time_lists times c

behind_none : (parts : PartsWithReplyLists) (place : ℕ) (c : SpelledCase) → Behind parts place [] None c
behind_none parts place c = record { same = refl }

behind_times : (parts : PartsWithReplyLists) (place : ℕ) (c : SpelledCase) (t : Form) (times : List Form) → form.section (codes "times") t ≡ Some times → parts.branches ≡ length c.branches
    → Behind parts place (t ∷ []) (Some times) c
behind_times parts place c t times e q = record {
  same = ap (λ o. is_none (in_times parts place o [])) e ∙ time_lists_same c parts times q;
}

abbrev read_lists : SpelledCase → form.Sections → Option (List Form) → List Form → Option form.Parts
read_lists c sections times lists =
    if form.are_reply_lists lists sections c && form.are_time_lists times c
    then Some (record { read = c; replies = Some lists; times = times }) else None

-- the replies of a run: as many lists as parts
replies_at : (c : SpelledCase) (sections : form.Sections) (parts : PartsWithReplyLists) (place : ℕ) (o : Option (List Form)) (more : List Form) (times : Option (List Form))
    → Behind parts (place + 1) more times c → count parts ≡ form.number_of_parts sections.suffix c
    → Agrees {A = CaseFormFault} {B = form.Parts} (in_replies parts place o more) (and_then o (read_lists c sections times))
replies_at c sections parts place None more times b e = both_agree _
replies_at c sections parts place (Some lists) more times b e =
    rw (← e) (lists_tested (length lists == count parts) _ (form.are_time_lists times c) _ _ _ (times_fault parts (place + 1) more) b.same)

replies_agree : (c : SpelledCase) (sections : form.Sections) (parts : PartsWithReplyLists) (place : ℕ) (z : Form) (more : List Form) (times : Option (List Form))
    → Behind parts (place + 1) more times c → count parts ≡ form.number_of_parts sections.suffix c
    → Agrees (replies_fault parts place z more) (form.with_replies z times sections c)
replies_agree c sections parts place z more times b e = replies_at c sections parts place (form.section (codes "replies") z) more times b e

-- ---- the parts

-- whether a tree begins with the word
decide : {A : Type 0} (o : Option A) → (o ≡ None) ⊎ ((a : A) × (o ≡ Some a))
decide None = inl refl
decide (Some a) = inr (a, refl)

-- what is read after the prefix, and after the branches
abbrev after_branches : Source → Option (List Form) → (SpelledCase → Option form.Parts) → List SpelledCommand → List (List SpelledCommand) → Option form.Parts
after_branches m suffix g p bs = and_then (and_then (form.suffix_of m suffix) (λ s. Some (record { prefix = p; branches = bs; suffix = s }))) g

abbrev with_branches : Source → Option (List Form) → (SpelledCase → Option form.Parts) → List SpelledCommand → Option (List (List SpelledCommand)) → Option form.Parts
with_branches m suffix g p bs = and_then bs (after_branches m suffix g p)

part_agrees : (m : Source) (wanted : RunSection) (place : ℕ) (a : Form) → Agrees (section_fault wanted place a) (form.section_commands m (word wanted) a)
part_agrees m wanted place a = section_agrees m wanted place (form.section (word wanted) a)

prefix_then : (m : Source) (a : Form) (others : List Form) (suffix : Option (List Form)) (y : Option CaseFormFault) (g : SpelledCase → Option form.Parts) (bs : Option (List (List SpelledCommand))) → form.branches_of m others ≡ bs → ((p : List SpelledCommand) → Agrees y (with_branches m suffix g p bs)) → Agrees (option_or (section_fault Prefix 1 a) y) (and_then (form.case_in m (a ∷ others) suffix) g)
prefix_then m a others suffix y g bs e h =
    nested_agree _ (form.section_commands m (codes "prefix") a) (λ p. and_then (form.branches_of m others) (λ found. and_then (form.suffix_of m suffix) (λ s. Some (record { prefix = p; branches = found; suffix = s })))) g
    (then_agree (section_fault Prefix 1 a) y (form.section_commands m (codes "prefix") a) _ (part_agrees m Prefix 1 a)
    (λ p _. nested_agree y (form.branches_of m others) (λ found. and_then (form.suffix_of m suffix) (λ s. Some (record { prefix = p; branches = found; suffix = s }))) g
    (subst (λ found. Agrees y (with_branches m suffix g p found)) (sym e) (h p))))

refused : (m : Source) (a : Form) (others : List Form) (suffix : Option (List Form)) (y : Option CaseFormFault) (g : SpelledCase → Option form.Parts) → form.branches_of m others ≡ None → Agrees {A = CaseFormFault} {B = form.Parts} y None → Agrees (option_or (section_fault Prefix 1 a) y) (and_then (form.case_in m (a ∷ others) suffix) g)
refused m a others suffix y g e h = prefix_then m a others suffix y g None e (λ p. h)

many_then : (m : Source) (forms : List Form) (y : Option CaseFormFault) (k : List (List SpelledCommand) → Option form.Parts) → ((bs : List (List SpelledCommand)) → length bs ≡ length forms → Agrees y (k bs)) → Agrees (option_or (branches_fault forms) y) (and_then (form.each_branch m forms) k)
many_then m forms y k h =
    then_agree (branches_fault forms) y (form.each_branch m forms) k (branches_agree m forms)
    (λ bs e. h bs (length_branches m forms bs e))

two_then : (m : Source) (b c : Form) (y : Option CaseFormFault) (k : List (List SpelledCommand) → Option form.Parts) → ((bs : List (List SpelledCommand)) → length bs ≡ 2 → Agrees y (k bs)) → Agrees (option_or (section_fault Left 2 b) (option_or (section_fault Right 3 c) y)) (and_then (form.two_branches m b c) k)
two_then m b c y k h =
    nested_agree _ (form.section_commands m (codes "left") b) (λ l. and_then (form.section_commands m (codes "right") c) (λ r. Some (l ∷ r ∷ []))) k
    (then_agree (section_fault Left 2 b) (option_or (section_fault Right 3 c) y) (form.section_commands m (codes "left") b) _ (part_agrees m Left 2 b)
    (λ l _. nested_agree _ (form.section_commands m (codes "right") c) (λ r. Some (l ∷ r ∷ [])) k
    (then_agree (section_fault Right 3 c) y (form.section_commands m (codes "right") c) _ (part_agrees m Right 3 c)
    (λ r _. h (l ∷ r ∷ []) refl))))

suffix_then : (m : Source) (place : ℕ) (cs : List Form) (y : Option CaseFormFault) (g : SpelledCase → Option form.Parts) (p : List SpelledCommand) (bs : List (List SpelledCommand)) → ((s : List SpelledCommand) → Agrees y (g (record { prefix = p; branches = bs; suffix = s }))) → Agrees (option_or (calls_fault place cs) y) (after_branches m (Some cs) g p bs)
suffix_then m place cs y g p bs h =
    nested_agree _ (commands_of m cs) (λ s. Some (record { prefix = p; branches = bs; suffix = s })) g
    (then_agree (calls_fault place cs) y (commands_of m cs) _
    (calls_fault_agrees m place cs) (λ s _. h s))

-- ---- what a tree begins with

begins_none : {B : Type 0} (r : Bool) (b : Form) (rest : List Form) (x : Option B) → form.section (codes "branches") b ≡ None → Agrees (option_or (section_fault Left 2 b) (right_fault r rest)) x → Agrees (after_prefix r (b ∷ rest)) x
begins_none r b rest x e h = subst (λ o. Agrees (in_branches r o b rest) x) (sym e) h

begins_some : {B : Type 0} (r : Bool) (b : Form) (rest forms : List Form) (x : Option B) → form.section (codes "branches") b ≡ Some forms → Agrees (option_or (branches_fault forms) (rest_fault r (length forms) 3 rest)) x → Agrees (after_prefix r (b ∷ rest)) x
begins_some r b rest forms x e h = subst (λ o. Agrees (in_branches r o b rest) x) (sym e) h

ends_none : {B : Type 0} (r : Bool) (n place : ℕ) (c : Form) (ts : List Form) (x : Option B) → form.section (codes "suffix") c ≡ None → Agrees (end_fault r (record { branches = n; has_suffix = false }) place (c ∷ ts)) x → Agrees (rest_fault r n place (c ∷ ts)) x
ends_none r n place c ts x e h = subst (λ o. Agrees (in_suffix r n place o c ts) x) (sym e) h

ends_some : {B : Type 0} (r : Bool) (n place : ℕ) (c : Form) (ts cs : List Form) (x : Option B) → form.section (codes "suffix") c ≡ Some cs → Agrees (option_or (calls_fault place cs) (end_fault r (record { branches = n; has_suffix = true }) (place + 1) ts)) x → Agrees (rest_fault r n place (c ∷ ts)) x
ends_some r n place c ts cs x e h = subst (λ o. Agrees (in_suffix r n place o c ts) x) (sym e) h

no_right : (r : Bool) (c : Form) (ts cs : List Form) → form.section (codes "suffix") c ≡ Some cs → Agrees {A = CaseFormFault} {B = form.Parts} (right_fault r (c ∷ ts)) None
no_right r c ts cs e =
    subst (λ o. Agrees {A = CaseFormFault} {B = form.Parts} (option_or (in_section Right 3 o) (rest_fault r 2 4 ts)) None)
    (sym (apart (codes "suffix") (codes "right") c cs refl e)) (both_agree _)

-- the branches of a `(branches ..)` tree, and of no other
no_many : (m : Source) (b : Form) → form.section (codes "branches") b ≡ None → form.branches_of m (b ∷ []) ≡ None
no_many m b e = ap (λ o. and_then o (form.each_branch m)) e

some_many : (m : Source) (b : Form) (forms : List Form) → form.section (codes "branches") b ≡ Some forms → form.branches_of m (b ∷ []) ≡ form.each_branch m forms
some_many m b forms e = ap (λ o. and_then o (form.each_branch m)) e

no_two : (m : Source) (b c : Form) (forms : List Form) → form.section (codes "branches") b ≡ Some forms → form.branches_of m (b ∷ c ∷ []) ≡ None
no_two m b c forms e =
    ap (λ o. and_then (and_then o (commands_of m)) (λ l. and_then (form.section_commands m (codes "right") c) (λ r. Some (l ∷ r ∷ []))))
    (apart (codes "branches") (codes "left") b forms refl e)

found_in : {B : Type 0} (r : Bool) (o : Option (List Form)) (b : Form) (rest : List Form) → Agrees {A = CaseFormFault} {B = B} (right_fault r rest) None → ((n : ℕ) → Agrees {A = CaseFormFault} {B = B} (rest_fault r n 3 rest) None) → Agrees {A = CaseFormFault} {B = B} (in_branches r o b rest) None
found_in r None b rest h k = later_found _ _ h
found_in r (Some bs) b rest h k = later_found _ _ (k (length bs))

-- what is found in the trees behind a case, and what is read from them
pub record Ending (r : Bool) (ts : List Form) (g : form.Sections → SpelledCase → Option form.Parts) : Type 0 where
  pub none : Agrees {A = CaseFormFault} {B = form.Parts} (parts_fault r ts) None
  pub prefix : Agrees {A = CaseFormFault} {B = form.Parts} (after_prefix r ts) None
  pub left : Agrees {A = CaseFormFault} {B = form.Parts} (right_fault r ts) None
  pub extra : (n place : ℕ) (c : Form) → Agrees {A = CaseFormFault} {B = form.Parts} (end_fault r (record { branches = n; has_suffix = false }) place (c ∷ ts)) None
  pub long : (n place : ℕ) (c d : Form) (more : List Form) → Agrees {A = CaseFormFault} {B = form.Parts} (rest_fault r n place (c ∷ d ∷ (more ++ ts))) None
  pub plain : (s : form.Sections) (c : SpelledCase) (n place : ℕ) → s.suffix ≡ None → length c.branches ≡ n → Agrees (rest_fault r n place ts) (g s c)
  pub ended : (s : form.Sections) (c : SpelledCase) (n place : ℕ) (cs : List Form) → s.suffix ≡ Some cs → length c.branches ≡ n → Agrees (end_fault r (record { branches = n; has_suffix = true }) place ts) (g s c)

Body : Source → Bool → List Form → (form.Sections → SpelledCase → Option form.Parts) → List Form → form.Sections → Type 0
Body m r ts g front s = Agrees (parts_fault r (front ++ ts)) (and_then (form.case_of m s) (g s))

one : (m : Source) (r : Bool) (ts : List Form) (g : form.Sections → SpelledCase → Option form.Parts) → Ending r ts g → (a : Form) (o : Option (List Form)) → Body m r ts g (a ∷ []) (form.cut (a ∷ []) [] o)
unfolding Body
one m r ts g h a None = refused m a [] None _ _ refl h.prefix
one m r ts g h a (Some cs) = later_found _ _ h.prefix

two : (m : Source) (r : Bool) (ts : List Form) (g : form.Sections → SpelledCase → Option form.Parts) → Ending r ts g → (a b : Form) (o : Option (List Form)) → form.section (codes "suffix") b ≡ o → Body m r ts g (a ∷ b ∷ []) (form.cut (a ∷ b ∷ []) (a ∷ []) o)
unfolding Body
two m r ts g h a b None e = elim (decide (form.section (codes "branches") b)) [
  | inl k ↦ refused m a (b ∷ []) None _ _ (no_many m b k) (begins_none r b ts None k (later_found _ _ h.left))
  | inr k ↦ prefix_then m a (b ∷ []) None _ _ (form.each_branch m k.0) (some_many m b k.0 k.1) (λ p.
      begins_some r b ts k.0 _ k.1 (many_then m k.0 _ _ (λ bs q. h.plain _ _ _ _ refl q)))
]
two m r ts g h a b (Some cs) e =
    refused m a [] (Some cs) _ _ refl
    (begins_none r b ts None (apart (codes "suffix") (codes "branches") b cs refl e) (later_found _ _ h.left))

three : (m : Source) (r : Bool) (ts : List Form) (g : form.Sections → SpelledCase → Option form.Parts) → Ending r ts g → (a b c : Form) (o : Option (List Form)) → form.section (codes "suffix") c ≡ o → Body m r ts g (a ∷ b ∷ c ∷ []) (form.cut (a ∷ b ∷ c ∷ []) (a ∷ b ∷ []) o)
unfolding Body
three m r ts g h a b c None e = elim (decide (form.section (codes "branches") b)) [
  | inl k ↦ prefix_then m a (b ∷ c ∷ []) None _ _ (form.two_branches m b c) refl (λ p.
      begins_none r b (c ∷ ts) _ k (two_then m b c _ _ (λ bs q. h.plain _ _ _ _ refl q)))
  | inr k ↦ refused m a (b ∷ c ∷ []) None _ _ (no_two m b c k.0 k.1)
      (begins_some r b (c ∷ ts) k.0 None k.1 (later_found _ _ (ends_none r _ 3 c ts None e (h.extra _ 3 c))))
]
three m r ts g h a b c (Some cs) e = elim (decide (form.section (codes "branches") b)) [
  | inl k ↦ refused m a (b ∷ []) (Some cs) _ _ (no_many m b k)
      (begins_none r b (c ∷ ts) None k (later_found _ _ (no_right r c ts cs e)))
  | inr k ↦ prefix_then m a (b ∷ []) (Some cs) _ _ (form.each_branch m k.0) (some_many m b k.0 k.1) (λ p.
      begins_some r b (c ∷ ts) k.0 _ k.1 (many_then m k.0 _ _ (λ bs q.
      ends_some r (length k.0) 3 c ts cs _ e (suffix_then m 3 cs _ _ p bs (λ s. h.ended _ _ _ _ cs refl q)))))
]

four : (m : Source) (r : Bool) (ts : List Form) (g : form.Sections → SpelledCase → Option form.Parts) → Ending r ts g → (a b c d : Form) (o : Option (List Form)) → form.section (codes "suffix") d ≡ o → Body m r ts g (a ∷ b ∷ c ∷ d ∷ []) (form.cut (a ∷ b ∷ c ∷ d ∷ []) (a ∷ b ∷ c ∷ []) o)
unfolding Body
four m r ts g h a b c d None e = refused m a (b ∷ c ∷ d ∷ []) None _ _ refl (
    elim (decide (form.section (codes "branches") b)) [
      | inl k ↦ begins_none r b (c ∷ d ∷ ts) None k (later_found _ _ (later_found _ _ (ends_none r 2 4 d ts None e (h.extra 2 4 d))))
      | inr k ↦ begins_some r b (c ∷ d ∷ ts) k.0 None k.1 (later_found _ _ (h.long _ 3 c d []))
    ])
four m r ts g h a b c d (Some cs) e = elim (decide (form.section (codes "branches") b)) [
  | inl k ↦ prefix_then m a (b ∷ c ∷ []) (Some cs) _ _ (form.two_branches m b c) refl (λ p.
      begins_none r b (c ∷ d ∷ ts) _ k (two_then m b c _ _ (λ bs q.
      ends_some r 2 4 d ts cs _ e (suffix_then m 4 cs _ _ p bs (λ s. h.ended _ _ _ _ cs refl q)))))
  | inr k ↦ refused m a (b ∷ c ∷ []) (Some cs) _ _ (no_two m b c k.0 k.1)
      (begins_some r b (c ∷ d ∷ ts) k.0 None k.1 (later_found _ _ (h.long _ 3 c d [])))
]

front_some : (f : Form) (fs : List Form) → (p : List Form × Form) × (form.front_and_last (f ∷ fs) ≡ Some p)
front_some f [] = (([], f), refl)
front_some f (next ∷ fs) = let more = front_some next fs in ((f ∷ more.0.0, more.0.1), rw more.1 refl)

many_found : (r : Bool) (ts : List Form) (g : form.Sections → SpelledCase → Option form.Parts) → Ending r ts g → (b c d e : Form) (more : List Form) → Agrees {A = CaseFormFault} {B = form.Parts} (after_prefix r (b ∷ c ∷ d ∷ e ∷ (more ++ ts))) None
many_found r ts g h b c d e more =
    found_in r (form.section (codes "branches") b) b (c ∷ d ∷ e ∷ (more ++ ts))
    (later_found _ _ (h.long 2 4 d e more))
    (λ n. h.long n 3 c d (e ∷ more))

many : (m : Source) (r : Bool) (ts : List Form) (g : form.Sections → SpelledCase → Option form.Parts) → Ending r ts g → (a b c d e : Form) (more front : List Form) (o : Option (List Form)) → Body m r ts g (a ∷ b ∷ c ∷ d ∷ e ∷ more) (form.cut (a ∷ b ∷ c ∷ d ∷ e ∷ more) (a ∷ b ∷ c ∷ d ∷ front) o)
unfolding Body
many m r ts g h a b c d e more front None = refused m a (b ∷ c ∷ d ∷ e ∷ more) None _ _ refl (many_found r ts g h b c d e more)
many m r ts g h a b c d e more front (Some cs) = refused m a (b ∷ c ∷ d ∷ front) (Some cs) _ _ refl (many_found r ts g h b c d e more)

body : (m : Source) (r : Bool) (ts : List Form) (g : form.Sections → SpelledCase → Option form.Parts) → Ending r ts g → (front : List Form) → Body m r ts g front (form.sections_of front)
body m r ts g h [] = unfold Body in h.none
body m r ts g h (a ∷ []) = one m r ts g h a _
body m r ts g h (a ∷ b ∷ []) = two m r ts g h a b _ refl
body m r ts g h (a ∷ b ∷ c ∷ []) = three m r ts g h a b c _ refl
body m r ts g h (a ∷ b ∷ c ∷ d ∷ []) = four m r ts g h a b c d _ refl
body m r ts g h (a ∷ b ∷ c ∷ d ∷ e ∷ more) =
    let last = front_some e more in
    let front = a ∷ b ∷ c ∷ d ∷ e ∷ more in
    let same : form.front_and_last front ≡ Some (a ∷ b ∷ c ∷ d ∷ last.0.0, last.0.1) = rw last.1 refl in
    subst (λ o. Body m r ts g front (form.cut_at front o)) (sym same) (many m r ts g h a b c d e more last.0.0 _)

-- ---- behind a case, and behind a run

long_case : (n place : ℕ) (o : Option (List Form)) (c d : Form) (more : List Form) → Agrees {A = CaseFormFault} {B = form.Parts} (in_suffix false n place o c (d ∷ more)) None
long_case n place None c d more = both_agree _
long_case n place (Some cs) c d more = found_agree _ _

no_replies : form.Sections → SpelledCase → Option form.Parts
no_replies s c = form.without_replies c

case_ending : Ending false [] no_replies
unfolding no_replies
case_ending = record {
  none = both_agree _;
  prefix = both_agree _;
  left = both_agree _;
  extra = λ n place c. both_agree _;
  long = λ n place c d more. long_case n place (form.section (codes "suffix") c) c d (more ++ []);
  plain = λ s c n place e q. none_agree _;
  ended = λ s c n place cs e q. none_agree _;
}

all_of : {A : Type 0} (xs : List A) → xs ++ [] ≡ xs
all_of [] = refl
all_of (x ∷ xs) = ap (λ ys. x ∷ ys) (all_of xs)

case_agrees : (m : Source) (parts : List Form) → Agrees (parts_fault false parts) (form.case_parts m parts)
unfolding Body no_replies
case_agrees m parts =
    subst (λ ps. Agrees (parts_fault false ps) (form.case_parts m parts)) (all_of parts)
    (body m false [] no_replies case_ending parts)

abbrev Found : Option CaseFormFault → Type 0
Found x = Agrees {A = CaseFormFault} {B = form.Parts} x None

-- a tree behind the replies that is no `(times ..)`
times_other : (parts : PartsWithReplyLists) (place : ℕ) (d : Form) → form.section (codes "times") d ≡ None → Found (times_fault parts place (d ∷ []))
times_other parts place d e = subst (λ o. Found (in_times parts place o [])) (sym e) (both_agree _)

-- two trees behind the replies
times_long : (parts : PartsWithReplyLists) (place : ℕ) (o : Option (List Form)) (e : Form) (more : List Form) → Found (in_times parts place o (e ∷ more))
times_long parts place None e more = both_agree _
times_long parts place (Some times) e more = both_agree _

first_found : {A B : Type 0} (x y : Option A) → Agrees {A = A} {B = B} x None → Agrees {A = A} {B = B} (option_or x y) None
first_found None y h = absurd (let e : true ≡ false = h.same in cc)
first_found (Some a) y h = record { same = refl }

replies_other : (parts : PartsWithReplyLists) (place : ℕ) (o : Option (List Form)) (d : Form) → form.section (codes "times") d ≡ None → Found (in_replies parts place o (d ∷ []))
replies_other parts place None d e = both_agree _
replies_other parts place (Some lists) d e = first_found _ _ (times_other parts (place + 1) d e)

replies_long : (parts : PartsWithReplyLists) (place : ℕ) (o : Option (List Form)) (d e : Form) (more : List Form) → Found (in_replies parts place o (d ∷ e ∷ more))
replies_long parts place None d e more = both_agree _
replies_long parts place (Some lists) d e more = first_found _ _ (times_long parts (place + 1) (form.section (codes "times") d) e more)

-- trees before the last one
replies_more : (parts : PartsWithReplyLists) (place : ℕ) (o : Option (List Form)) (d : Form) (more : List Form) (z : Form) (zs : List Form) → Found (in_replies parts place o (d ∷ (more ++ z ∷ zs)))
replies_more parts place o d [] z zs = replies_long parts place o d z zs
replies_more parts place o d (e ∷ more) z zs = replies_long parts place o d e (more ++ z ∷ zs)

no_suffix_count : (s : form.Sections) (c : SpelledCase) (n : ℕ) → s.suffix ≡ None → length c.branches ≡ n → n + 1 ≡ form.number_of_parts s.suffix c
no_suffix_count s c n e q = rw e (ap (λ i. i + 1) (sym q))

suffix_count : (s : form.Sections) (c : SpelledCase) (n : ℕ) (cs : List Form) → s.suffix ≡ Some cs → length c.branches ≡ n → n + 2 ≡ form.number_of_parts s.suffix c
suffix_count s c n cs e q = rw e (ap (λ i. i + 2) (sym q))

no_lists : (z : Form) (times : Option (List Form)) (s : form.Sections) (c : SpelledCase) (zs : List Form) → form.section (codes "suffix") z ≡ Some zs → form.with_replies z times s c ≡ None
no_lists z times s c zs e = ap (λ o. and_then o (read_lists c s times)) (apart (codes "suffix") (codes "replies") z zs refl e)

-- the replies and what is behind them, where a suffix may stand before them
plain_run : (z : Form) (more : List Form) (times : Option (List Form)) (s : form.Sections) (c : SpelledCase) (n place : ℕ) → s.suffix ≡ None → length c.branches ≡ n
    → Behind (record { branches = n; has_suffix = false }) (place + 1) more times c → Found (end_fault true (record { branches = n; has_suffix = true }) (place + 1) more)
    → Agrees (rest_fault true n place (z ∷ more)) (form.with_replies z times s c)
plain_run z more times s c n place e q b h = elim (decide (form.section (codes "suffix") z)) [
  | inl k ↦ ends_none true n place z more _ k (replies_agree c s (record { branches = n; has_suffix = false }) place z more times b (no_suffix_count s c n e q))
  | inr k ↦ ends_some true n place z more k.0 _ k.1
      (subst (λ o. Agrees {A = CaseFormFault} {B = form.Parts} (option_or (calls_fault place k.0) (end_fault true (record { branches = n; has_suffix = true }) (place + 1) more)) o)
      (sym (no_lists z times s c k.0 k.1)) (later_found _ _ h))
]

-- ---- behind a run without times

end_run : (parts : PartsWithReplyLists) (place : ℕ) (c : Form) (more : List Form) (z : Form) → form.section (codes "times") z ≡ None → Found (end_fault true parts place (c ∷ (more ++ z ∷ [])))
end_run parts place c [] z e = replies_other parts place (form.section (codes "replies") c) z e
end_run parts place c (d ∷ more) z e = replies_more parts place (form.section (codes "replies") c) d more z []

long_run : (n place : ℕ) (o : Option (List Form)) (c d : Form) (more : List Form) (z : Form) → form.section (codes "times") z ≡ None → Found (in_suffix true n place o c (d ∷ (more ++ z ∷ [])))
long_run n place None c d more z e = replies_more (record { branches = n; has_suffix = false }) place (form.section (codes "replies") c) d more z []
long_run n place (Some cs) c d more z e = later_found _ _ (end_run (record { branches = n; has_suffix = true }) (place + 1) d more z e)

run_ending : (z : Form) → form.section (codes "times") z ≡ None → Ending true (z ∷ []) (form.with_replies z None)
run_ending z e = record {
  none = found_agree _ _;
  prefix = found_in true (form.section (codes "branches") z) z [] (both_agree _) (λ n. both_agree _);
  left = found_agree _ _;
  extra = λ n place c. replies_other (record { branches = n; has_suffix = false }) place (form.section (codes "replies") c) z e;
  long = λ n place c d more. long_run n place (form.section (codes "suffix") c) c d more z e;
  plain = λ s c n place o q. plain_run z [] None s c n place o q (behind_none _ _ c) (both_agree _);
  ended = λ s c n place cs o q. replies_agree c s (record { branches = n; has_suffix = true }) place z [] None (behind_none _ _ c) (suffix_count s c n cs o q);
}

-- ---- behind a run with times

-- the times stand where the replies have to be
end_times : (parts : PartsWithReplyLists) (place : ℕ) (z : Form) (zs : List Form) → form.section (codes "times") z ≡ Some zs → Found (end_fault true parts place (z ∷ []))
end_times parts place z zs e = subst (λ o. Found (in_replies parts place o [])) (sym (apart (codes "times") (codes "replies") z zs refl e)) (both_agree _)

rest_times : (n place : ℕ) (z : Form) (zs : List Form) → form.section (codes "times") z ≡ Some zs → Found (rest_fault true n place (z ∷ []))
rest_times n place z zs e =
    ends_none true n place z [] None (apart (codes "times") (codes "suffix") z zs refl e) (end_times (record { branches = n; has_suffix = false }) place z zs e)

end_timed : (parts : PartsWithReplyLists) (place : ℕ) (c : Form) (more : List Form) (y z : Form) → Found (end_fault true parts place (c ∷ (more ++ y ∷ z ∷ [])))
end_timed parts place c [] y z = replies_long parts place (form.section (codes "replies") c) y z []
end_timed parts place c (d ∷ more) y z = replies_more parts place (form.section (codes "replies") c) d more y (z ∷ [])

long_timed : (n place : ℕ) (o : Option (List Form)) (c d : Form) (more : List Form) (y z : Form) → Found (in_suffix true n place o c (d ∷ (more ++ y ∷ z ∷ [])))
long_timed n place None c d more y z = replies_more (record { branches = n; has_suffix = false }) place (form.section (codes "replies") c) d more y (z ∷ [])
long_timed n place (Some cs) c d more y z = later_found _ _ (end_timed (record { branches = n; has_suffix = true }) (place + 1) d more y z)

timed_ending : (y z : Form) (zs : List Form) → form.section (codes "times") z ≡ Some zs → Ending true (y ∷ z ∷ []) (form.with_replies y (Some zs))
timed_ending y z zs e = record {
  none = later_found _ _ (found_in true (form.section (codes "branches") z) z [] (both_agree _) (λ n. both_agree _));
  prefix = found_in true (form.section (codes "branches") y) y (z ∷ []) (found_agree _ _) (λ n. rest_times n 3 z zs e);
  left = later_found _ _ (rest_times 2 4 z zs e);
  extra = λ n place c. replies_long (record { branches = n; has_suffix = false }) place (form.section (codes "replies") c) y z [];
  long = λ n place c d more. long_timed n place (form.section (codes "suffix") c) c d more y z;
  plain = λ s c n place o q. plain_run y (z ∷ []) (Some zs) s c n place o q (behind_times (record { branches = n; has_suffix = false }) (place + 1) c z zs e (sym q)) (end_times (record { branches = n; has_suffix = true }) (place + 1) z zs e);
  ended = λ s c n place cs o q. replies_agree c s (record { branches = n; has_suffix = true }) place y (z ∷ []) (Some zs) (behind_times (record { branches = n; has_suffix = true }) (place + 1) c z zs e (sym q)) (suffix_count s c n cs o q);
}

-- each list but the empty one has a last
pub record Ends (parts : List Form) : Type 0 where
  pub front : List Form
  pub last : Form
  pub is : front ++ last ∷ [] ≡ parts

ends : (f : Form) (fs : List Form) → Ends (f ∷ fs)
ends f [] = record { front = []; last = f; is = refl }
ends f (next ∷ fs) =
    let more = ends next fs in
    record { front = f ∷ more.front; last = more.last; is = ap (λ ps. f ∷ ps) more.is }

replied_front : (m : Source) (front : List Form) (y : Form) (more : List Form) (times : Option (List Form)) → Ending true (y ∷ more) (form.with_replies y times)
    → Agrees (parts_fault true (front ++ y ∷ more)) (form.replied_parts m times (front ++ y ∷ []))
unfolding Body
replied_front m front y more times h =
    subst (λ o. Agrees (parts_fault true (front ++ y ∷ more)) (and_then o (λ p. form.run_sections m p.1 times (form.sections_of p.0)))) (sym (last_behind front y))
    (body m true (y ∷ more) (form.with_replies y times) h front)

-- the times are last
timed_front : (m : Source) (front : List Form) (z : Form) (zs : List Form) → form.section (codes "times") z ≡ Some zs
    → Agrees (parts_fault true (front ++ z ∷ [])) (form.replied_parts m (Some zs) front)
timed_front m [] z zs e = found_agree _ _
timed_front m (f ∷ fs) z zs e =
    let p = ends f fs in
    let h = replied_front m p.front p.last (z ∷ []) (Some zs) (timed_ending p.last z zs e) in
    let same : p.front ++ p.last ∷ z ∷ [] ≡ (p.front ++ p.last ∷ []) ++ z ∷ [] = sym (append_assoc p.front (p.last ∷ []) (z ∷ [])) in
    subst (λ ps. Agrees (parts_fault true (ps ++ z ∷ [])) (form.replied_parts m (Some zs) ps)) p.is
    (subst (λ ps. Agrees (parts_fault true ps) (form.replied_parts m (Some zs) (p.front ++ p.last ∷ []))) same h)

run_front : (m : Source) (front : List Form) (z : Form) → Agrees (parts_fault true (front ++ z ∷ [])) (form.run_parts m (front ++ z ∷ []))
run_front m front z =
    let parts = front ++ z ∷ [] in
    subst (λ o. Agrees (parts_fault true parts) (and_then o (λ p. form.run_ending m parts p.0 (form.section (codes "times") p.1)))) (sym (last_behind front z))
    (elim (decide (form.section (codes "times") z)) [
      | inl k ↦ subst (λ o. Agrees (parts_fault true parts) (form.run_ending m parts front o)) (sym k) (replied_front m front z [] None (run_ending z k))
      | inr k ↦ subst (λ o. Agrees (parts_fault true parts) (form.run_ending m parts front o)) (sym k.1) (timed_front m front z k.0 k.1)
    ])

run_agrees : (m : Source) (parts : List Form) → Agrees (parts_fault true parts) (form.run_parts m parts)
run_agrees m [] = both_agree _
run_agrees m (f ∷ fs) =
    let e = ends f fs in
    subst (λ ps. Agrees (parts_fault true ps) (form.run_parts m ps)) e.is (run_front m e.front e.last)

-- ---- the item

headed_agrees : (m : Source) (is_case is_run : Bool) (parts : List Form) → Agrees (case_fault (if is_case then Some parts else None) (if is_run then Some parts else None)) (if is_case then form.case_parts m parts else if is_run then form.run_parts m parts else None)
headed_agrees m true is_run parts = case_agrees m parts
headed_agrees m false true parts = run_agrees m parts
headed_agrees m false false parts = both_agree _

worded_agrees : (m : Source) (w : Option (List ℕ)) (parts : List Form) → Agrees (case_fault (and_then w (λ head. if bytes_eq head (codes "case") then Some parts else None)) (and_then w (λ head. if bytes_eq head (codes "run") then Some parts else None))) (and_then w (λ head. if bytes_eq head (codes "case") then form.case_parts m parts else if bytes_eq head (codes "run") then form.run_parts m parts else None))
worded_agrees m None parts = both_agree _
worded_agrees m (Some head) parts = headed_agrees m (bytes_eq head (codes "case")) (bytes_eq head (codes "run")) parts

item_agrees : (m : Source) (o : Option (List Form)) → Agrees (case_fault (and_then o (form.section_in (codes "case"))) (and_then o (form.section_in (codes "run")))) (and_then o (form.item_in m))
item_agrees m None = both_agree _
item_agrees m (Some []) = both_agree _
item_agrees m (Some (first ∷ parts)) = worded_agrees m (word_of first) parts

pub form_agrees : (m : Source) (f : Form) → Agrees (form_fault f) (form.parts_of m f)
unfolding form_fault form.parts_of
form_agrees m f = item_agrees m (node_of f)
