-- A shaped case is read again from what is written for it.
use Rattle.std.proofs.Common.{◌≡◌, ℕ, ◌+◌, ◌≤◌, ◌&&◌, ◌||◌, not, nat_le, Bool, true, false, length, List, [], ◌∷◌, ◌++◌, map, Option, Some, None, refl, sym, ap, ◌∙◌, subst, append_assoc, arith}
use Rattle.std.specs.Prelude.{codes, if◌then◌else◌}
use Rattle.std.specs.List.{list_all}
use Rattle.std.specs.Str.{bytes_eq}
use Rattle.std.proofs.lemmas.List.{length-append, length-map, append-nil}
use Rattle.pst_case.specs.Shape.{IsShaped, shape_fault, over_limit, before_suffix, commands_fault, part_fault, branches_fault, result_type, result_types, commands_of, joined, or_else}
use Rattle.pst_case.specs.declared.case.Case.{Case}
use Rattle.pst_case.specs.declared.case.Command.{Command}
use Rattle.pst_model.specs.Language.{KeepsLanguage}
use Rattle.pst_model.specs.Operations.{HasOperations}
use Rattle.pst_model.specs.declared.model.Source.{Source}
use Rattle.pst_model.specs.WellTyped.{WellModel}
use Rattle.pst_runs.proofs.Last.{last_behind}
use Rattle.pst_runs.proofs.Limits.{not_over, shaped-within}
use Rattle.pst_runs.specs.Commands as commands
use Rattle.pst_runs.specs.Forms as reading
use Rattle.pst_runs.specs.declared.commands.SpelledCommand.{SpelledCommand}
use Rattle.pst_runs.specs.declared.commands.SpelledCase.{SpelledCase}
use Rattle.pst_runs.specs.Values.{each}
use Rattle.pst_sexpr.specs.Parts.{and_then, headed}
use Rattle.pst_sexpr.specs.Bytes.{is_word_byte}
use Rattle.pst_sexpr.specs.declared.form.Form.TheVariants.{Word}
use Rattle.pst_sexpr.specs.declared.form.Form.{Form}
use Rattle.pst_runs.proofs.CommandAgain.{whole_part, node_is, word_is, none_either, EachCommand, EachBranch, part_again, branches_again, part_read, branches_read, branches_sized}
use Rattle.pst_runs.proofs.Sized.{Sized, AllSized, wider, none_sized, more_sized, last_sized, headed_sized}
use Rattle.pst_runs.specs.Written.{section_form, command_form, branch_form, branches_forms, suffix_forms, case_forms}

-- ---- the limits of a case

no_command_fault : (m : Source) (c : Case) → IsShaped m c → commands_fault m c ≡ None
unfolding shape_fault
no_command_fault m c h = let s = not_over m c h in rw s at h

fourth_limit : (a b c d e : Bool) → (not a || not b || not c || not d || not e) ≡ false → d ≡ true
fourth_limit true true true true e h = refl
fourth_limit true true true false e h = absurd (cc)
fourth_limit true true false d e h = absurd (cc)
fourth_limit true false c d e h = absurd (cc)
fourth_limit false b c d e h = absurd (cc)

counted : (c : Case) → over_limit c ≡ false → (nat_le 2 (length c.branches) && nat_le (length c.branches) 4) ≡ true
counted c h =
    fourth_limit (nat_le (length c.prefix) 64) (list_all (λ b. nat_le (length b) 8) c.branches)
    (nat_le (length (joined c.branches)) 16) _ (nat_le (length c.suffix) 8) h

few_results : (m : Source) (c : Case) → IsShaped m c → length (result_types m c) ≤ 88
few_results m c h =
    let w = shaped-within m c h in
    omega (
      arith,
      length-map (commands_of c) (result_type m),
      length-append (c.prefix ++ joined c.branches) c.suffix,
      length-append c.prefix (joined c.branches),
      length-append c.prefix (joined c.branches ++ c.suffix),
      length-append (joined c.branches) c.suffix,
    )

-- the commands of a case, each read again
pub record CaseAgain (m : Source) (c : Case) : Type 0 where
  pub prefix : EachCommand m c.prefix
  pub branches : EachBranch m c.branches
  pub suffix : EachCommand m c.suffix
  pub count : (nat_le 2 (length c.branches) && nat_le (length c.branches) 4) ≡ true

pub case_again : (m : Source) → WellModel m → HasOperations m.items → KeepsLanguage m → (c : Case) → IsShaped m c → CaseAgain m c
case_again m model has language c h =
    let vars = result_types m c in
    let few = few_results m c h in
    let n = length c.prefix in
    let prefix = part_fault m vars n 0 1 c.prefix in
    let branches = branches_fault m vars n n c.branches in
    let suffix = part_fault m vars n 0 (before_suffix c + 1) c.suffix in
    let p = none_either prefix (or_else branches suffix) (no_command_fault m c h) in
    let q = none_either branches suffix p.1 in
    record {
      prefix = part_again m model has language vars n 0 1 c.prefix few p.0;
      branches = branches_again m model has language vars n n c.branches few q.0;
      suffix = part_again m model has language vars n 0 (before_suffix c + 1) c.suffix few q.1;
      count = counted c (not_over m c h);
    }

-- ---- a case that is spelled whole

abbrev pub whole_case : Case → SpelledCase
whole_case c = record { prefix = whole_part c.prefix; branches = map whole_part c.branches; suffix = whole_part c.suffix }

-- ---- sections

pub section_read : (name : List ℕ) (forms : List Form) → bytes_eq name name ≡ true → reading.section name (headed name forms) ≡ Some forms
section_read name forms e =
    ap (λ o. and_then o (reading.section_in name)) (node_is (Word name ∷ forms))
    ∙ ap (λ o. and_then o (λ word. if bytes_eq word name then Some forms else None)) (word_is name)
    ∙ ap (λ b. if b then Some forms else None) e

-- another section
section_other : (name other : List ℕ) (forms : List Form) → bytes_eq other name ≡ false → reading.section name (headed other forms) ≡ None
section_other name other forms e =
    ap (λ o. and_then o (reading.section_in name)) (node_is (Word other ∷ forms))
    ∙ ap (λ o. and_then o (λ word. if bytes_eq word name then Some forms else None)) (word_is other)
    ∙ ap (λ b. if b then Some forms else None) e

module _ (m : Source) where
  commands_read : (name : List ℕ) (cs : List Command) → bytes_eq name name ≡ true → EachCommand m cs → reading.section_commands m name (section_form m name cs) ≡ Some (whole_part cs)
  commands_read name cs e h = ap (λ o. and_then o (commands.commands_of m)) (section_read name (map (command_form m) cs) e) ∙ (part_read m cs h).reads

  -- ---- the branches

  two_read : (l r : List Command) → EachCommand m l → EachCommand m r
      → reading.two_branches m (section_form m (codes "left") l) (section_form m (codes "right") r) ≡ Some (whole_part l ∷ whole_part r ∷ [])
  two_read l r hl hr =
      let right = reading.section_commands m (codes "right") (section_form m (codes "right") r) in
      ap (λ o. and_then o (λ l. and_then right (λ r. Some (l ∷ r ∷ [])))) (commands_read (codes "left") l refl hl)
      ∙ ap (λ o. and_then o (λ r. Some (whole_part l ∷ r ∷ []))) (commands_read (codes "right") r refl hr)

  many_read : (bs : List (List Command)) → EachBranch m bs → (nat_le 2 (length bs) && nat_le (length bs) 4) ≡ true
      → reading.many_branches m (headed (codes "branches") (map (branch_form m) bs)) ≡ Some (map whole_part bs)
  many_read bs hbs n =
      let forms = map (branch_form m) bs in
      let all = each (reading.branch_of m) forms in
      ap (λ o. and_then o (reading.each_branch m)) (section_read (codes "branches") forms refl)
      ∙ ap (λ n. if nat_le 2 n && nat_le n 4 then all else None) (length-map bs (branch_form m))
      ∙ ap (λ b. if b then all else None) n
      ∙ branches_read m bs hbs

  branches_again_read : (bs : List (List Command)) → EachBranch m bs → (nat_le 2 (length bs) && nat_le (length bs) 4) ≡ true
      → reading.branches_of m (branches_forms m bs) ≡ Some (map whole_part bs)
  branches_again_read [] hbs n = absurd (cc)
  branches_again_read (b ∷ []) hbs n = absurd (cc)
  branches_again_read (l ∷ r ∷ []) hbs n = two_read l r hbs.0 hbs.1.0
  branches_again_read (l ∷ r ∷ b ∷ bs) hbs n = many_read (l ∷ r ∷ b ∷ bs) hbs n

  -- ---- the sections of a case

  abbrev pub suffix_trees : List Command → Option (List Form)
  suffix_trees [] = None
  suffix_trees (c ∷ cs) = Some (map (command_form m) (c ∷ cs))

  abbrev front : Case → List Form
  front c = section_form m (codes "prefix") c.prefix ∷ branches_forms m c.branches

  abbrev pub sections : Case → reading.Sections
  sections c = record { front = front c; suffix = suffix_trees c.suffix }

  -- the last of the branches' trees is no suffix
  no_suffix : (p : Form) (bs : List (List Command)) → reading.sections_of (p ∷ branches_forms m bs) ≡ record { front = p ∷ branches_forms m bs; suffix = None }
  no_suffix p [] = let f = map (branch_form m) [] in
      ap (reading.cut (p ∷ headed (codes "branches") f ∷ []) (p ∷ [])) (section_other (codes "suffix") (codes "branches") f refl)
  no_suffix p (b ∷ []) = let f = map (branch_form m) (b ∷ []) in
      ap (reading.cut (p ∷ headed (codes "branches") f ∷ []) (p ∷ [])) (section_other (codes "suffix") (codes "branches") f refl)
  no_suffix p (l ∷ r ∷ []) =
      let left = section_form m (codes "left") l in
      let f = map (command_form m) r in
      ap (reading.cut (p ∷ left ∷ headed (codes "right") f ∷ []) (p ∷ left ∷ [])) (section_other (codes "suffix") (codes "right") f refl)
  no_suffix p (l ∷ r ∷ b ∷ bs) = let f = map (branch_form m) (l ∷ r ∷ b ∷ bs) in
      ap (reading.cut (p ∷ headed (codes "branches") f ∷ []) (p ∷ [])) (section_other (codes "suffix") (codes "branches") f refl)

  sections_in : (front : List Form) (suffix : List Command) → reading.sections_of front ≡ record { front = front; suffix = None }
      → reading.sections_of (front ++ suffix_forms m suffix) ≡ record { front = front; suffix = suffix_trees suffix }
  sections_in front [] h = ap reading.sections_of (append-nil front) ∙ h
  sections_in front (c ∷ cs) h =
      let forms = map (command_form m) (c ∷ cs) in
      let last = section_form m (codes "suffix") (c ∷ cs) in
      let whole = front ++ last ∷ [] in
      ap (reading.cut_at whole) (last_behind front last)
      ∙ ap (reading.cut whole front) (section_read (codes "suffix") forms refl)

  pub sections_read : (c : Case) → reading.sections_of (case_forms m c) ≡ sections c
  sections_read c = sections_in (front c) c.suffix (no_suffix (section_form m (codes "prefix") c.prefix) c.branches)

  suffix_read : (cs : List Command) → EachCommand m cs → reading.suffix_of m (suffix_trees cs) ≡ Some (whole_part cs)
  suffix_read [] h = refl
  suffix_read (c ∷ cs) h = (part_read m (c ∷ cs) h).reads

  pub case_is : (c : Case) → CaseAgain m c → reading.case_of m (sections c) ≡ Some (whole_case c)
  case_is c a =
      let case : List SpelledCommand → List (List SpelledCommand) → List SpelledCommand → Option SpelledCase = λ p bs s. Some (record { prefix = p; branches = bs; suffix = s }) in
      let branches = reading.branches_of m (branches_forms m c.branches) in
      let suffix = reading.suffix_of m (suffix_trees c.suffix) in
      ap (λ o. and_then o (λ p. and_then branches (λ bs. and_then suffix (case p bs)))) (commands_read (codes "prefix") c.prefix refl a.prefix)
      ∙ ap (λ o. and_then o (λ bs. and_then suffix (case (whole_part c.prefix) bs))) (branches_again_read c.branches a.branches a.count)
      ∙ ap (λ o. and_then o (case (whole_part c.prefix) (map whole_part c.branches))) (suffix_read c.suffix a.suffix)

  -- a case without replies
  pub case_read : (c : Case) → CaseAgain m c → reading.case_parts m (case_forms m c) ≡ reading.without_replies (whole_case c)
  case_read c a =
      ap (λ s. and_then (reading.case_of m s) reading.without_replies) (sections_read c)
      ∙ ap (λ o. and_then o reading.without_replies) (case_is c a)

  -- a case with replies
  replied_read : (c : Case) (times : Option (List Form)) (replies : Form) → CaseAgain m c
      → reading.replied_parts m times (case_forms m c ++ replies ∷ []) ≡ reading.with_replies replies times (sections c) (whole_case c)
  replied_read c times replies a =
      ap (λ o. and_then o (λ p. reading.run_sections m p.1 times (reading.sections_of p.0))) (last_behind (case_forms m c) replies)
      ∙ ap (reading.run_sections m replies times) (sections_read c)
      ∙ ap (λ o. and_then o (reading.with_replies replies times (sections c))) (case_is c a)

  pub run_read : (c : Case) (lists : List Form) → CaseAgain m c → let replies = headed (codes "replies") lists in
      reading.run_parts m (case_forms m c ++ replies ∷ []) ≡ reading.with_replies replies None (sections c) (whole_case c)
  run_read c lists a =
      let replies = headed (codes "replies") lists in
      let forms = case_forms m c ++ replies ∷ [] in
      ap (λ o. and_then o (λ p. reading.run_ending m forms p.0 (reading.section (codes "times") p.1))) (last_behind (case_forms m c) replies)
      ∙ ap (reading.run_ending m forms (case_forms m c)) (section_other (codes "times") (codes "replies") lists refl)
      ∙ replied_read c None replies a

  -- a case with replies and times
  pub timed_read : (c : Case) (replies : Form) (times : List Form) → CaseAgain m c
      → reading.run_parts m (case_forms m c ++ replies ∷ headed (codes "times") times ∷ []) ≡ reading.with_replies replies (Some times) (sections c) (whole_case c)
  timed_read c replies times a =
      let last = headed (codes "times") times in
      let front = case_forms m c ++ replies ∷ [] in
      let forms = front ++ last ∷ [] in
      ap (reading.run_parts m) (sym (append_assoc (case_forms m c) (replies ∷ []) (last ∷ [])))
      ∙ ap (λ o. and_then o (λ p. reading.run_ending m forms p.0 (reading.section (codes "times") p.1))) (last_behind front last)
      ∙ ap (reading.run_ending m forms front) (section_read (codes "times") times refl)
      ∙ replied_read c (Some times) replies a

  -- ---- sizes

  section_sized : (byte : ℕ) (bytes : List ℕ) (cs : List Command) → list_all is_word_byte (byte ∷ bytes) ≡ true → EachCommand m cs → Sized 35 (section_form m (byte ∷ bytes) cs)
  section_sized byte bytes cs e h = wider 35 (headed_sized byte bytes e (part_read m cs h).sized (omega arith)) (omega arith)

  many_sized : (bs : List (List Command)) → EachBranch m bs → AllSized 35 (headed (codes "branches") (map (branch_form m) bs) ∷ [])
  unfolding is_word_byte
  many_sized bs h = more_sized (headed_sized _ _ refl (branches_sized m bs h) (omega arith)) (none_sized 35)

  parts_sized : (bs : List (List Command)) → EachBranch m bs → AllSized 35 (branches_forms m bs)
  unfolding is_word_byte
  parts_sized [] h = many_sized [] h
  parts_sized (b ∷ []) h = many_sized (b ∷ []) h
  parts_sized (l ∷ r ∷ []) h = more_sized (section_sized _ _ l refl h.0) (more_sized (section_sized _ _ r refl h.1.0) (none_sized 35))
  parts_sized (l ∷ r ∷ b ∷ bs) h = many_sized (l ∷ r ∷ b ∷ bs) h

  with_suffix_sized : (forms : List Form) (cs : List Command) → AllSized 35 forms → EachCommand m cs → AllSized 35 (forms ++ suffix_forms m cs)
  unfolding is_word_byte
  with_suffix_sized forms [] all h = subst (AllSized 35) (sym (append-nil forms)) all
  with_suffix_sized forms (c ∷ cs) all h = last_sized forms all (section_sized _ _ (c ∷ cs) refl h)

  pub case_sized : (c : Case) → CaseAgain m c → AllSized 35 (case_forms m c)
  unfolding is_word_byte
  case_sized c a =
      with_suffix_sized (front c) c.suffix
      (more_sized (section_sized _ _ c.prefix refl a.prefix) (parts_sized c.branches a.branches)) a.suffix
