-- What is written for a run spells its tree.
use Rattle.std.proofs.Common.{◌≡◌, true, List, [], ◌∷◌, ◌++◌, map, Option, Some, None, refl, sym, ap, ◌∙◌, subst, append_assoc, append-nil}
use Rattle.std.specs.Prelude.{IfSome, codes, if◌then◌else◌}
use Rattle.json.specs.Json.{Items, item}
use Rattle.json.specs.Value.{items_of}
use Rattle.pst_case.specs.Matches.{matches}
use Rattle.pst_case.specs.Shape.{IsShaped}
use Rattle.pst_case.specs.declared.case.Case.{Case}
use Rattle.pst_case.specs.declared.case.Command.{Command}
use Rattle.pst_case.specs.declared.history.CallTime.{CallTime}
use Rattle.pst_case.specs.declared.history.History.{History}
use Rattle.pst_case.specs.declared.history.Reply.{Reply}
use Rattle.pst_case.specs.declared.history.Run.{Run}
use Rattle.pst_json_runs.proofs.CommandBack.{section_back, branches_back}
use Rattle.pst_json_runs.proofs.ReplyBack.{list_back, suffix_json, rest_back}
use Rattle.pst_json_runs.proofs.SpelledBack.{if_spelled_is}
use Rattle.pst_json_runs.proofs.TimesBack.{times_read, times_back, times_are_arrays}
use Rattle.pst_json_runs.specs.Spelled.{if_spelled}
use Rattle.pst_json_runs.specs.Trees as read
use Rattle.pst_json_runs.specs.Written as json
use Rattle.pst_model.specs.Language.{KeepsLanguage}
use Rattle.pst_model.specs.Operations.{HasOperations}
use Rattle.pst_model.specs.WellTyped.{WellModel}
use Rattle.pst_model.specs.declared.model.Source.{Source}
use Rattle.pst_runs.proofs.CaseAgain.{CaseAgain, case_again}
use Rattle.pst_runs.proofs.CommandAgain.{EachCommand}
use Rattle.pst_runs.proofs.ItemAgain.{written_lawful}
use Rattle.pst_runs.proofs.ReplyAgain.{parts_match}
use Rattle.pst_runs.specs.Lawful.{IsLawful}
use Rattle.pst_runs.specs.ReadAgain.{AreSmallTimes, HasSmallTimes}
use Rattle.pst_runs.specs.Written as tree
use Rattle.pst_sexpr.specs.Parts.{headed}
use Rattle.pst_sexpr.specs.declared.form.Form.{Form}

-- ---- the JSON has the form of an item

parts_are_arrays : (m : Source) (bs : List (List Command)) → read.are_arrays (items_of (map (json.part_json m) bs)) ≡ true
parts_are_arrays m [] = refl
parts_are_arrays m (b ∷ bs) = parts_are_arrays m bs

lists_are_arrays : (rss : List (List Reply)) (rs : List Reply) → read.are_arrays (items_of (map json.list_json rss ++ json.suffix_lists rs)) ≡ true
lists_are_arrays [] [] = refl
lists_are_arrays [] (r ∷ rs) = refl
lists_are_arrays (l ∷ rss) rs = lists_are_arrays rss rs

abbrev case_of : List Command → List (List Command) → List Command → Case
case_of p bs s = record { prefix = p; branches = bs; suffix = s }

-- a history with other times
abbrev with : History → Option (List (List CallTime)) → History
with h times = record { prefix = h.prefix; branches = h.branches; suffix = h.suffix; times = times }

is_run : (m : Source) (p : List Command) (bs : List (List Command)) (s : List Command) (h : History) (times : Option (List (List CallTime)))
    → read.is_item (json.item_json m (case_of p bs s) (Some (with h times))) ≡ true
is_run m p bs [] h None = rw (parts_are_arrays m bs, lists_are_arrays h.branches h.suffix) refl
is_run m p bs (d ∷ s) h None = rw (parts_are_arrays m bs, lists_are_arrays h.branches h.suffix) refl
is_run m p bs [] h (Some times) = rw (parts_are_arrays m bs, lists_are_arrays h.branches h.suffix, times_are_arrays times) refl
is_run m p bs (d ∷ s) h (Some times) = rw (parts_are_arrays m bs, lists_are_arrays h.branches h.suffix, times_are_arrays times) refl

is_item : (m : Source) (p : List Command) (bs : List (List Command)) (s : List Command) (h : Option History) → read.is_item (json.item_json m (case_of p bs s) h) ≡ true
is_item m p bs [] None = rw (parts_are_arrays m bs) refl
is_item m p bs (d ∷ s) None = rw (parts_are_arrays m bs) refl
is_item m p bs s (Some h) = is_run m p bs s h h.times

-- ---- its parts

abbrev branches_json : Source → List (List Command) → Items
branches_json m bs = items_of (map (json.part_json m) bs)

abbrev lists_json : History → Items
lists_json h = item (json.list_json h.prefix) (items_of (map json.list_json h.branches ++ json.suffix_lists h.suffix))

abbrev records_read : Source → List Command → List (List Command) → List Command → History → List Form
records_read m p bs s h =
    headed (codes "replies") (read.list_forms m (Some (json.part_json m p)) (branches_json m bs) (suffix_json m s) (lists_json h)) ∷ times_read h.times

run_is : (m : Source) (p : List Command) (bs : List (List Command)) (s : List Command) (h : History) (times : Option (List (List CallTime)))
    → read.whole_form m (json.item_json m (case_of p bs s) (Some (with h times)))
    ≡ headed (codes "run") (read.section m (codes "prefix") (Some (json.part_json m p)) ∷ read.branches_forms m (branches_json m bs) ++ (read.suffix_forms m (suffix_json m s) ++ records_read m p bs s (with h times)))
run_is m p bs [] h None = refl
run_is m p bs (d ∷ s) h None = refl
run_is m p bs [] h (Some times) = refl
run_is m p bs (d ∷ s) h (Some times) = refl

case_is : (m : Source) (p : List Command) (bs : List (List Command)) (s : List Command)
    → read.whole_form m (json.item_json m (case_of p bs s) None)
    ≡ headed (codes "case") (read.section m (codes "prefix") (Some (json.part_json m p)) ∷ read.branches_forms m (branches_json m bs) ++ (read.suffix_forms m (suffix_json m s) ++ []))
case_is m p bs [] = refl
case_is m p bs (d ∷ s) = refl

abbrev read_or : Form → Form
read_or form = if_spelled form read.nothing

module _ (m : Source) (model : WellModel m) (has : HasOperations m.items) (language : KeepsLanguage m) where
  suffix_back : (cs : List Command) → EachCommand m cs → read.suffix_forms m (suffix_json m cs) ≡ tree.suffix_forms m cs
  suffix_back [] a = refl
  suffix_back (c ∷ cs) a = ap (λ f. f ∷ []) (section_back m model has (codes "suffix") (c ∷ cs) a)

  -- the parts of a case, and what follows them
  parts_back : (c : Case) → CaseAgain m c → (more : List Form)
      → read.section m (codes "prefix") (Some (json.part_json m c.prefix)) ∷ read.branches_forms m (branches_json m c.branches) ++ (read.suffix_forms m (suffix_json m c.suffix) ++ more)
      ≡ tree.case_forms m c ++ more
  parts_back c a more =
      let bs = read.branches_forms m (branches_json m c.branches) in
      let s = read.suffix_forms m (suffix_json m c.suffix) in
      let p = tree.section_form m (codes "prefix") c.prefix in
      ap (λ f. f ∷ bs ++ (s ++ more)) (section_back m model has (codes "prefix") c.prefix a.prefix)
      ∙ ap (λ fs. p ∷ fs ++ (s ++ more)) (branches_back m model has c.branches a.branches)
      ∙ ap (λ fs. p ∷ tree.branches_forms m c.branches ++ (fs ++ more)) (suffix_back c.suffix a.suffix)
      ∙ ap (λ fs. p ∷ fs) (sym (append_assoc (tree.branches_forms m c.branches) (tree.suffix_forms m c.suffix) more))

  records_back : (c : Case) → CaseAgain m c → (h : History) → matches m c h ≡ true → IfSome h.times AreSmallTimes
      → records_read m c.prefix c.branches c.suffix h ≡ tree.replies_form h ∷ tree.times_forms h.times
  records_back c a h e s =
      let k = parts_match m model has language c h e in
      let rest = read.rest_forms m (branches_json m c.branches) (suffix_json m c.suffix) (items_of (map json.list_json h.branches ++ json.suffix_lists h.suffix)) in
      ap (λ f. headed (codes "replies") (f ∷ rest) ∷ times_read h.times) (list_back m model has language c.prefix h.prefix a.prefix k.prefix)
      ∙ ap (λ fs. headed (codes "replies") (tree.list_form h.prefix ∷ fs) ∷ times_read h.times) (rest_back m model has language c.branches h.branches c.suffix h.suffix a.branches k.branches a.suffix k.suffix)
      ∙ ap (λ fs. tree.replies_form h ∷ fs) (times_back h.times s)

  whole_back : (c : Case) → CaseAgain m c → (h : Option History) → IfSome h (λ h. matches m c h ≡ true) → IfSome h HasSmallTimes
      → read.whole_form m (json.item_json m c h) ≡ tree.item_form m c h
  whole_back c a None e s =
      case_is m c.prefix c.branches c.suffix
      ∙ ap (λ fs. headed (codes "case") fs) (parts_back c a [] ∙ append-nil (tree.case_forms m c))
  whole_back c a (Some h) e s =
      let before = λ (fs : List Form). headed (codes "run") (read.section m (codes "prefix") (Some (json.part_json m c.prefix))
      ∷ read.branches_forms m (branches_json m c.branches) ++ (read.suffix_forms m (suffix_json m c.suffix) ++ fs)) in
      run_is m c.prefix c.branches c.suffix h h.times
      ∙ ap before (records_back c a h e s)
      ∙ ap (λ fs. headed (codes "run") fs) (parts_back c a (tree.replies_form h ∷ tree.times_forms h.times))

  run_back : (run : Run) → IsLawful m run → IsShaped m run.shaped.case → IfSome run.history HasSmallTimes → read.item_form m (json.run_json m run) ≡ tree.run_form m run
  run_back run h s small =
      let c = run.shaped.case in
      let whole = read.whole_form m (json.run_json m run) in
      ap (λ b. if b then read_or whole else read.nothing) (is_item m c.prefix c.branches c.suffix run.history)
      ∙ ap read_or (whole_back c (case_again m model has language c s) run.history h.matching small)
      ∙ if_spelled_is (tree.run_form m run) read.nothing (written_lawful m model has language run h s small)

-- ---- what the types of the model, of the case and of the times keep

pub json_is_tree : (m n : Source) (run : Run) → n ≡ m → IsShaped run.shaped.model run.shaped.case → WellModel n → HasOperations n.items → KeepsLanguage n
    → IfSome run.history HasSmallTimes → IsLawful m run → read.item_form m (json.run_json m run) ≡ tree.run_form m run
json_is_tree m n run same shape model has language small h =
    let P : Source → Type 0 = λ m. HasOperations m.items in
    run_back m (subst WellModel same model) (subst P same has) (subst KeepsLanguage same language) run h (subst (λ m. IsShaped m run.shaped.case) h.model shape) small
