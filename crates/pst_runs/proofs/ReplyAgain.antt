-- A history that matches a shaped case is read again from what is written for it.
use Rattle.std.proofs.Common.{◌≡◌, ℕ, ◌+◌, ◌*◌, ◌≤◌, ◌&&◌, ◌==◌, true, length, List, [], ◌∷◌, ◌++◌, map, Option, Some, None, Ok, refl, sym, ap, ◌∙◌, eq-eqb, arith}
use Rattle.std.specs.Prelude.{codes, if◌then◌else◌}
use Rattle.std.specs.List.{list_all}
use Rattle.std.proofs.lemmas.List.{length-map}
use Rattle.pst_case.proofs.Callless.{holds_ref_or_call-call}
use Rattle.pst_case.specs.Matches.{reply_fits, part_matches, branches_match, matches}
use Rattle.pst_case.specs.Shape.{before_suffix, result_type, type_in}
use Rattle.pst_case.specs.declared.case.Case.{Case}
use Rattle.pst_case.specs.declared.case.Command.{Command}
use Rattle.pst_case.specs.declared.history.History.{History}
use Rattle.pst_case.specs.declared.history.Reply.TheVariants as reply
use Rattle.pst_case.specs.declared.history.Reply.{Reply}
use Rattle.pst_model.proofs.Operations.{well_operation}
use Rattle.pst_model.specs.Fitting.{fits_in}
use Rattle.pst_model.specs.Language.{KeepsLanguage}
use Rattle.pst_model.specs.Levels as ty_levels
use Rattle.pst_model.specs.Operations.{HasOperations}
use Rattle.pst_model.specs.Parts.{parameters_of}
use Rattle.pst_model.specs.declared.model.Source.{Source}
use Rattle.pst_model.specs.WellTyped.{WellModel}
use Rattle.pst_runs.specs.Forms.{Parts, is_node, number_of_parts, are_reply_lists, are_time_lists, with_replies}
use Rattle.pst_runs.specs.Replies.{◌>>=◌, then_more, or_number, listed, listed_in, listed_at, answered, reply_word, or_value, reply_of, part_replies, branch_replies, history_of, branches_count, are_counted}
use Rattle.pst_runs.specs.Values.{value_of, in_replies}
use Rattle.pst_sexpr.specs.Parts.{and_then, node_of}
use Rattle.pst_sexpr.specs.Bytes.{is_word_byte}
use Rattle.pst_sexpr.specs.Reading.{max_levels}
use Rattle.pst_sexpr.specs.declared.form.Form.TheVariants.{Word}
use Rattle.pst_sexpr.specs.declared.form.Form.{Form}
use Rattle.pst_value.specs.Fits.{fits}
use Rattle.pst_value.specs.declared.value.Value.{Value}
use Rattle.pst_runs.proofs.CaseAgain.{CaseAgain, whole_case, section_read, sections, suffix_trees}
use Rattle.pst_runs.proofs.CommandAgain.{whole_part, node_is, word_is, room_is, CommandAgain, EachCommand, EachBranch}
use Rattle.pst_sexpr.proofs.Numbers.{both_hold, both_from}
use Rattle.pst_runs.proofs.Sized.{Sized, AllSized, wider, none_sized, more_sized, letters_sized, node_sized, headed_sized}
use Rattle.pst_runs.proofs.ValueAgain.{FormAgain, reply_again}
use Rattle.pst_runs.specs.Written.{value_form, reply_form, list_form, suffix_lists, replies_form}

-- the trees of the lists
abbrev pub lists_of : History → List Form
lists_of h = list_form h.prefix ∷ map list_form h.branches ++ suffix_lists h.suffix

listed_is : (replies : List Reply) → listed (list_form replies) ≡ map reply_form replies
listed_is replies = ap listed_in (node_is (map reply_form replies))

-- ---- one reply

-- the tree of a reply has a spelling, and is read as the reply to the command
record ReplyAgain (m : Source) (c : Command) (r : Reply) : Type 0 where
  sized : Sized 32 (reply_form r)
  reads : reply_of m c (reply_form r) ≡ Some r

abbrev answer : Source → Command → Option Value → Option Reply
answer m c o = and_then o (λ v. Some (answered m c v))

module _ (m : Source) (model : WellModel m) (has : HasOperations m.items) (language : KeepsLanguage m) where
  value_read : (c : Command) (v : Value) (depth : ℕ) → depth ≤ 32 → FormAgain (in_replies m) depth v (value_form v) → fits_in m [] [] v (result_type m c) ≡ true → ReplyAgain m c (reply.Value v)
  unfolding reply_of
  value_read c v depth low a e =
      record {
        sized = wider 32 a.sized low;
        reads =
            ap (λ o. or_value o (answer m c (value_of (in_replies m) (value_form v)))) a.other
            ∙ ap (answer m c) (a.reads max_levels (omega arith))
            ∙ ap (λ b. Some (if b then reply.Value v else reply.Misfit)) e;
      }

  reply_read : (c : Command) (r : Reply) → CommandAgain m c → reply_fits m c r ≡ true → ReplyAgain m c r
  unfolding reply_of is_word_byte
  reply_read c (reply.Value v) a e =
      let o = a.operation in
      let low = room_is o.result (has c.op o a.known).result in
      let call = holds_ref_or_call-call o.result (well_operation m c.op o model a.known).result in
      let fit : fits [] [] (parameters_of m.items) v o.result ≡ true = ap (λ q. fits_in m [] [] v (type_in q)) (sym a.known) ∙ e in
      value_read c v (2 * ty_levels.levels o.result) (omega arith) (reply_again (parameters_of m.items) (in_replies m) v o.result (omega arith) call (λ e. (language e c.op o a.known).result) fit) e
  reply_read c reply.Misfit a e = record {
    sized = letters_sized 32 _ _ refl;
    reads = ap (λ o. or_value (reply_word o) (answer m c (value_of (in_replies m) (Word (codes "misfit"))))) (word_is (codes "misfit"));
  }
  reply_read c reply.Failed a e = record {
    sized = letters_sized 32 _ _ refl;
    reads = ap (λ o. or_value (reply_word o) (answer m c (value_of (in_replies m) (Word (codes "failed"))))) (word_is (codes "failed"));
  }
  reply_read c reply.NotRun a e = record {
    sized = letters_sized 32 _ _ refl;
    reads = ap (λ o. or_value (reply_word o) (answer m c (value_of (in_replies m) (Word (codes "not-run"))))) (word_is (codes "not-run"));
  }
  reply_read c reply.Unknown a e = record {
    sized = letters_sized 32 _ _ refl;
    reads = ap (λ o. or_value (reply_word o) (answer m c (value_of (in_replies m) (Word (codes "unknown"))))) (word_is (codes "unknown"));
  }

  -- ---- the replies of a part

  part_sized : (cs : List Command) (rs : List Reply) → EachCommand m cs → part_matches m cs rs ≡ true → AllSized 32 (map reply_form rs)
  part_sized [] [] h e = none_sized 32
  part_sized [] (r ∷ rs) h e = absurd (cc)
  part_sized (c ∷ cs) [] h e = absurd (cc)
  part_sized (c ∷ cs) (r ∷ rs) h e =
      let p = both_hold (reply_fits m c r) (part_matches m cs rs) e in
      more_sized (reply_read c r h.0 p.0).sized (part_sized cs rs h.1 p.1)

  list_sized : (cs : List Command) (rs : List Reply) → EachCommand m cs → part_matches m cs rs ≡ true → Sized 33 (list_form rs)
  list_sized cs rs h e = node_sized (part_sized cs rs h e) (omega arith)

  part_count : (cs : List Command) (rs : List Reply) → part_matches m cs rs ≡ true → length rs ≡ length cs
  part_count [] [] e = refl
  part_count [] (r ∷ rs) e = absurd (cc)
  part_count (c ∷ cs) [] e = absurd (cc)
  part_count (c ∷ cs) (r ∷ rs) e =
      let p = both_hold (reply_fits m c r) (part_matches m cs rs) e in
      let n = part_count cs rs p.1 in
      omega arith

  forms_count : (cs : List Command) (rs : List Reply) → part_matches m cs rs ≡ true → (length (map reply_form rs) == length cs) ≡ true
  forms_count cs rs e = eq-eqb _ _ (length-map rs reply_form ∙ part_count cs rs e)

  list_count : (cs : List Command) (rs : List Reply) → part_matches m cs rs ≡ true → (length (listed (list_form rs)) == length cs) ≡ true
  list_count cs rs e = ap (λ forms. length forms == length cs) (listed_is rs) ∙ forms_count cs rs e

  part_again : (cs : List Command) (rs : List Reply) (number : ℕ) → EachCommand m cs → part_matches m cs rs ≡ true
      → part_replies m number cs (map reply_form rs) ≡ Ok rs
  part_again [] [] number h e = refl
  part_again [] (r ∷ rs) number h e = absurd (cc)
  part_again (c ∷ cs) [] number h e = absurd (cc)
  part_again (c ∷ cs) (r ∷ rs) number h e =
      let p = both_hold (reply_fits m c r) (part_matches m cs rs) e in
      ap (λ o. or_number number o >>= (λ r. then_more r (part_replies m (number + 1) cs (map reply_form rs)))) (reply_read c r h.0 p.0).reads
      ∙ ap (then_more r) (part_again cs rs (number + 1) h.1 p.1)

  list_again : (cs : List Command) (rs : List Reply) (number : ℕ) → EachCommand m cs → part_matches m cs rs ≡ true
      → part_replies m number cs (listed (list_form rs)) ≡ Ok rs
  list_again cs rs number h e = ap (part_replies m number cs) (listed_is rs) ∙ part_again cs rs number h e

  -- ---- the replies of branches, before those of the suffix

  lists_sized : (bs : List (List Command)) (rss : List (List Reply)) (rest : List Form) → EachBranch m bs → branches_match m bs rss ≡ true
      → AllSized 33 rest → AllSized 33 (map list_form rss ++ rest)
  lists_sized [] [] rest h e more = more
  lists_sized [] (rs ∷ rss) rest h e more = absurd (cc)
  lists_sized (b ∷ bs) [] rest h e more = absurd (cc)
  lists_sized (b ∷ bs) (rs ∷ rss) rest h e more =
      let p = both_hold (part_matches m b rs) (branches_match m bs rss) e in
      more_sized (list_sized b rs h.0 p.0) (lists_sized bs rss rest h.1 p.1 more)

  lists_length : (bs : List (List Command)) (rss : List (List Reply)) (rest : List Form) → branches_match m bs rss ≡ true
      → length (map list_form rss ++ rest) ≡ length bs + length rest
  lists_length [] [] rest e = omega arith
  lists_length [] (rs ∷ rss) rest e = absurd (cc)
  lists_length (b ∷ bs) [] rest e = absurd (cc)
  lists_length (b ∷ bs) (rs ∷ rss) rest e =
      let p = both_hold (part_matches m b rs) (branches_match m bs rss) e in
      let n = lists_length bs rss rest p.1 in
      omega arith

  lists_count : (bs : List (List Command)) (rss : List (List Reply)) (rest : List Form) → branches_match m bs rss ≡ true
      → branches_count bs (map list_form rss ++ rest) ≡ true
  lists_count [] [] rest e = refl
  lists_count [] (rs ∷ rss) rest e = absurd (cc)
  lists_count (b ∷ bs) [] rest e = absurd (cc)
  lists_count (b ∷ bs) (rs ∷ rss) rest e =
      let p = both_hold (part_matches m b rs) (branches_match m bs rss) e in
      both_from _ _ (list_count b rs p.0) (lists_count bs rss rest p.1)

  lists_again : (bs : List (List Command)) (rss : List (List Reply)) (rest : List Form) (before : ℕ) → EachBranch m bs → branches_match m bs rss ≡ true
      → branch_replies m before bs (map list_form rss ++ rest) ≡ Ok rss
  lists_again [] [] rest before h e = refl
  lists_again [] (rs ∷ rss) rest before h e = absurd (cc)
  lists_again (b ∷ bs) [] rest before h e = absurd (cc)
  lists_again (b ∷ bs) (rs ∷ rss) rest before h e =
      let p = both_hold (part_matches m b rs) (branches_match m bs rss) e in
      let more = branch_replies m (before + length b) bs (map list_form rss ++ rest) in
      ap (λ r. r >>= (λ rs. then_more rs more)) (list_again b rs (before + 1) h.0 p.0)
      ∙ ap (then_more rs) (lists_again bs rss rest (before + length b) h.1 p.1)

  -- the list behind those of the branches
  list_behind : (bs : List (List Command)) (rss : List (List Reply)) (rest : List Form) → branches_match m bs rss ≡ true
      → listed_at (map list_form rss ++ rest) (length bs) ≡ listed_at rest 0
  list_behind [] [] rest e = refl
  list_behind [] (rs ∷ rss) rest e = absurd (cc)
  list_behind (b ∷ bs) [] rest e = absurd (cc)
  list_behind (b ∷ bs) (rs ∷ rss) rest e =
      list_behind bs rss rest (both_hold (part_matches m b rs) (branches_match m bs rss) e).1

  suffix_listed : (rs : List Reply) → listed_at (suffix_lists rs) 0 ≡ map reply_form rs
  suffix_listed [] = refl
  suffix_listed (r ∷ rs) = listed_is (r ∷ rs)

  -- ---- the history

  -- its parts match those of the case
  pub record PartsMatch (c : Case) (h : History) : Type 0 where
    pub prefix : part_matches m c.prefix h.prefix ≡ true
    pub branches : branches_match m c.branches h.branches ≡ true
    pub suffix : part_matches m c.suffix h.suffix ≡ true

  pub parts_match : (c : Case) (h : History) → matches m c h ≡ true → PartsMatch c h
  unfolding matches
  parts_match c h e =
      let p = both_hold (part_matches m c.prefix h.prefix && branches_match m c.branches h.branches) (part_matches m c.suffix h.suffix) e in
      let q = both_hold (part_matches m c.prefix h.prefix) (branches_match m c.branches h.branches) p.0 in
      record { prefix = q.0; branches = q.1; suffix = p.1 }

  abbrev AreNodes : List Form → Type 0
  AreNodes lists = list_all (λ list. is_node (node_of list)) lists ≡ true

  all_nodes : (rss : List (List Reply)) (rest : List Form) → AreNodes rest → AreNodes (map list_form rss ++ rest)
  all_nodes [] rest h = h
  all_nodes (rs ∷ rss) rest h = both_from _ _ (ap is_node (node_is (map reply_form rs))) (all_nodes rss rest h)

  suffix_nodes : (rs : List Reply) → AreNodes (suffix_lists rs)
  suffix_nodes [] = refl
  suffix_nodes (r ∷ rs) = both_from _ _ (ap is_node (node_is (map reply_form (r ∷ rs)))) refl

  suffix_sized : (cs : List Command) (rs : List Reply) → EachCommand m cs → part_matches m cs rs ≡ true → AllSized 33 (suffix_lists rs)
  suffix_sized cs [] h e = none_sized 33
  suffix_sized cs (r ∷ rs) h e = more_sized (list_sized cs (r ∷ rs) h e) (none_sized 33)

  pub history_sized : (c : Case) (h : History) → CaseAgain m c → matches m c h ≡ true → Sized 34 (replies_form h)
  unfolding is_word_byte
  history_sized c h a e =
      let p = parts_match c h e in
      let suffix = suffix_sized c.suffix h.suffix a.suffix p.suffix in
      let lists = lists_sized c.branches h.branches (suffix_lists h.suffix) a.branches p.branches suffix in
      headed_sized _ _ refl (more_sized (list_sized c.prefix h.prefix a.prefix p.prefix) lists) (omega arith)

  abbrev parts : Case → List Form → Option (List Form) → Parts
  parts c replies times = record { read = whole_case c; replies = Some replies; times = times }

  number_is : (c : Case) (cs : List Command) (rs : List Reply) → part_matches m cs rs ≡ true
      → length c.branches + length (suffix_lists rs) + 1 ≡ number_of_parts (suffix_trees m cs) (whole_case c)
  number_is c [] [] e = let n = length-map c.branches whole_part in omega arith
  number_is c [] (r ∷ rs) e = absurd (cc)
  number_is c (d ∷ cs) [] e = absurd (cc)
  number_is c (d ∷ cs) (r ∷ rs) e = let n = length-map c.branches whole_part in omega arith

  -- there is a list for each part
  pub lists_read : (c : Case) (h : History) (times : Option (List Form)) → matches m c h ≡ true → are_time_lists times (whole_case c) ≡ true
      → with_replies (replies_form h) times (sections m c) (whole_case c) ≡ Some (parts c (lists_of h) times)
  lists_read c h times e t =
      let p = parts_match c h e in
      let lists = lists_of h in
      let number = number_of_parts (suffix_trees m c.suffix) (whole_case c) in
      let k = lists_length c.branches h.branches (suffix_lists h.suffix) p.branches in
      let l = number_is c c.suffix h.suffix p.suffix in
      let n : length lists ≡ number = omega arith in
      let nodes : AreNodes lists =
      both_from _ _ (ap is_node (node_is (map reply_form h.prefix))) (all_nodes h.branches (suffix_lists h.suffix) (suffix_nodes h.suffix)) in
      ap (λ o. and_then o (λ lists. if are_reply_lists lists (sections m c) (whole_case c) && are_time_lists times (whole_case c) then Some (parts c lists times) else None))
      (section_read (codes "replies") lists refl)
      ∙ ap (λ b. if b then Some (parts c lists times) else None) (both_from _ _ (both_from _ _ (eq-eqb _ _ n) nodes) t)

  -- as many branches
  pub branches_number : (bs : List (List Command)) (rss : List (List Reply)) → branches_match m bs rss ≡ true → length rss ≡ length bs
  branches_number [] [] e = refl
  branches_number [] (rs ∷ rss) e = absurd (cc)
  branches_number (b ∷ bs) [] e = absurd (cc)
  branches_number (b ∷ bs) (rs ∷ rss) e =
      let n = branches_number bs rss (both_hold (part_matches m b rs) (branches_match m bs rss) e).1 in
      omega arith

  -- the list of the suffix
  last_listed : (c : Case) (h : History) → branches_match m c.branches h.branches ≡ true
      → listed_at (map list_form h.branches ++ suffix_lists h.suffix) (length c.branches) ≡ map reply_form h.suffix
  last_listed c h e = list_behind c.branches h.branches (suffix_lists h.suffix) e ∙ suffix_listed h.suffix

  pub history_counted : (c : Case) (h : History) → matches m c h ≡ true → are_counted c (lists_of h) ≡ true
  history_counted c h e =
      let p = parts_match c h e in
      let front = both_from _ _ (list_count c.prefix h.prefix p.prefix) (lists_count c.branches h.branches (suffix_lists h.suffix) p.branches) in
      let last = ap (λ forms. length forms == length c.suffix) (last_listed c h p.branches) ∙ forms_count c.suffix h.suffix p.suffix in
      both_from _ _ front last

  abbrev pub untimed : History → History
  untimed h = record { prefix = h.prefix; branches = h.branches; suffix = h.suffix; times = None }

  pub history_read : (c : Case) (h : History) → CaseAgain m c → matches m c h ≡ true → history_of m c (lists_of h) ≡ Ok (untimed h)
  history_read c h a e =
      let history : List Reply → List (List Reply) → List Reply → History = λ p bs s. record { prefix = p; branches = bs; suffix = s; times = None } in
      let p = parts_match c h e in
      let rest = map list_form h.branches ++ suffix_lists h.suffix in
      let branches = branch_replies m (length c.prefix) c.branches rest in
      let suffix = part_replies m (before_suffix c + 1) c.suffix (listed_at rest (length c.branches)) in
      ap (λ r. r >>= (λ p. branches >>= (λ bs. suffix >>= (λ s. Ok (history p bs s))))) (list_again c.prefix h.prefix 1 a.prefix p.prefix)
      ∙ ap (λ r. r >>= (λ bs. suffix >>= (λ s. Ok (history h.prefix bs s))))
      (lists_again c.branches h.branches (suffix_lists h.suffix) (length c.prefix) a.branches p.branches)
      ∙ ap (λ forms. part_replies m (before_suffix c + 1) c.suffix forms >>= (λ s. Ok (history h.prefix h.branches s))) (last_listed c h p.branches)
      ∙ ap (λ r. r >>= (λ s. Ok (history h.prefix h.branches s))) (part_again c.suffix h.suffix (before_suffix c + 1) a.suffix p.suffix)
