-- The answers to lines of which only a beginning was kept.
use Rattle.std.proofs.Common.{◌≡◌, ◌≤◌, ◌<◌, ◌∙◌, ℕ, true, false, suc, List, [], ◌∷◌, ◌++◌, Option, Some, None, Vec, Global, length, map, take, refl, sym, ap, subst, arith, length-take}
use Rattle.std.proofs.lemmas.List.{take_all}
use Rattle.std.specs.Io.KnownBytes.{Consumes, IsAtEnd}
use Rattle.std.specs.List.{AllZip}
use Rattle.std.specs.Prelude.{slice_index_or}
use Rattle.pst_judge.specs.declared.by_order.CallOrder.{CallOrder}
use Rattle.pst_json_runs.specs.Lines.{has_json, line_form}
use Rattle.pst_model.specs.declared.model.Source.{Source}
use Rattle.pst_rejudge.specs.Answers.{IsAnswer}
use Rattle.pst_rejudge.specs.StreamAnswers.{IsLineAnswer, item, no_item, IsTreeAnswer, tree_item, no_tree, IsTreeFile, SpellsItem, tree, json}
use Rattle.pst_rejudge.specs.declared.reading.ItemResult.{ItemResult}
use Rattle.pst_rejudge.specs.declared.reading.ItemResult.TheVariants.{Refused}
use Rattle.pst_runs.specs.declared.reader.RunFaultKind.TheVariants.{BadForm}
use Rattle.pst_sexpr.specs.Reading.{max_bytes, Spells}
use Rattle.pst_sexpr.specs.declared.form.Form.{Form}

-- a beginning that is not over the limit is the whole line
kept_whole : (most : ℕ) (line : List ℕ) → length (take (suc most) line) ≤ most → take (suc most) line ≡ line
kept_whole most line h = take_all (suc most) line (omega (arith, h, length-take (suc most) line))

module _ (order : CallOrder) (m : Source) where
  size_of : (line : List ℕ) (form : Form) → SpellsItem m line form → length line ≤ max_bytes
  size_of line form (tree none s) = s.size
  size_of line form (json some size is) = size

  spells_kept : (line : List ℕ) (form : Form) → SpellsItem m line form → SpellsItem m (take (suc max_bytes) line) form
  spells_kept line form s =
      let size = size_of line form s in
      subst (λ l. SpellsItem m l form) (sym (take_all (suc max_bytes) line (omega arith))) s

  spells_whole : (line : List ℕ) (form : Form) → SpellsItem m (take (suc max_bytes) line) form → SpellsItem m line form
  spells_whole line form s = subst (λ l. SpellsItem m l form) (kept_whole max_bytes line (size_of (take (suc max_bytes) line) form s)) s

  -- the answer to what is kept of a line is the answer to the line
  answers_whole : (line : List ℕ) (answer : ItemResult) → IsLineAnswer order m (take (suc max_bytes) line) answer → IsLineAnswer order m line answer
  answers_whole line answer (item form spelled is) = item form (spells_whole line form spelled) is
  answers_whole line answer (no_item none is) = no_item (λ form s. none form (spells_kept line form s)) is

  pub all_whole : (kept : List (Vec ℕ Global)) (lines : List (List ℕ)) (answers : List ItemResult)
      → map (λ line. line.items) kept ≡ map (take (suc max_bytes)) lines
      → AllZip (λ line. IsLineAnswer order m line.items) kept answers → AllZip (IsLineAnswer order m) lines answers
  all_whole [] [] [] e h = tt
  all_whole [] [] (a ∷ answers) e h = absurd h
  all_whole [] (line ∷ lines) answers e h = absurd (cc)
  all_whole (one ∷ kept) [] answers e h = absurd (cc)
  all_whole (one ∷ kept) (line ∷ lines) [] e h = absurd h
  all_whole (one ∷ kept) (line ∷ lines) (a ∷ answers) e h =
      let first : one.items ≡ take (suc max_bytes) line = cc in
      let rest : map (λ (l : Vec ℕ Global). l.items) kept ≡ map (take (suc max_bytes)) lines = cc in
      (answers_whole line a (subst (λ l. IsLineAnswer order m l a) first h.0), all_whole kept lines answers rest h.1)

  -- a line without JSON
  tree_spelled : (line : List ℕ) (form : Form) → has_json line ≡ false → SpellsItem m line form → IsTreeFile line form
  tree_spelled line form e (tree none s) = s
  tree_spelled line form e (json some size is) = absurd (cc)

  pub of_line : (line : List ℕ) (answer : ItemResult) → has_json line ≡ false → IsTreeAnswer order m line answer → IsLineAnswer order m line answer
  of_line line answer e (tree_item form s is) = item form (tree e s) is
  of_line line answer e (no_tree none is) = no_item (λ form s. none form (tree_spelled line form e s)) is

  -- a line with JSON
  json_form : (line : List ℕ) (form : Form) → has_json line ≡ true → SpellsItem m line form → form ≡ line_form m line
  json_form line form e (tree none s) = absurd (cc)
  json_form line form e (json some size is) = is

  pub of_json : (line : List ℕ) (form : Form) (answer : ItemResult) → has_json line ≡ true → length line ≤ max_bytes → form ≡ line_form m line → IsAnswer order m form answer
      → IsLineAnswer order m line answer
  of_json line form answer e size is answered = item form (json e size is) answered

  pub of_long : (line : List ℕ) (answer : ItemResult) → max_bytes < length line → answer ≡ Refused BadForm 0 → IsLineAnswer order m line answer
  of_long line answer long is = no_item (λ form s. let size = size_of line form s in omega arith) is

  -- the answer to the one tree of a line is the answer to the line
  pub of_tree : (line : List ℕ) (trees : List Form) (one : Form) (answer : ItemResult) → length line ≤ max_bytes → Spells line trees
      → length trees ≡ 1 → one ≡ slice_index_or trees 0 one → IsAnswer order m one answer → IsTreeAnswer order m line answer
  of_tree line [] form answer size spelled one at is = absurd (omega arith)
  of_tree line (only ∷ []) form answer size spelled one at is =
      tree_item form (record { size = size; spelled = subst (λ f. Spells line (f ∷ [])) (sym at) spelled }) is
  of_tree line (first ∷ second ∷ more) form answer size spelled one at is = absurd (omega arith)

  module _ (bytes_have_one_reading : (bytes : List ℕ) (trees others : List Form) → Spells bytes trees → Spells bytes others → trees ≡ others) where
    same_form : (line : List ℕ) (form other : Form) → SpellsItem m line form → SpellsItem m line other → other ≡ form
    same_form line form other (tree none s) t =
        let same : other ∷ [] ≡ form ∷ [] = bytes_have_one_reading line (other ∷ []) (form ∷ []) (tree_spelled line other none t).spelled s.spelled in
        cc
    same_form line form other (json some size is) t = json_form line other some t ∙ sym is

    answers_item : (line : List ℕ) (form : Form) (answer : ItemResult) → SpellsItem m line form → IsLineAnswer order m line answer → IsAnswer order m form answer
    answers_item line form answer s (item other spelled is) = subst (λ f. IsAnswer order m f answer) (same_form line form other s spelled) is
    answers_item line form answer s (no_item none is) = absurd (none form s)

    -- the answers to lines that spell one item each are the answers to these items
    pub all_items : (lines : List (List ℕ)) (forms : List Form) (answers : List ItemResult) → AllZip (SpellsItem m) lines forms
        → AllZip (IsLineAnswer order m) lines answers → AllZip (IsAnswer order m) forms answers
    all_items [] [] [] s h = tt
    all_items [] [] (a ∷ answers) s h = absurd h
    all_items [] (form ∷ forms) answers s h = absurd s
    all_items (line ∷ lines) [] answers s h = absurd s
    all_items (line ∷ lines) (form ∷ forms) [] s h = absurd h
    all_items (line ∷ lines) (form ∷ forms) (a ∷ answers) s h =
        (answers_item line form a s.0 h.0, all_items lines forms answers s.1 h.1)

-- a reader of which nothing more was read, and nothing is left, was at its end
pub ended_before : (before after : Option (List ℕ)) (count : ℕ) (bytes : List ℕ) → count ≡ 0 → Consumes before after (take count bytes)
    → IsAtEnd after → IsAtEnd before
ended_before None after count bytes e h a = tt
ended_before (Some xs) None count bytes e h a = absurd h
ended_before (Some xs) (Some ys) count bytes e h a = h ∙ ap (λ n. take n bytes ++ ys) e ∙ a
