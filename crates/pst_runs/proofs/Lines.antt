-- The lines of trees: they are read as the trees, and how far a writer has come with them.
use Rattle.std.proofs.Common.{◌≡◌, ℕ, zero, suc, ◌+◌, ◌<◌, List, [], ◌∷◌, ◌++◌, length, get_or, take, drop, true, refl, sym, ap, ◌∙◌, subst, append_assoc, append-nil, add-one, drop-cons, arith}
use Rattle.std.proofs.Math.Seq.{take-suc}
use Rattle.std.proofs.lemmas.List.{map-append}
use Rattle.pst_case.specs.declared.history.Run.{Run}
use Rattle.pst_model.specs.declared.model.Source.{Source}
use Rattle.pst_runs.specs.Lawful.{IsLawful, AreLawful}
use Rattle.pst_runs.specs.Lines.{line_of, lines_of}
use Rattle.pst_runs.specs.ReadAgain.{IsRead, AreRead}
use Rattle.pst_runs.specs.Written.{run_form, run_forms}
use Rattle.pst_sexpr.proofs.Again.{again}
use Rattle.pst_sexpr.proofs.Sound.{join}
use Rattle.pst_sexpr.specs.Bytes.{is_blank, is_word_byte}
use Rattle.pst_sexpr.specs.Grammar.{EndsWord, Begins, nothing, blank}
use Rattle.pst_sexpr.specs.Lawful.{AreTrees}
use Rattle.pst_sexpr.specs.Reading.{max_levels, Spells}
use Rattle.pst_sexpr.specs.Spelling.{spelling}
use Rattle.pst_sexpr.specs.declared.form.Form.{Form}

-- ---- the lines are read as the trees

line_end : (rest : List ℕ) → EndsWord (10 ∷ rest)
unfolding is_word_byte
line_end rest = refl

blank_end : is_blank 10 ≡ true
unfolding is_blank
blank_end = refl

pub lines_spell : (forms : List Form) → AreTrees forms → Spells (lines_of forms) forms
lines_spell [] h = nothing
lines_spell (form ∷ forms) h =
    let rest : Begins max_levels 0 (10 ∷ lines_of forms) forms [] = blank blank_end (lines_spell forms h.1) in
    let first = (again max_levels h.0.begins (10 ∷ lines_of forms) (line_end (lines_of forms))).0 in
    let e : (spelling form ++ []) ++ (10 ∷ lines_of forms) ≡ line_of form ++ lines_of forms =
    ap (λ l. l ++ (10 ∷ lines_of forms)) (append-nil (spelling form)) ∙ sym (append_assoc (spelling form) (10 ∷ []) (lines_of forms)) in
    subst (λ l. Spells l (form ∷ forms)) e (join first rest)

-- ---- how far a writer has come

-- the next line, and those behind it
pub next_line : (forms : List Form) (i : ℕ) (form : Form) → i < length forms → form ≡ get_or forms i form
    → lines_of (drop i forms) ≡ line_of form ++ lines_of (drop (i + 1) forms)
next_line forms i form h is =
    rw add-one (ap lines_of (drop-cons forms i form h ∙ ap (λ x. x ∷ drop (suc i) forms) (sym is)))

-- ---- the runs of which trees are made

pub run_lawful : (m : Source) (runs : List Run) (i : ℕ) (run : Run) → AreLawful m runs → i < length runs → run ≡ get_or runs i run → IsLawful m run
run_lawful m runs i run all h is = subst (IsLawful m) (sym is) (lawful_at runs i all h)
  where
    lawful_at : (rs : List Run) (k : ℕ) → AreLawful m rs → k < length rs → IsLawful m (get_or rs k run)
    lawful_at [] k all l = absurd (omega arith)
    lawful_at (r ∷ rs) zero all l = all.0
    lawful_at (r ∷ rs) (suc k) all l = lawful_at rs k all.1 (omega arith)

one_more : (m : Source) (runs : List Run) (run : Run) → AreRead m runs → IsRead m run → AreRead m (runs ++ run ∷ [])
one_more m [] run all e = (e, tt)
one_more m (first ∷ runs) run all e = (all.0, one_more m runs run all.1 e)

-- one more run is read from its tree
pub read_next : (m : Source) (runs : List Run) (i : ℕ) (run : Run) → i < length runs → run ≡ get_or runs i run
    → AreRead m (take i runs) → IsRead m run → AreRead m (take (i + 1) runs)
read_next m runs i run h is all e =
    let front : take (i + 1) runs ≡ take i runs ++ run ∷ [] = rw add-one (take-suc runs i run h ∙ ap (λ x. take i runs ++ x ∷ []) (sym is)) in
    subst (AreRead m) (sym front) (one_more m (take i runs) run all e)

-- one more tree is made
pub trees_next : (m : Source) (runs : List Run) (i : ℕ) (run : Run) {trees : List Form} {tree : Form} → i < length runs
    → run ≡ get_or runs i run → trees ≡ run_forms m (take i runs) → tree ≡ run_form m run
    → trees ++ tree ∷ [] ≡ run_forms m (take (i + 1) runs)
trees_next m runs i run {trees} {tree} h is made e =
    let front : take (i + 1) runs ≡ take i runs ++ run ∷ [] = rw add-one (take-suc runs i run h ∙ ap (λ x. take i runs ++ x ∷ []) (sym is)) in
    ap (λ l. l ++ tree ∷ []) made ∙ ap (λ t. run_forms m (take i runs) ++ t ∷ []) e
    ∙ sym (map-append (run_form m) (take i runs) (run ∷ [])) ∙ ap (run_forms m) (sym front)
