-- A tree that ends before a line that begins with `{` is found there.
use Rattle.std.proofs.Common.{◌≡◌, ◌∙◌, ◌<◌, ◌+◌, ℕ, suc, Bool, true, false, ◌&&◌, ◌==◌, List, [], ◌∷◌, ◌++◌, length, take, drop}
use Rattle.std.proofs.Common.{Some, None, refl, sym, ap, arith, length-append, append_assoc, zero-add, cond, subst}
use Rattle.std.proofs.Math.Seq.{drop-append-add}
use Rattle.std.proofs.lemmas.Bool.{ne_eqb}
use Rattle.std.proofs.lemmas.Bool.Decides.{nat_tests}
use Rattle.std.specs.Prelude.{nat_lt}
use Rattle.pst_input.specs.Lines.{first_tree_end, has_first_tree, json_start, json_start_from}
use Rattle.pst_model.specs.declared.model.Source.{Source}
use Rattle.pst_sexpr.specs.declared.form.Form.{Form}
use Rattle.pst_sexpr.specs.Bytes.{is_word_byte}
use Rattle.pst_sexpr.specs.Grammar.{IsWordBytes, Begins, nothing, blank, comment, last_comment, word, text, node}
use Rattle.pst_sources.specs.Scanning.{blanks, closed_bytes, tree_bytes, word_bytes, IsEnd}
use Rattle.pst_sources.specs.declared.scan.State.TheVariants as state
use Rattle.pst_sources.specs.declared.scan.State.TheVariants.{Between}
use Rattle.pst_sources.proofs.Counted.{blanks_none, closed_here, closed_keep}
use Rattle.pst_sources.proofs.First.{before_close}
use Rattle.pst_sources.proofs.Scanned.{blanks_blank, blanks_comment, after_between, after_quote, after_open, after_close, after_unquote}
use Rattle.pst_sources.proofs.Scanned.{is_blank_between, is_blank_word, is_blank_text, space_open, outside_word, over_word, word_ends_here, word_apart}
use Rattle.pst_sources.proofs.Scanned.{closed_go, closed_text, depth_inside, depth_other, depth_open, depth_close, ends_text, ends_close, goes_on, over}
use Rattle.pst_typing.specs.Loading.{Holds}

-- the last byte, or the byte before them if there are none
abbrev last_or : ℕ → List ℕ → ℕ
last_or before [] = before
last_or before (byte ∷ bytes) = last_or byte bytes

last_append : (before : ℕ) (front : List ℕ) (byte : ℕ) (rest : List ℕ) → last_or before (front ++ byte ∷ rest) ≡ last_or byte rest
last_append before [] byte rest = refl
last_append before (b ∷ front) byte rest = last_append b front byte rest

-- ---- a line begins after a line end

record LineStart (n before : ℕ) (bytes : List ℕ) (at : ℕ) : Type 0 where
  more : ℕ
  place : at ≡ n + more
  ends : last_or before (take more bytes) ≡ 10

is_line_end : (byte : ℕ) → (byte == 10) ≡ true → byte ≡ 10
is_line_end byte h = grind (arith, nat_tests)

some_place : (n at : ℕ) → Some n ≡ Some at → at ≡ n + 0
some_place n at e = let same : n ≡ at = cc in omega arith

no_place : (at : ℕ) → None ≡ Some at → ⊥
no_place at e = absurd (cc)

one_later : (n before byte : ℕ) (bytes : List ℕ) (at : ℕ) → LineStart (suc n) byte bytes at → LineStart n before (byte ∷ bytes) at
one_later n before byte bytes at r = record { more = suc r.more; place = omega (arith, r.place); ends = r.ends }

by_test : (n before byte : ℕ) (bytes : List ℕ) (at : ℕ) (is_json : Bool) → before ≡ 10
    → (json_start_from (byte == 10) (suc n) bytes ≡ Some at → LineStart (suc n) byte bytes at)
    → cond is_json (Some n) (json_start_from (byte == 10) (suc n) bytes) ≡ Some at → LineStart n before (byte ∷ bytes) at
by_test n before byte bytes at true h later e = record { more = 0; place = some_place n at e; ends = h }
by_test n before byte bytes at false h later e = one_later n before byte bytes at (later e)

line_start : (is_begin : Bool) (n : ℕ) (bytes : List ℕ) (at before : ℕ) → (is_begin ≡ true → before ≡ 10)
    → json_start_from is_begin n bytes ≡ Some at → LineStart n before bytes at
line_start is_begin n [] at before h e = absurd (no_place at e)
line_start true n (byte ∷ bytes) at before h e =
    by_test n before byte bytes at (byte == 123) (h refl)
    (line_start (byte == 10) (suc n) bytes at byte (is_line_end byte)) e
line_start false n (byte ∷ bytes) at before h e =
    one_later n before byte bytes at (line_start (byte == 10) (suc n) bytes at byte (is_line_end byte) e)

-- ---- the first tree

skipped_end : (front bytes : List ℕ) → blanks Between (front ++ bytes) ≡ length front + blanks Between bytes
    → first_tree_end (front ++ bytes) ≡ length front + first_tree_end bytes
skipped_end front bytes e =
    let k = blanks Between bytes in
    ap (λ n. n + tree_bytes (drop n (front ++ bytes))) e
    ∙ ap (λ l. (length front + k) + tree_bytes l) (drop-append-add front bytes k) ∙ omega arith

here_end : (bytes : List ℕ) → blanks Between bytes ≡ 0 → first_tree_end bytes ≡ tree_bytes bytes
here_end bytes e = ap (λ n. n + tree_bytes (drop n bytes)) e ∙ zero-add (tree_bytes bytes)

tree_bytes_open : (bytes : List ℕ) → tree_bytes (40 ∷ bytes) ≡ closed_bytes Between 0 (40 ∷ bytes)
unfolding tree_bytes
tree_bytes_open bytes = refl

tree_bytes_quote : (bytes : List ℕ) → tree_bytes (34 ∷ bytes) ≡ closed_bytes Between 0 (34 ∷ bytes)
unfolding tree_bytes
tree_bytes_quote bytes = refl

tree_bytes_word : (b : ℕ) (bytes : List ℕ) → is_word_byte b ≡ true → tree_bytes (b ∷ bytes) ≡ word_bytes (b ∷ bytes)
unfolding tree_bytes
tree_bytes_word b bytes h =
    let a = word_apart b h in
    rw (ne_eqb b 40 a.2, ne_eqb b 34 a.1, ne_eqb b 41 a.3) refl

no_word_end : (b : ℕ) (w rest : List ℕ) → is_word_byte b ≡ true → IsWordBytes w → last_or b (w ++ rest) ≡ 10 → rest ≡ [] → ⊥
no_word_end b [] [] is all e n = let a = word_apart b is in omega (arith, a.4, e)
no_word_end b [] (x ∷ rest) is all e n = absurd (cc)
no_word_end b (c ∷ w) rest is all e n = no_word_end c w rest all.0 all.1 e n

some_byte : (rest : List ℕ) → (rest ≡ [] → ⊥) → 0 < length rest
some_byte [] h = absurd (h refl)
some_byte (b ∷ rest) h = omega arith

last_here : (byte : ℕ) (rest : List ℕ) → (byte ≡ 10 → ⊥) → last_or byte rest ≡ 10 → rest ≡ [] → ⊥
last_here byte [] h e n = h e
last_here byte (b ∷ rest) h e n = absurd (cc)

no_tree : (tree : Form) (more : List Form) → [] ≡ tree ∷ more → ⊥
no_tree tree more e = absurd (cc)

ends_before : {limit depth : ℕ} {bytes left : List ℕ} {trees : List Form} → Begins limit depth bytes trees left → IsEnd left
    → (tree : Form) (more : List Form) → trees ≡ tree ∷ more → (before : ℕ) → last_or before bytes ≡ 10
    → first_tree_end bytes < length bytes
ends_before nothing end tree more e before h = absurd (no_tree tree more e)
ends_before (blank {byte = b} {bytes} is begun) end tree more e before h =
    let i = ends_before begun end tree more e b h in
    let k = blanks_blank b bytes is in
    let s = skipped_end (b ∷ []) bytes (omega (arith, k)) in
    omega (arith, i, s)
ends_before (comment line {bytes} is begun) end tree more e before h =
    let i = ends_before begun end tree more e 10 (sym (last_append 59 line 10 bytes) ∙ h) in
    let front = 59 ∷ line ++ 10 ∷ [] in
    let whole = append_assoc (59 ∷ line) (10 ∷ []) bytes in
    let n = length-append line (10 ∷ []) in
    let m = length-append line (10 ∷ bytes) in
    let k = blanks_comment line bytes is in
    let s = skipped_end front bytes (ap (blanks Between) whole ∙ omega (arith, k, n)) in
    omega (arith, i, sym (ap first_tree_end whole) ∙ s, n, m)
ends_before (last_comment is) end tree more e before h = absurd (no_tree tree more e)
ends_before (word {byte = b} {word = w} {bytes} is all ends begun) end tree more e before h =
    let o = over_word (b ∷ w) bytes (is, all) in
    let n = word_ends_here begun end ends in
    let s = here_end (b ∷ w ++ bytes) (blanks_none Between state.Word b (w ++ bytes) (after_between b ∙ outside_word b is) (is_blank_word b)) in
    let p = some_byte bytes (no_word_end b w bytes is all h) in
    omega (arith, s, tree_bytes_word b (w ++ bytes) is, o, n, p, length-append w bytes)
ends_before (text {spelled} {bytes} is begun) end tree more e before h =
    let c = closed_keep Between state.Text 0 0 34 (spelled ++ 34 ∷ bytes) after_quote
    (depth_other Between 0 34 (λ z. omega arith) (λ z. omega arith))
    (goes_on Between 34 state.Text (λ z. cc)) in
    let f = closed_text is 0 (34 ∷ bytes) in
    let g = closed_here state.Text Between 0 34 bytes after_unquote (depth_inside state.Text 0 34 refl) (ends_text 34) in
    let s = here_end (34 ∷ spelled ++ 34 ∷ bytes) (blanks_none Between state.Text 34 (spelled ++ 34 ∷ bytes) after_quote (is_blank_text 34)) in
    let p = some_byte bytes (last_here 34 bytes (λ z. omega arith) (sym (last_append 34 spelled 34 bytes) ∙ h)) in
    omega (arith, s, tree_bytes_quote (spelled ++ 34 ∷ bytes), c, f, g, p, length-append spelled (34 ∷ bytes))
ends_before (node {inside} {bytes} fits within begun) end tree more e before h =
    let r = before_close within bytes refl in
    let c = closed_go Between Between 0 0 40 inside after_open (depth_open 0) in
    let f = over within 0 in
    let g = closed_here Between Between 1 41 bytes after_close (depth_close 0) ends_close in
    let s = here_end (40 ∷ inside) (blanks_none Between Between 40 inside after_open (is_blank_between 40 ∙ space_open)) in
    let n = ap length r.whole in
    let p = some_byte bytes (last_here 41 bytes (λ z. omega arith) (sym (ap (last_or 40) r.whole ∙ last_append 40 r.front 41 bytes) ∙ h)) in
    omega (arith, s, tree_bytes_open inside, c, f, g, n, p, length-append r.front (41 ∷ bytes))

lt_test : (a b : ℕ) → a < b → nat_lt a b ≡ true
lt_test a b h = grind (arith, nat_tests)

found_in : (head : List ℕ) (m : Source) (trees : List Form) → last_or 10 head ≡ 10 → Holds head m trees → has_first_tree head ≡ true
found_in head m [] h holds = absurd (cc)
found_in head m (tree ∷ more) h holds =
    lt_test (first_tree_end head) (length head) (ends_before holds.file.spelled tt tree more refl 10 h)

pub model_found : (input : List ℕ) (at : ℕ) (m : Source) (trees : List Form) → json_start input ≡ Some at → Holds (take at input) m trees
    → has_first_tree (take at input) ≡ true
model_found input at m trees e holds =
    let s = line_start true 0 input at 10 (λ z. refl) e in
    let same : at ≡ s.more = omega (arith, s.place) in
    let Ends : ℕ → Type 0 = λ n. last_or 10 (take n input) ≡ 10 in
    found_in (take at input) m trees (subst Ends (sym same) s.ends) holds
