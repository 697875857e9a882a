-- What the grammar spells is counted.
use Rattle.std.proofs.Common.{◌≡◌, ◌∙◌, ◌<◌, ◌+◌, ℕ, suc, Bool, true, false, ◌&&◌, ◌||◌, ◌==◌, cond, List}
use Rattle.std.proofs.Common.{[], ◌∷◌, ◌++◌, length, refl, sym, ap, arith, length-append}
use Rattle.std.proofs.lemmas.Bool.{ne_eqb, false≢true}
use Rattle.std.proofs.lemmas.Bool.Decides.{nat_tests}
use Rattle.std.proofs.lemmas.List.{append-nil}
use Rattle.pst_sexpr.specs.declared.form.Form.{Form}
use Rattle.pst_sexpr.specs.Bytes as classes
use Rattle.pst_sexpr.specs.Bytes.{is_word_byte, is_text_byte}
use Rattle.pst_sexpr.specs.Grammar.{IsWordBytes, EndsWord, IsLine, Escapes, none, itself, behind, Begins}
use Rattle.pst_sexpr.specs.Grammar.{nothing, blank, comment, last_comment, word, text, node}
use Rattle.pst_sources.specs.declared.scan.State.{State}
use Rattle.pst_sources.specs.declared.scan.State.TheVariants.{Between, Comment, Word, Text, Escape}
use Rattle.pst_sources.specs.Paths.{begins_tree}
use Rattle.pst_sources.specs.Scanning.{is_space, outside, after, is_bracket, is_blank, blanks, word_bytes}
use Rattle.pst_sources.specs.Scanning.{depth_after, is_end, closed_bytes, IsEnd, is_word, is_outside}
use Rattle.pst_sources.proofs.Counted.{and_false, blanks_step, word_step, word_ends, closed_cons}
use Rattle.pst_sources.proofs.Counted.{closed_inside, closed_keep}

-- ---- the classes of bytes

or_true : (b : Bool) → (b || true) ≡ true
or_true true = refl
or_true false = refl

pub word_apart : (b : ℕ) → is_word_byte b ≡ true
    → (b ≡ 59 → ⊥) × (b ≡ 34 → ⊥) × (b ≡ 40 → ⊥) × (b ≡ 41 → ⊥) × (32 < b)
unfolding is_word_byte
word_apart b h = grind (arith, nat_tests)

word_no_space : (b : ℕ) → 32 < b → is_space b ≡ false
unfolding is_space
word_no_space b h = grind (arith, nat_tests)

pub outside_word : (b : ℕ) → is_word_byte b ≡ true → outside b ≡ Word
unfolding outside
outside_word b h =
    let a = word_apart b h in
    rw (ne_eqb b 59 a.0, ne_eqb b 34 a.1, ne_eqb b 40 a.2, ne_eqb b 41 a.3, word_no_space b a.4) refl

blank_apart : (b : ℕ) → classes.is_blank b ≡ true
    → (b ≡ 59 → ⊥) × (b ≡ 34 → ⊥) × (b ≡ 40 → ⊥) × (b ≡ 41 → ⊥) × (b < 33)
unfolding classes.is_blank
blank_apart b h = grind (arith, nat_tests)

blank_space : (b : ℕ) → classes.is_blank b ≡ true → is_space b ≡ true
unfolding classes.is_blank is_space
blank_space b h = grind (arith, nat_tests)

outside_blank : (b : ℕ) → classes.is_blank b ≡ true → outside b ≡ Between
unfolding outside
outside_blank b h =
    let a = blank_apart b h in
    rw (ne_eqb b 59 a.0, ne_eqb b 34 a.1, ne_eqb b 40 a.2, ne_eqb b 41 a.3, blank_space b h) refl

text_apart : (b : ℕ) → is_text_byte b ≡ true → (b ≡ 34 → ⊥) × (b ≡ 92 → ⊥)
unfolding is_text_byte
text_apart b h = grind (arith, nat_tests)

pub begins_word : (b : ℕ) → is_word_byte b ≡ true → begins_tree b ≡ true
unfolding begins_tree
begins_word b h = rw h (or_true (b == 40 || b == 34))

pub blank_begins_none : (b : ℕ) → classes.is_blank b ≡ true → begins_tree b ≡ true → ⊥
unfolding classes.is_blank begins_tree is_word_byte
blank_begins_none b h e = grind (arith, nat_tests)

-- ---- bytes before a tree

pub after_between : (b : ℕ) → after Between b ≡ outside b
unfolding after
after_between b = refl

after_line : (b : ℕ) → (b ≡ 10 → ⊥) → after Comment b ≡ Comment
unfolding after
after_line b h = rw (ne_eqb b 10 h) refl

after_line_end : after Comment 10 ≡ Between
unfolding after
after_line_end = refl

after_semicolon : after Between 59 ≡ Comment
unfolding after outside
after_semicolon = refl

pub after_quote : after Between 34 ≡ Text
unfolding after outside
after_quote = refl

pub after_open : after Between 40 ≡ Between
unfolding after outside
after_open = refl

pub after_close : after Between 41 ≡ Between
unfolding after outside is_space
after_close = refl

is_blank_comment : (b : ℕ) → is_blank Comment b ≡ true
unfolding is_blank
is_blank_comment b = refl

pub is_blank_between : (b : ℕ) → is_blank Between b ≡ is_space b
unfolding is_blank
is_blank_between b = refl

pub is_blank_word : (b : ℕ) → is_blank Word b ≡ false
unfolding is_blank
is_blank_word b = refl

pub is_blank_text : (b : ℕ) → is_blank Text b ≡ false
unfolding is_blank
is_blank_text b = refl

space_line_end : is_space 10 ≡ true
unfolding is_space
space_line_end = refl

pub space_open : is_space 40 ≡ false
unfolding is_space
space_open = refl

pub blanks_blank : (b : ℕ) (bytes : List ℕ) → classes.is_blank b ≡ true
    → blanks Between (b ∷ bytes) ≡ suc (blanks Between bytes)
blanks_blank b bytes h =
    blanks_step Between Between b bytes (after_between b ∙ outside_blank b h) (is_blank_between b
    ∙ blank_space b h)

blanks_line : (line bytes : List ℕ) → IsLine line
    → blanks Comment (line ++ 10 ∷ bytes) ≡ suc (length line) + blanks Between bytes
blanks_line [] bytes h =
    let e = blanks_step Comment Between 10 bytes after_line_end (is_blank_between 10 ∙ space_line_end) in
    omega (arith, e)
blanks_line (b ∷ line) bytes h =
    let e = blanks_step Comment Comment b (line ++ 10 ∷ bytes) (after_line b h.0) (is_blank_comment b) in
    omega (arith, e, blanks_line line bytes h.1)

pub blanks_comment : (line bytes : List ℕ) → IsLine line
    → blanks Between (59 ∷ line ++ 10 ∷ bytes) ≡ suc (suc (length line)) + blanks Between bytes
blanks_comment line bytes h =
    let e = blanks_step Between Comment 59 (line ++ 10 ∷ bytes) after_semicolon (is_blank_comment 59) in
    omega (arith, e, blanks_line line bytes h)

-- ---- the bytes of a word

pub over_word : (w bytes : List ℕ) → IsWordBytes w → word_bytes (w ++ bytes) ≡ length w + word_bytes bytes
over_word [] bytes h = omega arith
over_word (b ∷ w) bytes h =
    let e = word_step b (w ++ bytes) (ap is_word (outside_word b h.0)) in
    omega (arith, e, over_word w bytes h.1)

no_word : word_bytes [] ≡ 0
unfolding word_bytes
no_word = refl

ends_at_blank : (b : ℕ) → classes.is_blank b ≡ true → is_word (outside b) ≡ false
ends_at_blank b h = ap is_word (outside_blank b h)

ends_at_close : is_word (outside 41) ≡ false
unfolding outside is_space
ends_at_close = refl

ends_at_open : is_word (outside 40) ≡ false
unfolding outside
ends_at_open = refl

ends_at_quote : is_word (outside 34) ≡ false
unfolding outside
ends_at_quote = refl

ends_at_semicolon : is_word (outside 59) ≡ false
unfolding outside
ends_at_semicolon = refl

nothing_ends : (left : List ℕ) → IsEnd left → word_bytes left ≡ 0
nothing_ends [] h = no_word
nothing_ends (b ∷ left) h = word_ends b left (ap (λ x. is_word (outside x)) h ∙ ends_at_close)

-- a word ends where its bytes end
pub word_ends_here : {limit depth : ℕ} {bytes left : List ℕ} {trees : List Form}
    → Begins limit depth bytes trees left
    → IsEnd left → EndsWord bytes → word_bytes bytes ≡ 0
word_ends_here {left} nothing ends h = nothing_ends left ends
word_ends_here (blank {byte = b} {bytes} is more) ends h = word_ends b bytes (ends_at_blank b is)
word_ends_here (comment line {bytes} is more) ends h = word_ends 59 (line ++ 10 ∷ bytes) ends_at_semicolon
word_ends_here (last_comment {line} is) ends h = word_ends 59 line ends_at_semicolon
word_ends_here (word is all end more) ends h = absurd (false≢true (sym h ∙ is))
word_ends_here (text {spelled} {bytes} is more) ends h = word_ends 34 (spelled ++ 34 ∷ bytes) ends_at_quote
word_ends_here (node {inside} is within more) ends h = word_ends 40 inside ends_at_open

-- ---- the bytes of a text or a node

-- a byte within a node
pub closed_go : (state next : State) (depth deep b : ℕ) (bytes : List ℕ) → after state b ≡ next
    → depth_after state depth b ≡ suc deep
    → closed_bytes state depth (b ∷ bytes) ≡ suc (closed_bytes next (suc deep) bytes)
closed_go state next depth deep b bytes e d = closed_inside state next depth (suc deep) b bytes e d
    (omega arith)

pub depth_inside : (state : State) (depth b : ℕ) → is_outside state ≡ false → depth_after state depth b
    ≡ depth
unfolding depth_after is_bracket
depth_inside state depth b h = rw (h, and_false (b == 40), and_false (b == 41)) refl

pub depth_other : (state : State) (depth b : ℕ) → (b ≡ 40 → ⊥) → (b ≡ 41 → ⊥) → depth_after state depth b
    ≡ depth
unfolding depth_after is_bracket
depth_other state depth b h k = rw (ne_eqb b 40 h, ne_eqb b 41 k) refl

pub depth_open : (depth : ℕ) → depth_after Between depth 40 ≡ suc depth
unfolding depth_after is_bracket
depth_open depth = refl

pub depth_close : (depth : ℕ) → depth_after Between (suc depth) 41 ≡ depth
unfolding depth_after is_bracket
depth_close depth = omega arith

pub ends_text : (b : ℕ) → is_end Text b Between ≡ true
unfolding is_end
ends_text b = refl

pub ends_close : is_end Between 41 Between ≡ true
unfolding is_end
ends_close = refl

pub goes_on : (state : State) (b : ℕ) → (next : State) → (next ≡ Between → ⊥) → is_end state b next ≡ false
unfolding is_end
goes_on Between b Between h = absurd (h refl)
goes_on Comment b Between h = absurd (h refl)
goes_on Word b Between h = absurd (h refl)
goes_on Text b Between h = absurd (h refl)
goes_on Escape b Between h = absurd (h refl)
goes_on state b other h = refl

none_closed : (state : State) (depth : ℕ) → closed_bytes state depth [] ≡ 0
unfolding closed_bytes
none_closed state depth = refl

same_end : (b : ℕ) (next : State) → is_end Word b next ≡ is_end Between b next
unfolding is_end
same_end b Between = refl
same_end b Comment = refl
same_end b Word = refl
same_end b Text = refl
same_end b Escape = refl

same_depth : (depth b : ℕ) → depth_after Word depth b ≡ depth_after Between depth b
unfolding depth_after is_bracket
same_depth depth b = refl

after_word : (b : ℕ) → after Word b ≡ after Between b
unfolding after
after_word b = refl

-- a word that has ended counts as none
word_is_between : (depth : ℕ) (bytes : List ℕ) → closed_bytes Word depth bytes
    ≡ closed_bytes Between depth bytes
word_is_between depth [] = none_closed Word depth ∙ sym (none_closed Between depth)
word_is_between depth (b ∷ bytes) =
    closed_cons Word depth b bytes
    ∙ ap (λ s. cond (depth_after Word depth b == 0 && is_end Word b s) 1
    (suc (closed_bytes s (depth_after Word depth b) bytes))) (after_word b)
    ∙ ap (λ n. cond (n == 0 && is_end Word b (after Between b)) 1
    (suc (closed_bytes (after Between b) n bytes))) (same_depth depth b)
    ∙ ap (λ t. cond (depth_after Between depth b == 0 && t) 1
    (suc (closed_bytes (after Between b) (depth_after Between depth b) bytes)))
    (same_end b (after Between b))
    ∙ sym (closed_cons Between depth b bytes)

closed_word : (depth : ℕ) (w bytes : List ℕ) → IsWordBytes w
    → closed_bytes Between (suc depth) (w ++ bytes) ≡ length w + closed_bytes Between (suc depth) bytes
closed_word depth [] bytes h = omega arith
closed_word depth (b ∷ w) bytes h =
    let a = word_apart b h.0 in
    let e = closed_go Between Word (suc depth) depth b (w ++ bytes) (after_between b ∙ outside_word b h.0)
    (depth_other Between (suc depth) b a.2 a.3) in
    omega (arith, e, word_is_between (suc depth) (w ++ bytes), closed_word depth w bytes h.1)

after_text : (b : ℕ) → is_text_byte b ≡ true → after Text b ≡ Text
unfolding after
after_text b h = let a = text_apart b h in rw (ne_eqb b 34 a.0, ne_eqb b 92 a.1) refl

after_behind : after Text 92 ≡ Escape
unfolding after
after_behind = refl

after_escape : (b : ℕ) → after Escape b ≡ Text
unfolding after
after_escape b = refl

pub after_unquote : after Text 34 ≡ Between
unfolding after
after_unquote = refl

pub closed_text : {spelled text : List ℕ} → Escapes spelled text → (depth : ℕ) (bytes : List ℕ)
    → closed_bytes Text depth (spelled ++ bytes) ≡ length spelled + closed_bytes Text depth bytes
closed_text none depth bytes = omega arith
closed_text (itself {byte = b} {spelled} h more) depth bytes =
    let e = closed_keep Text Text depth depth b (spelled ++ bytes) (after_text b h)
    (depth_inside Text depth b refl) (goes_on Text b Text (λ z. cc)) in
    omega (arith, e, closed_text more depth bytes)
closed_text (behind {byte = b} {spelled} h more) depth bytes =
    let e = closed_keep Text Escape depth depth 92 (b ∷ spelled ++ bytes) after_behind
    (depth_inside Text depth 92 refl) (goes_on Text 92 Escape (λ z. cc)) in
    let f = closed_keep Escape Text depth depth b (spelled ++ bytes) (after_escape b)
    (depth_inside Escape depth b refl) (goes_on Escape b Text (λ z. cc)) in
    omega (arith, e, f, closed_text more depth bytes)

closed_line : (line : List ℕ) → IsLine line → (depth : ℕ) (bytes : List ℕ)
    → closed_bytes Comment depth (line ++ bytes) ≡ length line + closed_bytes Comment depth bytes
closed_line [] h depth bytes = omega arith
closed_line (b ∷ line) h depth bytes =
    let e = closed_keep Comment Comment depth depth b (line ++ bytes) (after_line b h.0)
    (depth_inside Comment depth b refl) (goes_on Comment b Comment (λ z. cc)) in
    omega (arith, e, closed_line line h.1 depth bytes)

-- trees within a node are counted, and nothing ends among them
pub over : {limit level : ℕ} {bytes left : List ℕ} {trees : List Form}
    → Begins limit level bytes trees left → (depth : ℕ)
    → closed_bytes Between (suc depth) bytes + length left
    ≡ closed_bytes Between (suc depth) left + length bytes
over nothing depth = refl
over (blank {byte = b} {bytes} {left} h more) depth =
    let a = blank_apart b h in
    let e = closed_go Between Between (suc depth) depth b bytes (after_between b ∙ outside_blank b h)
    (depth_other Between (suc depth) b a.2 a.3) in
    omega (arith, e, over more depth)
over (comment line {bytes} {left} h more) depth =
    let e = closed_go Between Comment (suc depth) depth 59 (line ++ 10 ∷ bytes) after_semicolon
    (depth_other Between (suc depth) 59 (λ z. omega arith) (λ z. omega arith)) in
    let f = closed_line line h (suc depth) (10 ∷ bytes) in
    let g = closed_go Comment Between (suc depth) depth 10 bytes after_line_end
    (depth_inside Comment (suc depth) 10 refl) in
    omega (arith, e, f, g, over more depth, length-append line (10 ∷ bytes))
over (last_comment {line} h) depth =
    let e = closed_go Between Comment (suc depth) depth 59 line after_semicolon
    (depth_other Between (suc depth) 59 (λ z. omega arith) (λ z. omega arith)) in
    let f = closed_line line h (suc depth) [] in
    let g = ap (closed_bytes Comment (suc depth)) (append-nil line) in
    omega (arith, e, f, g, none_closed Comment (suc depth), none_closed Between (suc depth))
over (word {byte = b} {word = w} {bytes} h hs ends more) depth =
    let e = closed_word depth (b ∷ w) bytes (h, hs) in
    omega (arith, e, over more depth, length-append w bytes)
over (text {spelled} {bytes} h more) depth =
    let e = closed_go Between Text (suc depth) depth 34 (spelled ++ 34 ∷ bytes) after_quote
    (depth_other Between (suc depth) 34 (λ z. omega arith) (λ z. omega arith)) in
    let f = closed_text h (suc depth) (34 ∷ bytes) in
    let g = closed_go Text Between (suc depth) depth 34 bytes after_unquote
    (depth_inside Text (suc depth) 34 refl) in
    omega (arith, e, f, g, over more depth, length-append spelled (34 ∷ bytes))
over (node {inside} {bytes} h within more) depth =
    let e = closed_go Between Between (suc depth) (suc depth) 40 inside after_open
    (depth_open (suc depth)) in
    let f = over within (suc depth) in
    let g = closed_go Between Between (suc (suc depth)) depth 41 bytes after_close
    (depth_close (suc depth)) in
    omega (arith, e, f, g, over more depth)
