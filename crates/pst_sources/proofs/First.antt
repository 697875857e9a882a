-- The first of some trees, and the trees of a node.
use Rattle.std.proofs.Common.{◌≡◌, ◌∙◌, ◌<◌, ◌≤◌, ◌+◌, ℕ, suc, true, List, [], ◌∷◌, ◌++◌, length, refl, sym}
use Rattle.std.proofs.Common.{ap, subst, arith, append_assoc, length-append, Some, None}
use Rattle.std.proofs.lemmas.Bool.{ne_eqb, false≢true}
use Rattle.std.proofs.lemmas.List.{append-nil}
use Rattle.std.proofs.lemmas.Option.{none-some, same_Some}
use Rattle.pst_sexpr.specs.declared.form.Form.{Form, Form-F, out-roll-Form}
use Rattle.pst_sexpr.specs.declared.form.Form.TheVariants.{Node, Word, Text, rolls-Word, rolls-Text}
use Rattle.pst_sexpr.specs.declared.form.Form.TheVariants.{rolls-Node}
use Rattle.pst_sexpr.specs.Bytes.{is_word_byte}
use Rattle.pst_sexpr.specs.Grammar.{EndsWord, Begins, nothing, blank, comment, last_comment, word, text}
use Rattle.pst_sexpr.specs.Grammar.{node}
use Rattle.pst_sexpr.specs.Parts.{node_of, node_at}
use Rattle.pst_sources.specs.declared.scan.State.TheVariants as state
use Rattle.pst_sources.specs.declared.scan.State.TheVariants.{Between}
use Rattle.pst_sources.specs.Paths.{begins_tree, BeginsTree}
use Rattle.pst_sources.specs.Scanning.{blanks, word_bytes, closed_bytes, tree_bytes, IsEnd}
use Rattle.pst_sources.proofs.Counted.{blanks_none, closed_here, closed_keep}
use Rattle.pst_sources.proofs.Scanned.{blanks_blank, blanks_comment, after_between}
use Rattle.pst_sources.proofs.Scanned.{after_quote, after_open, after_close, after_unquote}
use Rattle.pst_sources.proofs.Scanned.{is_blank_between, is_blank_word, is_blank_text, space_open}
use Rattle.pst_sources.proofs.Scanned.{outside_word, over_word, word_ends_here, word_apart}
use Rattle.pst_sources.proofs.Scanned.{blank_begins_none, begins_word, closed_go}
use Rattle.pst_sources.proofs.Scanned.{closed_text, depth_inside, depth_other, depth_open, depth_close}
use Rattle.pst_sources.proofs.Scanned.{ends_text, ends_close, goes_on, over}

-- what stands in nodes may stand in fewer
pub shallow : {limit depth : ℕ} {bytes left : List ℕ} {trees : List Form}
    → Begins limit depth bytes trees left
    → (less : ℕ) → less ≤ depth → Begins limit less bytes trees left
shallow nothing less h = nothing
shallow (blank is more) less h = blank is (shallow more less h)
shallow (comment line is more) less h = comment line is (shallow more less h)
shallow (last_comment is) less h = last_comment is
shallow (word is all end more) less h = word is all end (shallow more less h)
shallow (text is more) less h = text is (shallow more less h)
shallow (node fits within more) less h =
    node (omega arith) (shallow within (suc less) (omega arith)) (shallow more less h)

close_ends : (left : List ℕ) → EndsWord (41 ∷ left)
unfolding is_word_byte
close_ends left = refl

ends_before : (front rest more : List ℕ) → EndsWord (front ++ 41 ∷ rest) → EndsWord (front ++ 41 ∷ more)
ends_before [] rest more h = close_ends more
ends_before (b ∷ front) rest more h = h

-- the bytes before a `)` spell the same trees whatever comes after it
pub record Before (limit depth : ℕ) (bytes : List ℕ) (trees : List Form) (rest : List ℕ) : Type 0 where
  pub front : List ℕ
  pub whole : bytes ≡ front ++ 41 ∷ rest
  pub begins : (more : List ℕ) → Begins limit depth (front ++ 41 ∷ more) trees (41 ∷ more)

pub before_close : {limit depth : ℕ} {bytes left : List ℕ} {trees : List Form}
    → Begins limit depth bytes trees left
    → (rest : List ℕ) → left ≡ 41 ∷ rest → Before limit depth bytes trees rest
before_close nothing rest e = record { front = []; whole = e; begins = λ more. nothing }
before_close (blank {byte = b} is begun) rest e =
    let r = before_close begun rest e in
    record {
      front = b ∷ r.front;
      whole = ap (λ l. b ∷ l) r.whole;
      begins = λ more. blank is (r.begins more);
    }
before_close {limit} (comment {depth} line {trees} is begun) rest e =
    let r = before_close begun rest e in
    record {
      front = 59 ∷ line ++ 10 ∷ r.front;
      whole = ap (λ l. 59 ∷ line ++ 10 ∷ l) r.whole
          ∙ sym (append_assoc (59 ∷ line) (10 ∷ r.front) (41 ∷ rest));
      begins = λ more. subst (λ l. Begins limit depth l trees (41 ∷ more))
          (sym (append_assoc (59 ∷ line) (10 ∷ r.front) (41 ∷ more))) (comment line is (r.begins more));
    }
before_close (last_comment is) rest e = cc
before_close {limit} (word {depth} {byte = b} {word = w} {trees} is all end begun) rest e =
    let r = before_close begun rest e in
    record {
      front = (b ∷ w) ++ r.front;
      whole = ap (λ l. (b ∷ w) ++ l) r.whole ∙ sym (append_assoc (b ∷ w) r.front (41 ∷ rest));
      begins = λ more.
          subst (λ l. Begins limit depth l (Word (b ∷ w) ∷ trees) (41 ∷ more))
          (sym (append_assoc (b ∷ w) r.front (41 ∷ more)))
          (word is all (ends_before r.front rest more (subst EndsWord r.whole end)) (r.begins more));
    }
before_close {limit} (text {depth} {spelled} {text = t} {trees} is begun) rest e =
    let r = before_close begun rest e in
    record {
      front = 34 ∷ spelled ++ 34 ∷ r.front;
      whole = ap (λ l. 34 ∷ spelled ++ 34 ∷ l) r.whole
          ∙ sym (append_assoc (34 ∷ spelled) (34 ∷ r.front) (41 ∷ rest));
      begins = λ more. subst (λ l. Begins limit depth l (Text t ∷ trees) (41 ∷ more))
          (sym (append_assoc (34 ∷ spelled) (34 ∷ r.front) (41 ∷ more))) (text is (r.begins more));
    }
before_close {limit} (node {depth} {inside} {bytes} {inner} {trees} fits within begun) rest e =
    let r = before_close begun rest e in
    let i = before_close within bytes refl in
    record {
      front = 40 ∷ i.front ++ 41 ∷ r.front;
      whole = ap (λ l. 40 ∷ l) (i.whole ∙ ap (λ l. i.front ++ 41 ∷ l) r.whole)
          ∙ sym (append_assoc (40 ∷ i.front) (41 ∷ r.front) (41 ∷ rest));
      begins = λ more.
          subst (λ l. Begins limit depth l (Node inner ∷ trees) (41 ∷ more))
          (sym (append_assoc (40 ∷ i.front) (41 ∷ r.front) (41 ∷ more)))
          (node fits (i.begins (r.front ++ 41 ∷ more)) (r.begins more));
    }

-- the bytes of the first tree, those before them and those behind them
pub record IsFirst (limit depth : ℕ) (bytes : List ℕ) (tree : Form) (trees : List Form)
    (left : List ℕ) : Type 0 where
  pub before : List ℕ
  pub part : List ℕ
  pub later : List ℕ
  pub whole : bytes ≡ before ++ (part ++ later)
  pub starts : blanks Between bytes ≡ length before
  pub ends : tree_bytes (part ++ later) ≡ length part
  pub spells : Begins limit 0 part (tree ∷ []) []
  pub begins : BeginsTree part
  pub more : Begins limit depth later trees left

-- there is a first tree where there are trees
abbrev pub HasFirst : ℕ → ℕ → List ℕ → List Form → List ℕ → Type 0
HasFirst limit depth bytes [] left = Unit {0}
HasFirst limit depth bytes (tree ∷ trees) left = IsFirst limit depth bytes tree trees left

skipped : (limit depth : ℕ) (front bytes whole left : List ℕ) (trees : List Form) → whole ≡ front ++ bytes
    → blanks Between whole ≡ length front + blanks Between bytes
    → HasFirst limit depth bytes trees left → HasFirst limit depth whole trees left
skipped limit depth front bytes whole left [] e n h = tt
skipped limit depth front bytes whole left (tree ∷ trees) e n h =
    record {
      before = front ++ h.before;
      part = h.part;
      later = h.later;
      whole = e ∙ ap (λ l. front ++ l) h.whole ∙ sym (append_assoc front h.before (h.part ++ h.later));
      starts = (let k = h.starts in omega (arith, n, k, length-append front h.before));
      ends = h.ends;
      spells = h.spells;
      begins = h.begins;
      more = h.more;
    }

tree_bytes_open : (bytes : List ℕ) → tree_bytes (40 ∷ bytes) ≡ closed_bytes Between 0 (40 ∷ bytes)
unfolding tree_bytes
tree_bytes_open bytes = refl

tree_bytes_quote : (bytes : List ℕ) → tree_bytes (34 ∷ bytes) ≡ closed_bytes Between 0 (34 ∷ bytes)
unfolding tree_bytes
tree_bytes_quote bytes = refl

tree_bytes_word : (b : ℕ) (bytes : List ℕ) → is_word_byte b ≡ true → tree_bytes (b ∷ bytes)
    ≡ word_bytes (b ∷ bytes)
unfolding tree_bytes
tree_bytes_word b bytes h =
    let a = word_apart b h in
    rw (ne_eqb b 40 a.2, ne_eqb b 34 a.1, ne_eqb b 41 a.3) refl

begins_open : begins_tree 40 ≡ true
unfolding begins_tree
begins_open = refl

begins_quote : begins_tree 34 ≡ true
unfolding begins_tree
begins_quote = refl

begins_no_comment : begins_tree 59 ≡ true → ⊥
unfolding begins_tree is_word_byte
begins_no_comment h = false≢true h

pub first : {limit depth : ℕ} {bytes left : List ℕ} {trees : List Form}
    → Begins limit depth bytes trees left
    → IsEnd left → HasFirst limit depth bytes trees left
first nothing end = tt
first {limit} {depth} {left = left} {trees = trees} (blank {byte = b} {bytes} is begun) end =
    let e = blanks_blank b bytes is in
    skipped limit depth (b ∷ []) bytes (b ∷ bytes) left trees refl (omega (arith, e)) (first begun end)
first {limit} {depth} {left = left} {trees = trees} (comment line {bytes} is begun) end =
    let e = blanks_comment line bytes is in
    let n = length-append line (10 ∷ []) in
    skipped limit depth (59 ∷ line ++ 10 ∷ []) bytes (59 ∷ line ++ 10 ∷ bytes) left trees
    (sym (append_assoc (59 ∷ line) (10 ∷ []) bytes)) (omega (arith, e, n)) (first begun end)
first (last_comment is) end = tt
first {limit} (word {depth} {byte = b} {word = w} {bytes} is all ends begun) end =
    let e = over_word (b ∷ w) bytes (is, all) in
    let n = word_ends_here begun end ends in
    record {
      before = [];
      part = b ∷ w;
      later = bytes;
      whole = refl;
      starts = blanks_none Between state.Word b (w ++ bytes) (after_between b ∙ outside_word b is)
          (is_blank_word b);
      ends = tree_bytes_word b (w ++ bytes) is ∙ omega (arith, e, n);
      spells = subst (λ l. Begins limit 0 l (Word (b ∷ w) ∷ []) []) (append-nil (b ∷ w))
          (word is all tt nothing);
      begins = begins_word b is;
      more = begun;
    }
first {limit} (text {depth} {spelled} {text = t} {bytes} is begun) end =
    let whole = append_assoc (34 ∷ spelled) (34 ∷ []) bytes in
    let e = closed_keep Between state.Text 0 0 34 (spelled ++ 34 ∷ bytes) after_quote
    (depth_other Between 0 34 (λ z. omega arith) (λ z. omega arith))
    (goes_on Between 34 state.Text (λ z. cc)) in
    let f = closed_text is 0 (34 ∷ bytes) in
    let g = closed_here state.Text Between 0 34 bytes after_unquote (depth_inside state.Text 0 34 refl)
    (ends_text 34) in
    record {
      before = [];
      part = 34 ∷ spelled ++ 34 ∷ [];
      later = bytes;
      whole = sym whole;
      starts = blanks_none Between state.Text 34 (spelled ++ 34 ∷ bytes) after_quote (is_blank_text 34);
      ends = ap tree_bytes whole ∙ tree_bytes_quote (spelled ++ 34 ∷ bytes)
          ∙ omega (arith, e, f, g, length-append spelled (34 ∷ []));
      spells = text is nothing;
      begins = begins_quote;
      more = begun;
    }
first {limit} (node {depth} {inside} {bytes} {inner} fits within begun) end =
    let r = before_close within bytes refl in
    let whole = append_assoc (40 ∷ r.front) (41 ∷ []) bytes ∙ ap (λ l. 40 ∷ l) (sym r.whole) in
    let e = closed_go Between Between 0 0 40 inside after_open (depth_open 0) in
    let f = over within 0 in
    let g = closed_here Between Between 1 41 bytes after_close (depth_close 0) ends_close in
    let n = ap length r.whole in
    let positive : 0 < limit = omega arith in
    record {
      before = [];
      part = 40 ∷ r.front ++ 41 ∷ [];
      later = bytes;
      whole = sym whole;
      starts = blanks_none Between Between 40 inside after_open (is_blank_between 40 ∙ space_open);
      ends = ap tree_bytes whole ∙ tree_bytes_open inside
          ∙ omega (arith, e, f, g, n, length-append r.front (41 ∷ []), length-append r.front (41 ∷ bytes));
      spells = node positive (shallow (r.begins []) 1 (omega arith)) nothing;
      begins = begins_open;
      more = begun;
    }

-- the bytes are a bracket and the trees of a node
pub record IsNode (limit : ℕ) (bytes : List ℕ) (parts : List Form) : Type 0 where
  pub inside : List ℕ
  pub rest : List ℕ
  pub depth : ℕ
  pub whole : bytes ≡ 40 ∷ inside
  pub within : Begins limit depth inside parts (41 ∷ rest)

-- where the first tree is a node
abbrev pub FirstNode : ℕ → List ℕ → List Form → Type 0
FirstNode limit bytes [] = Unit {0}
FirstNode limit bytes (tree ∷ trees) = (parts : List Form) → node_of tree ≡ Some parts
    → IsNode limit bytes parts

node_of_node : (parts : List Form) → node_of (Node parts) ≡ Some parts
node_of_node parts = ap node_of (sym (rolls-Node parts)) ∙ ap node_at (out-roll-Form (Form-F.Node parts))

node_of_word : (w : List ℕ) → node_of (Word w) ≡ None
node_of_word w = ap node_of (sym (rolls-Word w)) ∙ ap node_at (out-roll-Form (Form-F.Word w))

node_of_text : (t : List ℕ) → node_of (Text t) ≡ None
node_of_text t = ap node_of (sym (rolls-Text t)) ∙ ap node_at (out-roll-Form (Form-F.Text t))

no_node : (limit : ℕ) (bytes : List ℕ) (trees : List Form) → ⊥ → FirstNode limit bytes trees
no_node limit bytes trees h = absurd h

pub first_node : {limit depth : ℕ} {bytes left : List ℕ} {trees : List Form}
    → Begins limit depth bytes trees left
    → BeginsTree bytes → FirstNode limit bytes trees
first_node nothing h = tt
first_node {limit} {bytes} {trees = trees} (blank {byte = b} is begun) h =
    no_node limit bytes trees (blank_begins_none b is h)
first_node {limit} {bytes} {trees = trees} (comment line is begun) h =
    no_node limit bytes trees (begins_no_comment h)
first_node (last_comment is) h = tt
first_node (word {byte = b} {word = w} is all end begun) h = λ parts e.
    absurd (none-some parts (sym (node_of_word (b ∷ w)) ∙ e))
first_node (text {text = t} is begun) h = λ parts e. absurd (none-some parts (sym (node_of_text t) ∙ e))
first_node {limit} (node {depth} {inside} {bytes} {inner} fits within begun) h = λ parts e.
    record {
      inside = inside;
      rest = bytes;
      depth = suc depth;
      whole = refl;
      within = subst (λ l. Begins limit (suc depth) inside l (41 ∷ bytes))
          (same_Some inner parts (sym (node_of_node inner) ∙ e)) within;
    }
