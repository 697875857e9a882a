-- Trees that have as many trees and levels as another one, and are lawful where it is.
use Rattle.std.proofs.Common.{◌≡◌, ℕ, suc, max, ◌+◌, ◌<◌, ◌≤◌, List, [], ◌∷◌, map, Some, None, refl, ap, sym, ◌∙◌, subst, arith}
use Rattle.std.specs.List.{sum}
use Rattle.std.proofs.lemmas.Grind.{common_steps}
use Rattle.pst_sexpr.specs.declared.form.Form.{Form, Form-F, out-roll-Form}
use Rattle.pst_sexpr.specs.declared.form.Form.TheVariants.{Word, Text, Node, rolls-Word, rolls-Text, rolls-Node}
use Rattle.pst_sexpr.specs.Grammar.{Begins, nothing, blank, comment, last_comment, word, text, node}
use Rattle.pst_sexpr.specs.Reading.{max_levels}
use Rattle.pst_sexpr.specs.Lawful.{IsTree, AreTrees, greatest, levels}
use Rattle.pst_sexpr.proofs.Made.{levels_word, levels_text, levels_node, node_is_tree}
use Rattle.pst_syntax.specs.Counting.{trees_in}
use Rattle.pst_sexpr.specs.Parts.{node_of, node_at, word_of, word_at}
use Rattle.pst_syntax.proofs.Counted.{trees_in_node, trees_in_word}

-- ---- the parts of a form

pub node_of_node : (parts : List Form) → node_of (Node parts) ≡ Some parts
node_of_node parts = ap node_of (sym (rolls-Node parts)) ∙ ap node_at (out-roll-Form (Form-F.Node parts))

pub word_of_word : (w : List ℕ) → word_of (Word w) ≡ Some w
word_of_word w = ap word_of (sym (rolls-Word w)) ∙ ap word_at (out-roll-Form (Form-F.Word w))

node_of_word : (w : List ℕ) → node_of (Word w) ≡ None
node_of_word w = ap node_of (sym (rolls-Word w)) ∙ ap node_at (out-roll-Form (Form-F.Word w))

node_of_text : (w : List ℕ) → node_of (Text w) ≡ None
node_of_text w = ap node_of (sym (rolls-Text w)) ∙ ap node_at (out-roll-Form (Form-F.Text w))

some_is : {A : Type 0} (a b : A) → Some a ≡ Some b → a ≡ b
some_is a b e = cc

word_is_no_node : (w : List ℕ) (parts : List Form) → Word w ≡ Node parts → ⊥
word_is_no_node w parts e = let h : None ≡ Some parts = sym (node_of_word w) ∙ ap node_of e ∙ node_of_node parts in absurd (cc)

text_is_no_node : (w : List ℕ) (parts : List Form) → Text w ≡ Node parts → ⊥
text_is_no_node w parts e = let h : None ≡ Some parts = sym (node_of_text w) ∙ ap node_of e ∙ node_of_node parts in absurd (cc)

same_parts : (parts others : List Form) → Node parts ≡ Node others → parts ≡ others
same_parts parts others e = some_is parts others (sym (node_of_node parts) ∙ ap node_of e ∙ node_of_node others)

first_is : (f g : Form) (fs gs : List Form) → f ∷ fs ≡ g ∷ gs → f ≡ g
first_is f g fs gs e = cc

-- ---- the parts of a lawful tree

-- trees of fewer levels may stand deeper
fits : {limit depth : ℕ} {bytes left : List ℕ} {trees : List Form} → Begins limit depth bytes trees left → (other at : ℕ) → greatest (map levels trees) + at ≤ other → Begins other at bytes trees left
fits nothing other at n = nothing
fits (blank h more) other at n = blank h (fits more other at n)
fits (comment line h more) other at n = comment line h (fits more other at n)
fits (last_comment h) other at n = last_comment h
fits (word {byte = b} {word = w} {trees} h hs e more) other at n = word h hs e (fits more other at (omega arith))
fits (text {text = t} {trees} h more) other at n = text h (fits more other at (omega arith))
fits (node {inner} {trees} h within more) other at n =
    let e = levels_node inner in
    node (omega arith) (fits within other (suc at) (omega arith)) (fits more other at (omega arith))

-- the trees have no more levels than there is room for
deep : {limit depth : ℕ} {bytes left : List ℕ} {trees : List Form} → Begins limit depth bytes trees left → depth ≤ limit → greatest (map levels trees) + depth ≤ limit
deep nothing n = omega arith
deep (blank h more) n = deep more n
deep (comment line h more) n = deep more n
deep (last_comment h) n = omega arith
deep (word {byte = b} {word = w} {trees} h hs e more) n = let i = deep more n in let z = levels_word (b ∷ w) in omega arith
deep (text {text = t} {trees} h more) n = let i = deep more n in let z = levels_text t in omega arith
deep (node {inner} {trees} h within more) n =
    let i = deep more n in
    let j = deep within (omega arith) in
    let z = levels_node inner in
    omega arith

one : {depth : ℕ} {bytes left : List ℕ} {form : Form} → Begins max_levels depth bytes (form ∷ []) left → depth ≤ max_levels → IsTree form
one {depth} {bytes} {left} {form} h n =
    let d = deep h n in
    record { bytes = bytes; left = left; begins = fits h max_levels 0 (omega arith) }

each_lawful : {depth : ℕ} {bytes left : List ℕ} {trees : List Form} → Begins max_levels depth bytes trees left → depth ≤ max_levels → AreTrees trees
each_lawful nothing n = tt
each_lawful (blank h more) n = each_lawful more n
each_lawful (comment line h more) n = each_lawful more n
each_lawful (last_comment h) n = tt
each_lawful (word h hs ends more) n = (one (word h hs ends nothing) n, each_lawful more n)
each_lawful (text {bytes} h more) n = (one {left = bytes} (text h nothing) n, each_lawful more n)
each_lawful (node {bytes} h within more) n = (one {left = bytes} (node h within nothing) n, each_lawful more n)

record Inside (parts : List Form) : Type 0 where
  lawful : AreTrees parts
  levels : greatest (map levels parts) < max_levels

inside_of : {bytes left : List ℕ} {trees : List Form} → Begins max_levels 0 bytes trees left → (parts : List Form) → trees ≡ Node parts ∷ [] → Inside parts
inside_of nothing parts e = absurd (cc)
inside_of (blank h more) parts e = inside_of more parts e
inside_of (comment line h more) parts e = inside_of more parts e
inside_of (last_comment h) parts e = absurd (cc)
inside_of (word {byte = b} {word = w} {trees} h hs ends more) parts e = absurd (word_is_no_node (b ∷ w) parts (first_is _ _ _ _ e))
inside_of (text {text = t} {trees} h more) parts e = absurd (text_is_no_node t parts (first_is _ _ _ _ e))
inside_of (node {inner} {trees} h within more) parts e =
    let same : inner ≡ parts = same_parts inner parts (first_is (Node inner) (Node parts) trees [] e) in
    let d = deep within h in
    subst Inside same (record { lawful = each_lawful within h; levels = omega arith })

parts_of : (parts : List Form) → IsTree (Node parts) → Inside parts
parts_of parts h = inside_of h.begins parts refl

-- ---- trees alike

pub record Alike (f g : Form) : Type 0 where
  pub count : trees_in g ≡ trees_in f
  pub level : levels g ≡ levels f
  pub lawful : IsTree f → IsTree g

pub data AllAlike : List Form → List Form → Type 0 where
  none : AllAlike [] []
  more : {f g : Form} {fs gs : List Form} → Alike f g → AllAlike fs gs → AllAlike (f ∷ fs) (g ∷ gs)

-- a word in the place of another one
pub words_alike : (v w : List ℕ) → IsTree (Word w) → Alike (Word v) (Word w)
words_alike v w h = record { count = trees_in_word w ∙ sym (trees_in_word v); level = levels_word w ∙ sym (levels_word v); lawful = λ _. h }

pub itself : (f : Form) → Alike f f
itself f = record { count = refl; level = refl; lawful = λ h. h }

sums : {fs gs : List Form} → AllAlike fs gs → sum (map trees_in gs) ≡ sum (map trees_in fs)
sums none = refl
sums (more {f} {g} {fs} {gs} a rest) = grind (arith, common_steps, a.count, sums rest)

depths : {fs gs : List Form} → AllAlike fs gs → greatest (map levels gs) ≡ greatest (map levels fs)
depths none = refl
depths (more {f} {g} {fs} {gs} a rest) = ap (λ n. max n (greatest (map levels gs))) a.level ∙ ap (λ n. max (levels f) n) (depths rest)

all_lawful : {fs gs : List Form} → AllAlike fs gs → AreTrees fs → AreTrees gs
all_lawful none h = tt
all_lawful (more a rest) h = (a.lawful h.0, all_lawful rest h.1)

-- lists that are as large in all
pub record ListAlike (fs gs : List Form) : Type 0 where
  pub count : sum (map trees_in gs) ≡ sum (map trees_in fs)
  pub level : greatest (map levels gs) ≡ greatest (map levels fs)
  pub lawful : AreTrees fs → AreTrees gs

pub list_alike : {fs gs : List Form} → AllAlike fs gs → ListAlike fs gs
list_alike all = record { count = sums all; level = depths all; lawful = all_lawful all }

pub first_sum : (f : Form) (fs : List Form) → sum (map trees_in (f ∷ fs)) ≡ trees_in f + sum (map trees_in fs)
first_sum f fs = grind (arith, common_steps)

pub list_more : {f g : Form} {fs gs : List Form} → Alike f g → ListAlike fs gs → ListAlike (f ∷ fs) (g ∷ gs)
list_more {f} {g} {fs} {gs} a l = record {
  count = omega (arith, first_sum f fs, first_sum g gs, a.count, l.count);
  level = ap (λ n. max n (greatest (map levels gs))) a.level ∙ ap (λ n. max (levels f) n) l.level;
  lawful = λ h. (a.lawful h.0, l.lawful h.1);
}

pub node_alike : {fs gs : List Form} → ListAlike fs gs → Alike (Node fs) (Node gs)
node_alike {fs} {gs} all = record {
  count = trees_in_node gs ∙ ap suc all.count ∙ sym (trees_in_node fs);
  level = levels_node gs ∙ ap suc all.level ∙ sym (levels_node fs);
  lawful = λ h. let i = parts_of fs h in let d = all.level in let l = i.levels in node_is_tree gs (all.lawful i.lawful) (omega arith);
}

pub alike_node : {fs gs : List Form} → AllAlike fs gs → Alike (Node fs) (Node gs)
alike_node all = node_alike (list_alike all)
