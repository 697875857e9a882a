-- The parts of a tree, and the node of its parts.
use Rattle.std.specs.Prelude.{ℕ, Bool, true, false, List, [], ◌∷◌, slice_get, Option, Some, None}
use Rattle.pst_sexpr.specs.declared.form.Form.{Form, out-Form}
use Rattle.pst_sexpr.specs.declared.form.Form.TheOpen.{Form-F}
use Rattle.pst_sexpr.specs.declared.form.Form.TheVariants.{Word, Node}

abbrev pub word_at : Form-F Form → Option (List ℕ)
word_at (Form-F.Word word) = Some word
word_at (Form-F.Text text) = None
word_at (Form-F.Node parts) = None

-- the bytes of a word
abbrev pub word_of : Form → Option (List ℕ)
word_of form = word_at (out-Form form)

abbrev pub node_at : Form-F Form → Option (List Form)
node_at (Form-F.Word word) = None
node_at (Form-F.Text text) = None
node_at (Form-F.Node parts) = Some parts

-- the trees of a node
abbrev pub node_of : Form → Option (List Form)
node_of form = node_at (out-Form form)

-- a node of a word and then other trees
abbrev pub headed : List ℕ → List Form → Form
headed word parts = Node (Word word ∷ parts)

-- what a function gives for what stands there, if something does
abbrev pub and_then : {A B : Type 0} → Option A → (A → Option B) → Option B
and_then None f = None
and_then (Some a) f = f a

-- the tree at a path in a tree: the number of a part, from 0, and then a path in this part
abbrev pub tree_in : List ℕ → Form → Option Form
tree_in [] tree = Some tree
tree_in (number ∷ path) tree =
    and_then (node_of tree) (λ parts. and_then (slice_get parts number) (tree_in path))

-- it stands there where the test holds
abbrev pub where_true : {A : Type 0} → Bool → A → Option A
where_true true a = Some a
where_true false a = None
