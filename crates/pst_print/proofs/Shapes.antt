-- What the tables say of a tree is what it is, and the table's answer on the trees that are written.
use Rattle.std.proofs.Common.{◌≡◌, ℕ, Bool, true, false, List, [], ◌∷◌, Option, Some, None, refl, sym, ap, ◌∙◌, subst}
use Rattle.std.specs.Prelude.{◌||◌, if◌then◌else◌, codes}
use Rattle.std.specs.Str.{bytes_eq}
use Rattle.std.specs.List.{AllByRecursion}
use Rattle.std.proofs.lemmas.Slice.Eq.{bytes_eq-Decides}
use Rattle.pst_sexpr.specs.declared.form.Form.{Form, Form-F, out-Form, roll-Form, out-roll-Form, roll-out-Form}
use Rattle.pst_sexpr.specs.declared.form.Form.TheVariants.{Word, Text, Node, rolls-Word, rolls-Text, rolls-Node}
use Rattle.pst_value.specs.declared.key.KeyTy.{KeyTy}
use Rattle.pst_value.specs.declared.key.KeyTy.TheVariants as kind
use Rattle.pst_syntax.specs.declared.words.Head.{Head}
use Rattle.pst_syntax.specs.declared.words.Head.TheVariants as head
use Rattle.pst_syntax.specs.Heads.{head_of, look_up, or_of_maps, rows, map_rows}
use Rattle.pst_syntax.specs.Names.{is_used}
use Rattle.pst_sexpr.specs.Integers.{is_integer}
use Rattle.pst_syntax.specs.Places.{is_place}
use Rattle.pst_syntax.specs.Shape.{Shape, Integer, Truth, Quoted, Used, Let, If, And, Or, Unary, Binary, Tuple, At, ListOf, For, Fold, MapOf, Put, Call, Apply, shape_of, shape_at, some_of, key_word as key_of, key_shape, word_shape, node_shape, applied, headed}
use Rattle.pst_sexpr.specs.Parts.{word_of, word_at, node_of, node_at, and_then, where_true}
use Rattle.pst_print.specs.Words.{unary_word, binary_word, truth_word, key_word}
use Rattle.pst_sexpr.specs.Parts as tree
use Rattle.pst_print.proofs.Alike.{node_of_node, word_of_word}

-- ---- head words

-- the word of a head
unfoldable pub spelled : Head → List ℕ
spelled head.Let = codes "let"
spelled head.If = codes "if"
spelled head.And = codes "and"
spelled head.Or = codes "or"
spelled (head.Unary operator) = unary_word operator
spelled (head.Binary operator) = binary_word operator
spelled head.Tuple = codes "tuple"
spelled head.At = codes "at"
spelled head.List = codes "list"
spelled head.For = codes "for"
spelled head.Fold = codes "fold"
spelled head.Map = codes "map"
spelled head.Put = codes "put"
spelled head.Call = codes "call"
spelled head.Ref = codes "ref"
spelled head.In = codes "in"
spelled head.When = codes "when"

spelled_row : (row : List ℕ × Head) (w : List ℕ) (h : Head) (b : Bool) (rest : Option Head) → bytes_eq row.0 w ≡ b → spelled row.1 ≡ row.0
    → (rest ≡ Some h → w ≡ spelled h) → (if b then Some row.1 else rest) ≡ Some h → w ≡ spelled h
spelled_row row w h true rest t s more e =
    let q : row.1 ≡ h = cc in
    let p : row.0 ≡ w = (bytes_eq-Decides row.0 w).0 t in
    sym p ∙ sym s ∙ ap spelled q
spelled_row row w h false rest t s more e = more e

spelled_in : (rows : List (List ℕ × Head)) → AllByRecursion (λ row. spelled row.1 ≡ row.0) rows → (w : List ℕ) (h : Head) → look_up rows w ≡ Some h → w ≡ spelled h
spelled_in [] all w h e = absurd (cc)
spelled_in (row ∷ rows) all w h e = spelled_row row w h (bytes_eq row.0 w) (look_up rows w) refl all.0 (spelled_in rows all.1 w h) e

all_spelled : AllByRecursion (λ row. spelled row.1 ≡ row.0) rows
unfolding spelled
all_spelled = (refl, (refl, (refl, (refl, (refl, (refl, (refl, (refl, (refl, (refl, (refl, (refl, (refl, (refl, (refl, (refl, (refl, (refl, (refl, (refl, (refl, (refl, (refl, (refl, (refl, (refl, (refl, (refl, tt))))))))))))))))))))))))))))

all_spelled_maps : AllByRecursion (λ row. spelled row.1 ≡ row.0) map_rows
unfolding spelled
all_spelled_maps = (refl, (refl, (refl, (refl, (refl, (refl, tt))))))

head_at : (maps : Bool) (o : Option Head) (w : List ℕ) (h : Head) → (o ≡ Some h → w ≡ spelled h) → or_of_maps o maps w ≡ Some h → w ≡ spelled h
head_at maps (Some g) w h p e = p e
head_at true None w h p e = spelled_in map_rows all_spelled_maps w h e
head_at false None w h p e = absurd (cc)

pub head_word : (maps : Bool) (w : List ℕ) (h : Head) → head_of maps w ≡ Some h → w ≡ spelled h
unfolding head_of
head_word maps w h e = head_at maps (look_up rows w) w h (spelled_in rows all_spelled w h) e

-- ---- the tables, backwards

word_is_at : (d : Form-F Form) (f : Form) (w : List ℕ) → roll-Form d ≡ f → word_at d ≡ Some w → f ≡ Word w
word_is_at (Form-F.Word v) f w r e = let q : v ≡ w = cc in sym r ∙ rolls-Word v ∙ ap Word q
word_is_at (Form-F.Text v) f w r e = absurd (cc)
word_is_at (Form-F.Node v) f w r e = absurd (cc)

pub word_is : (f : Form) (w : List ℕ) → word_of f ≡ Some w → f ≡ Word w
word_is f w e = word_is_at (out-Form f) f w (roll-out-Form f) e

node_is_at : (d : Form-F Form) (f : Form) (w : List Form) → roll-Form d ≡ f → node_at d ≡ Some w → f ≡ Node w
node_is_at (Form-F.Word v) f w r e = absurd (cc)
node_is_at (Form-F.Text v) f w r e = absurd (cc)
node_is_at (Form-F.Node v) f w r e = let q : v ≡ w = cc in sym r ∙ rolls-Node v ∙ ap Node q

pub node_is : (f : Form) (w : List Form) → node_of f ≡ Some w → f ≡ Node w
node_is f w e = node_is_at (out-Form f) f w (roll-out-Form f) e

pub made_some : {A B : Type 0} (o : Option A) (f : A → Option B) (s : B) → and_then o f ≡ Some s → (a : A) × (o ≡ Some a) × (f a ≡ Some s)
made_some None f s e = absurd (cc)
made_some (Some a) f s e = (a, refl, e)

pub where_some : {A : Type 0} (b : Bool) (a s : A) → where_true b a ≡ Some s → (b ≡ true) × (Some a ≡ Some s)
where_some true a s e = (refl, e)
where_some false a s e = absurd (cc)

pub some_same : (fs gs : List Form) → some_of fs ≡ Some gs → fs ≡ gs
some_same [] gs e = absurd (cc)
some_same (f ∷ fs) gs e = cc

-- ---- types of keys

key_got : (j k : KeyTy) → Some j ≡ Some k → key_word j ≡ key_word k
key_got j k e = let q : j ≡ k = cc in ap key_word q

key_words : (a b c : Bool) (w : List ℕ) (k : KeyTy) → (a ≡ true → w ≡ codes "int") → (b ≡ true → w ≡ codes "bool") → (c ≡ true → w ≡ codes "text")
    → (if a then Some kind.Int else if b then Some kind.Bool else if c then Some kind.Text else None) ≡ Some k → w ≡ key_word k
key_words true b c w k p q r e = p refl ∙ key_got kind.Int k e
key_words false true c w k p q r e = q refl ∙ key_got kind.Bool k e
key_words false false true w k p q r e = r refl ∙ key_got kind.Text k e
key_words false false false w k p q r e = absurd (cc)

-- what the table of types of keys says of a tree is what it is
pub key_is : (f : Form) (k : KeyTy) → key_shape f ≡ Some k → f ≡ Word (key_word k)
key_is f k e =
    let p = made_some (word_of f) key_of k e in
    let w = p.0 in
    word_is f w p.1
    ∙ ap Word (key_words (bytes_eq w (codes "int")) (bytes_eq w (codes "bool")) (bytes_eq w (codes "text")) w k
    (bytes_eq-Decides w (codes "int")).0 (bytes_eq-Decides w (codes "bool")).0 (bytes_eq-Decides w (codes "text")).0 p.2)

key_read : (k : KeyTy) → key_of (key_word k) ≡ Some k
key_read kind.Int = refl
key_read kind.Bool = refl
key_read kind.Text = refl

pub key_shaped : (k : KeyTy) → key_shape (Word (key_word k)) ≡ Some k
key_shaped k = ap (λ o. and_then o key_of) (word_of_word (key_word k)) ∙ key_read k

-- ---- expressions

-- the tree of a shape
abbrev pub form_of : Shape → Form
form_of (Integer w) = Word w
form_of (Truth b) = Word (truth_word b)
form_of (Quoted t) = Text t
form_of (Used x) = Word x
form_of (Let x e b) = tree.headed (codes "let") (Word x ∷ e ∷ b ∷ [])
form_of (If c a b) = tree.headed (codes "if") (c ∷ a ∷ b ∷ [])
form_of (And a b) = tree.headed (codes "and") (a ∷ b ∷ [])
form_of (Or a b) = tree.headed (codes "or") (a ∷ b ∷ [])
form_of (Unary operator a) = tree.headed (unary_word operator) (a ∷ [])
form_of (Binary operator a b) = tree.headed (binary_word operator) (a ∷ b ∷ [])
form_of (Tuple es) = tree.headed (codes "tuple") es
form_of (At e i) = tree.headed (codes "at") (e ∷ Word i ∷ [])
form_of (ListOf t es) = tree.headed (codes "list") (t ∷ es)
form_of (For cs b) = tree.headed (codes "for") (Node cs ∷ b ∷ [])
form_of (Fold x e acc i b) = tree.headed (codes "fold") (Word x ∷ e ∷ Word acc ∷ i ∷ b ∷ [])
form_of (MapOf k t) = tree.headed (codes "map") (Word (key_word k) ∷ t ∷ [])
form_of (Put m k v) = tree.headed (codes "put") (m ∷ k ∷ v ∷ [])
form_of (Call op es) = tree.headed (codes "call") (Word op ∷ es)
form_of (Apply f es) = tree.headed f es

-- whether a language has a head
abbrev IsHead : Bool → Head → Type 0
IsHead maps h = head_of maps (spelled h) ≡ Some h

-- what the tables of a language ask of the words and counts of a shape
abbrev pub Lawful : Bool → Shape → Type 0
Lawful maps (Integer w) = is_integer w ≡ true
Lawful maps (Truth b) = Unit {0}
Lawful maps (Quoted t) = Unit {0}
Lawful maps (Used x) = word_shape maps x ≡ Some (Used x)
Lawful maps (Let x e b) = IsHead maps head.Let
Lawful maps (If c a b) = IsHead maps head.If
Lawful maps (And a b) = IsHead maps head.And
Lawful maps (Or a b) = IsHead maps head.Or
Lawful maps (Unary op a) = IsHead maps (head.Unary op)
Lawful maps (Binary op a b) = IsHead maps (head.Binary op)
Lawful maps (Tuple es) = IsHead maps head.Tuple × (some_of es ≡ Some es)
Lawful maps (At e i) = IsHead maps head.At × (is_place i ≡ true)
Lawful maps (ListOf t es) = IsHead maps head.List
Lawful maps (For cs b) = IsHead maps head.For × (some_of cs ≡ Some cs)
Lawful maps (Fold x e acc i b) = IsHead maps head.Fold
Lawful maps (MapOf k t) = IsHead maps head.Map
Lawful maps (Put m k v) = IsHead maps head.Put
Lawful maps (Call op es) = IsHead maps head.Call
Lawful maps (Apply f es) = (head_of maps f ≡ None) × (is_used maps f ≡ true)

pub record Is (maps : Bool) (f : Form) (s : Shape) : Type 0 where
  pub form : f ≡ form_of s
  pub lawful : Lawful maps s

is_same : (maps : Bool) (f : Form) (s t : Shape) → Some s ≡ Some t → Is maps f s → Is maps f t
is_same maps f s t e i = let q : s ≡ t = cc in subst (Is maps f) q i

headed_is : (maps : Bool) (h : Head) (parts : List Form) (s : Shape) → IsHead maps h → headed h parts ≡ Some s → Is maps (tree.headed (spelled h) parts) s
unfolding spelled
headed_is maps head.Let (x ∷ e ∷ b ∷ []) s o k =
    let p = made_some (word_of x) (λ x. Some (Let x e b)) s k in
    is_same maps _ _ _ p.2 (record { form = ap (λ y. tree.headed (codes "let") (y ∷ e ∷ b ∷ [])) (word_is x p.0 p.1); lawful = o })
headed_is maps head.If (c ∷ a ∷ b ∷ []) s o k = is_same maps _ (If c a b) s k (record { form = refl; lawful = o })
headed_is maps head.And (a ∷ b ∷ []) s o k = is_same maps _ (And a b) s k (record { form = refl; lawful = o })
headed_is maps head.Or (a ∷ b ∷ []) s o k = is_same maps _ (Or a b) s k (record { form = refl; lawful = o })
headed_is maps (head.Unary op) (a ∷ []) s o k = is_same maps _ (Unary op a) s k (record { form = refl; lawful = o })
headed_is maps (head.Binary op) (a ∷ b ∷ []) s o k = is_same maps _ (Binary op a b) s k (record { form = refl; lawful = o })
headed_is maps head.Tuple (t ∷ es) s o k = is_same maps _ (Tuple (t ∷ es)) s k (record { form = refl; lawful = (o, refl) })
headed_is maps head.At (e ∷ i ∷ []) s o k =
    let p = made_some (word_of i) (λ i. where_true (is_place i) (At e i)) s k in
    let q = where_some (is_place p.0) (At e p.0) s p.2 in
    is_same maps _ _ _ q.1 (record { form = ap (λ y. tree.headed (codes "at") (e ∷ y ∷ [])) (word_is i p.0 p.1); lawful = (o, q.0) })
headed_is maps head.List (t ∷ es) s o k = is_same maps _ (ListOf t es) s k (record { form = refl; lawful = o })
headed_is maps head.For (cs ∷ b ∷ []) s o k =
    let p = made_some (node_of cs) (λ cs. and_then (some_of cs) (λ cs. Some (For cs b))) s k in
    let q = made_some (some_of p.0) (λ cs. Some (For cs b)) s p.2 in
    let i = some_same p.0 q.0 q.1 in
    is_same maps _ _ _ q.2 (record { form = ap (λ y. tree.headed (codes "for") (y ∷ b ∷ [])) (node_is cs p.0 p.1 ∙ ap Node i); lawful = (o, ap some_of (sym i) ∙ q.1) })
headed_is maps head.Fold (x ∷ e ∷ acc ∷ i ∷ b ∷ []) s o k =
    let p = made_some (word_of x) (λ x. and_then (word_of acc) (λ acc. Some (Fold x e acc i b))) s k in
    let q = made_some (word_of acc) (λ acc. Some (Fold p.0 e acc i b)) s p.2 in
    is_same maps _ _ _ q.2 (record {
      form = ap (λ y. tree.headed (codes "fold") (y ∷ e ∷ acc ∷ i ∷ b ∷ [])) (word_is x p.0 p.1) ∙ ap (λ y. tree.headed (codes "fold") (Word p.0 ∷ e ∷ y ∷ i ∷ b ∷ [])) (word_is acc q.0 q.1);
      lawful = o;
    })
headed_is maps head.Map (k ∷ t ∷ []) s o e =
    let p = made_some (key_shape k) (λ k. Some (MapOf k t)) s e in
    is_same maps _ _ _ p.2 (record { form = ap (λ y. tree.headed (codes "map") (y ∷ t ∷ [])) (key_is k p.0 p.1); lawful = o })
headed_is maps head.Put (m ∷ k ∷ v ∷ []) s o e = is_same maps _ (Put m k v) s e (record { form = refl; lawful = o })
headed_is maps head.Call (op ∷ es) s o k =
    let p = made_some (word_of op) (λ op. Some (Call op es)) s k in
    is_same maps _ _ _ p.2 (record { form = ap (λ y. tree.headed (codes "call") (y ∷ es)) (word_is op p.0 p.1); lawful = o })
headed_is maps _ _ s o k = absurd (cc)

applied_is : (maps : Bool) (o : Option Head) (w : List ℕ) (parts : List Form) (s : Shape) → head_of maps w ≡ o → applied maps o w parts ≡ Some s → Is maps (tree.headed w parts) s
applied_is maps (Some h) w parts s e k =
    let n = head_word maps w h e in
    let i = headed_is maps h parts s (ap (head_of maps) (sym n) ∙ e) k in
    record { form = ap (λ v. tree.headed v parts) n ∙ i.form; lawful = i.lawful }
applied_is maps None w parts s e k =
    let q = where_some (is_used maps w) (Apply w parts) s k in
    is_same maps _ _ _ q.1 (record { form = refl; lawful = (e, q.0) })

node_shape_is : (maps : Bool) (parts : List Form) (s : Shape) → node_shape maps parts ≡ Some s → Is maps (Node parts) s
node_shape_is maps [] s k = absurd (cc)
node_shape_is maps (h ∷ parts) s k =
    let p = made_some (word_of h) (λ w. applied maps (head_of maps w) w parts) s k in
    let i = applied_is maps (head_of maps p.0) p.0 parts s refl p.2 in
    record { form = ap (λ y. Node (y ∷ parts)) (word_is h p.0 p.1) ∙ i.form; lawful = i.lawful }

-- whether a word may be a name that is used, the state and the result among them
abbrev is_named : Bool → List ℕ → Bool
is_named maps w = bytes_eq w (codes "s") || bytes_eq w (codes "r") || is_used maps w

words : (maps a b c d : Bool) (w : List ℕ) (s : Shape) → is_integer w ≡ a → bytes_eq w (codes "true") ≡ b → bytes_eq w (codes "false") ≡ c → is_named maps w ≡ d
    → (if a then Some (Integer w) else if b then Some (Truth true) else if c then Some (Truth false) else where_true d (Used w)) ≡ Some s → Is maps (Word w) s
words maps true b c d w s ea eb ec ed k = is_same maps _ (Integer w) s k (record { form = refl; lawful = ea })
words maps false true c d w s ea eb ec ed k = is_same maps _ (Truth true) s k (record { form = ap Word ((bytes_eq-Decides w (codes "true")).0 eb); lawful = tt })
words maps false false true d w s ea eb ec ed k = is_same maps _ (Truth false) s k (record { form = ap Word ((bytes_eq-Decides w (codes "false")).0 ec); lawful = tt })
words maps false false false true w s ea eb ec ed k =
    is_same maps _ (Used w) s k (record {
      form = refl;
      lawful =
          ap (λ a. if a then Some (Integer w) else if bytes_eq w (codes "true") then Some (Truth true) else if bytes_eq w (codes "false") then Some (Truth false) else where_true (is_named maps w) (Used w)) ea
          ∙ ap (λ b. if b then Some (Truth true) else if bytes_eq w (codes "false") then Some (Truth false) else where_true (is_named maps w) (Used w)) eb
          ∙ ap (λ c. if c then Some (Truth false) else where_true (is_named maps w) (Used w)) ec
          ∙ ap (λ d. where_true d (Used w)) ed;
    })
words maps false false false false w s ea eb ec ed k = absurd (cc)

shape_is_at : (maps : Bool) (d : Form-F Form) (f : Form) (s : Shape) → roll-Form d ≡ f → shape_at maps d ≡ Some s → Is maps f s
shape_is_at maps (Form-F.Word w) f s r k =
    let i = words maps (is_integer w) (bytes_eq w (codes "true")) (bytes_eq w (codes "false")) (is_named maps w) w s refl refl refl refl k in
    record { form = sym r ∙ rolls-Word w ∙ i.form; lawful = i.lawful }
shape_is_at maps (Form-F.Text t) f s r k = is_same maps _ (Quoted t) s k (record { form = sym r ∙ rolls-Text t; lawful = tt })
shape_is_at maps (Form-F.Node parts) f s r k = let i = node_shape_is maps parts s k in record { form = sym r ∙ rolls-Node parts ∙ i.form; lawful = i.lawful }

-- what the table of expressions says of a tree is what it is
pub shape_is : (maps : Bool) (f : Form) (s : Shape) → shape_of maps f ≡ Some s → Is maps f s
unfolding shape_of
shape_is maps f s k = shape_is_at maps (out-Form f) f s (roll-out-Form f) k

-- ---- the table, forwards

shape_word : (maps : Bool) (w : List ℕ) → shape_of maps (Word w) ≡ word_shape maps w
unfolding shape_of
shape_word maps w = ap (λ f. shape_at maps (out-Form f)) (sym (rolls-Word w)) ∙ ap (shape_at maps) (out-roll-Form (Form-F.Word w))

shape_text : (maps : Bool) (w : List ℕ) → shape_of maps (Text w) ≡ Some (Quoted w)
unfolding shape_of
shape_text maps w = ap (λ f. shape_at maps (out-Form f)) (sym (rolls-Text w)) ∙ ap (shape_at maps) (out-roll-Form (Form-F.Text w))

shape_node : (maps : Bool) (w : List ℕ) (parts : List Form) → shape_of maps (tree.headed w parts) ≡ applied maps (head_of maps w) w parts
unfolding shape_of
shape_node maps w parts =
    ap (λ f. shape_at maps (out-Form f)) (sym (rolls-Node (Word w ∷ parts))) ∙ ap (shape_at maps) (out-roll-Form (Form-F.Node (Word w ∷ parts)))
    ∙ ap (λ o. and_then o (λ v. applied maps (head_of maps v) v parts)) (word_of_word w)

at_head : (maps : Bool) (w : List ℕ) (h : Head) (parts : List Form) → head_of maps w ≡ Some h → shape_of maps (tree.headed w parts) ≡ headed h parts
at_head maps w h parts e = shape_node maps w parts ∙ ap (λ o. applied maps o w parts) e

integer_shape : (maps : Bool) (w : List ℕ) → is_integer w ≡ true → word_shape maps w ≡ Some (Integer w)
integer_shape maps w e = ap (λ a. if a then Some (Integer w) else if bytes_eq w (codes "true") then Some (Truth true) else if bytes_eq w (codes "false") then Some (Truth false) else where_true (is_named maps w) (Used w)) e

truth_shape : (maps b : Bool) → word_shape maps (truth_word b) ≡ Some (Truth b)
unfolding is_integer
truth_shape maps true = refl
truth_shape maps false = refl

-- the table answers the shape of the tree that is written for it
pub shaped : (maps : Bool) (s : Shape) → Lawful maps s → shape_of maps (form_of s) ≡ Some s
unfolding spelled
shaped maps (Integer w) l = shape_word maps w ∙ integer_shape maps w l
shaped maps (Truth b) l = shape_word maps (truth_word b) ∙ truth_shape maps b
shaped maps (Quoted t) l = shape_text maps t
shaped maps (Used x) l = shape_word maps x ∙ l
shaped maps (Let x e b) l = at_head maps (codes "let") head.Let (Word x ∷ e ∷ b ∷ []) l ∙ ap (λ o. and_then o (λ x. Some (Let x e b))) (word_of_word x)
shaped maps (If c a b) l = at_head maps (codes "if") head.If (c ∷ a ∷ b ∷ []) l
shaped maps (And a b) l = at_head maps (codes "and") head.And (a ∷ b ∷ []) l
shaped maps (Or a b) l = at_head maps (codes "or") head.Or (a ∷ b ∷ []) l
shaped maps (Unary op a) l = at_head maps (unary_word op) (head.Unary op) (a ∷ []) l
shaped maps (Binary op a b) l = at_head maps (binary_word op) (head.Binary op) (a ∷ b ∷ []) l
shaped maps (Tuple es) l = at_head maps (codes "tuple") head.Tuple es l.0 ∙ ap (λ o. and_then o (λ es. Some (Tuple es))) l.1
shaped maps (At e i) l = at_head maps (codes "at") head.At (e ∷ Word i ∷ []) l.0 ∙ ap (λ o. and_then o (λ i. where_true (is_place i) (At e i))) (word_of_word i) ∙ ap (λ b. where_true b (At e i)) l.1
shaped maps (ListOf t es) l = at_head maps (codes "list") head.List (t ∷ es) l
shaped maps (For cs b) l = at_head maps (codes "for") head.For (Node cs ∷ b ∷ []) l.0 ∙ ap (λ o. and_then o (λ cs. and_then (some_of cs) (λ cs. Some (For cs b)))) (node_of_node cs) ∙ ap (λ o. and_then o (λ cs. Some (For cs b))) l.1
shaped maps (Fold x e acc i b) l =
    at_head maps (codes "fold") head.Fold (Word x ∷ e ∷ Word acc ∷ i ∷ b ∷ []) l
    ∙ ap (λ o. and_then o (λ x. and_then (word_of (Word acc)) (λ acc. Some (Fold x e acc i b)))) (word_of_word x)
    ∙ ap (λ o. and_then o (λ acc. Some (Fold x e acc i b))) (word_of_word acc)
shaped maps (MapOf k t) l = at_head maps (codes "map") head.Map (Word (key_word k) ∷ t ∷ []) l ∙ ap (λ o. and_then o (λ k. Some (MapOf k t))) (key_shaped k)
shaped maps (Put m k v) l = at_head maps (codes "put") head.Put (m ∷ k ∷ v ∷ []) l
shaped maps (Call op es) l = at_head maps (codes "call") head.Call (Word op ∷ es) l ∙ ap (λ o. and_then o (λ op. Some (Call op es))) (word_of_word op)
shaped maps (Apply f es) l = shape_node maps f es ∙ ap (λ o. applied maps o f es) l.0 ∙ ap (λ b. where_true b (Apply f es)) l.1
