-- The tables of items, callbacks, parameters and models, backwards and forwards.
use Rattle.std.proofs.Common.{◌≡◌, ℕ, Bool, true, false, List, [], ◌∷◌, Some, None, refl, ap, ◌∙◌}
use Rattle.std.specs.Prelude.{if◌then◌else◌, codes}
use Rattle.std.specs.Str.{bytes_eq}
use Rattle.std.proofs.lemmas.Slice.Eq.{bytes_eq-Decides}
use Rattle.pst_sexpr.specs.declared.form.Form.{Form}
use Rattle.pst_sexpr.specs.declared.form.Form.TheVariants.{Word, Node}
use Rattle.pst_sexpr.specs.Parts.{word_of, node_of, and_then, headed}
use Rattle.pst_syntax.specs.ItemShape.{ItemShape, CallbackShape, ModelShape, StateItem, InitItem, CommandItem, FunItem, OpItem, Pre, Next, Post, single, as_fun, as_op, item_shape, item_node, item_headed, callback_shape, callback_node, callback_headed, param_shape, param_node, model_shape, model_node, as_model, language}
use Rattle.pst_print.specs.Printed.{fun_word}
use Rattle.pst_print.specs.Words.{model_word}
use Rattle.pst_print.proofs.Alike.{node_of_node, word_of_word}
use Rattle.pst_print.proofs.Shapes.{word_is, node_is, made_some}

-- ---- items

abbrev pub item_form_of : ItemShape → Form
item_form_of (StateItem t) = headed (codes "state") (t ∷ [])
item_form_of (InitItem e) = headed (codes "init") (e ∷ [])
item_form_of (CommandItem e) = headed (codes "command") (e ∷ [])
item_form_of (FunItem is_post x ps t e) = headed (fun_word is_post) (Word x ∷ Node ps ∷ t ∷ e ∷ [])
item_form_of (OpItem x ps t callbacks) = headed (codes "op") (Word x ∷ Node ps ∷ t ∷ callbacks)

item_got : (s t : ItemShape) → Some s ≡ Some t → item_form_of s ≡ item_form_of t
item_got s t e = let q : s ≡ t = cc in ap item_form_of q

single_is : (parts : List Form) (make : Form → ItemShape) (s : ItemShape) → single parts make ≡ Some s → (part : Form) × (parts ≡ part ∷ []) × (Some (make part) ≡ Some s)
single_is (part ∷ []) make s k = (part, refl, k)
single_is [] make s k = absurd (cc)
single_is (part ∷ other ∷ parts) make s k = absurd (cc)

fun_is : (b : Bool) (parts : List Form) (s : ItemShape) → as_fun b parts ≡ Some s → headed (fun_word b) parts ≡ item_form_of s
fun_is b (x ∷ ps ∷ t ∷ e ∷ []) s k =
    let p = made_some (word_of x) (λ x. and_then (node_of ps) (λ ps. Some (FunItem b x ps t e))) s k in
    let q = made_some (node_of ps) (λ ps. Some (FunItem b p.0 ps t e)) s p.2 in
    ap (λ y. headed (fun_word b) (y ∷ ps ∷ t ∷ e ∷ [])) (word_is x p.0 p.1) ∙ ap (λ y. headed (fun_word b) (Word p.0 ∷ y ∷ t ∷ e ∷ [])) (node_is ps q.0 q.1) ∙ item_got _ s q.2
fun_is b _ s k = absurd (cc)

op_is : (parts : List Form) (s : ItemShape) → as_op parts ≡ Some s → headed (codes "op") parts ≡ item_form_of s
op_is (x ∷ ps ∷ t ∷ cs) s k =
    let p = made_some (word_of x) (λ x. and_then (node_of ps) (λ ps. Some (OpItem x ps t cs))) s k in
    let q = made_some (node_of ps) (λ ps. Some (OpItem p.0 ps t cs)) s p.2 in
    ap (λ y. headed (codes "op") (y ∷ ps ∷ t ∷ cs)) (word_is x p.0 p.1) ∙ ap (λ y. headed (codes "op") (Word p.0 ∷ y ∷ t ∷ cs)) (node_is ps q.0 q.1) ∙ item_got _ s q.2
op_is _ s k = absurd (cc)

item_words : (a b c d e f : Bool) (w : List ℕ) (parts : List Form) (s : ItemShape) → (a ≡ true → w ≡ codes "state") → (b ≡ true → w ≡ codes "init") → (c ≡ true → w ≡ codes "command")
    → (d ≡ true → w ≡ codes "fun") → (e ≡ true → w ≡ codes "postfun") → (f ≡ true → w ≡ codes "op")
    → (if a then single parts StateItem else if b then single parts InitItem else if c then single parts CommandItem else if d then as_fun false parts else if e then as_fun true parts else if f then as_op parts else None) ≡ Some s
    → headed w parts ≡ item_form_of s
item_words true b c d e f w parts s ha hb hc hd he hf k =
    let p = single_is parts StateItem s k in
    ap (λ v. headed v parts) (ha refl) ∙ ap (headed (codes "state")) p.1 ∙ item_got (StateItem p.0) s p.2
item_words false true c d e f w parts s ha hb hc hd he hf k =
    let p = single_is parts InitItem s k in
    ap (λ v. headed v parts) (hb refl) ∙ ap (headed (codes "init")) p.1 ∙ item_got (InitItem p.0) s p.2
item_words false false true d e f w parts s ha hb hc hd he hf k =
    let p = single_is parts CommandItem s k in
    ap (λ v. headed v parts) (hc refl) ∙ ap (headed (codes "command")) p.1 ∙ item_got (CommandItem p.0) s p.2
item_words false false false true e f w parts s ha hb hc hd he hf k = ap (λ v. headed v parts) (hd refl) ∙ fun_is false parts s k
item_words false false false false true f w parts s ha hb hc hd he hf k = ap (λ v. headed v parts) (he refl) ∙ fun_is true parts s k
item_words false false false false false true w parts s ha hb hc hd he hf k = ap (λ v. headed v parts) (hf refl) ∙ op_is parts s k
item_words false false false false false false w parts s ha hb hc hd he hf k = absurd (cc)

item_node_is : (parts : List Form) (s : ItemShape) → item_node parts ≡ Some s → Node parts ≡ item_form_of s
item_node_is [] s k = absurd (cc)
item_node_is (h ∷ parts) s k =
    let p = made_some (word_of h) (λ w. item_headed w parts) s k in
    let w = p.0 in
    ap (λ y. Node (y ∷ parts)) (word_is h p.0 p.1)
    ∙ item_words (bytes_eq w (codes "state")) (bytes_eq w (codes "init")) (bytes_eq w (codes "command")) (bytes_eq w (codes "fun")) (bytes_eq w (codes "postfun")) (bytes_eq w (codes "op")) w parts s
    (bytes_eq-Decides w (codes "state")).0 (bytes_eq-Decides w (codes "init")).0 (bytes_eq-Decides w (codes "command")).0 (bytes_eq-Decides w (codes "fun")).0 (bytes_eq-Decides w (codes "postfun")).0 (bytes_eq-Decides w (codes "op")).0 p.2

-- what the table of items says of a tree is what it is
pub item_is : (f : Form) (s : ItemShape) → item_shape f ≡ Some s → f ≡ item_form_of s
unfolding item_shape
item_is f s k = let p = made_some (node_of f) item_node s k in node_is f p.0 p.1 ∙ item_node_is p.0 s p.2

item_at_word : (w : List ℕ) (parts : List Form) → item_shape (headed w parts) ≡ item_headed w parts
unfolding item_shape
item_at_word w parts = ap (λ o. and_then o item_node) (node_of_node (Word w ∷ parts)) ∙ ap (λ o. and_then o (λ v. item_headed v parts)) (word_of_word w)

fun_shaped : (b : Bool) (x : List ℕ) (ps : List Form) (t e : Form) → as_fun b (Word x ∷ Node ps ∷ t ∷ e ∷ []) ≡ Some (FunItem b x ps t e)
fun_shaped b x ps t e =
    ap (λ o. and_then o (λ x. and_then (node_of (Node ps)) (λ ps. Some (FunItem b x ps t e)))) (word_of_word x) ∙ ap (λ o. and_then o (λ ps. Some (FunItem b x ps t e))) (node_of_node ps)

pub item_shaped : (s : ItemShape) → item_shape (item_form_of s) ≡ Some s
item_shaped (StateItem t) = item_at_word (codes "state") (t ∷ [])
item_shaped (InitItem e) = item_at_word (codes "init") (e ∷ [])
item_shaped (CommandItem e) = item_at_word (codes "command") (e ∷ [])
item_shaped (FunItem true x ps t e) = item_at_word (codes "postfun") (Word x ∷ Node ps ∷ t ∷ e ∷ []) ∙ fun_shaped true x ps t e
item_shaped (FunItem false x ps t e) = item_at_word (codes "fun") (Word x ∷ Node ps ∷ t ∷ e ∷ []) ∙ fun_shaped false x ps t e
item_shaped (OpItem x ps t cs) =
    item_at_word (codes "op") (Word x ∷ Node ps ∷ t ∷ cs)
    ∙ ap (λ o. and_then o (λ x. and_then (node_of (Node ps)) (λ ps. Some (OpItem x ps t cs)))) (word_of_word x) ∙ ap (λ o. and_then o (λ ps. Some (OpItem x ps t cs))) (node_of_node ps)

-- ---- callbacks

abbrev pub callback_form_of : CallbackShape → Form
callback_form_of (Pre e) = headed (codes "pre") (e ∷ [])
callback_form_of (Next e) = headed (codes "next") (e ∷ [])
callback_form_of (Post e) = headed (codes "post") (e ∷ [])

callback_got : (s t : CallbackShape) → Some s ≡ Some t → callback_form_of s ≡ callback_form_of t
callback_got s t e = let q : s ≡ t = cc in ap callback_form_of q

callback_words : (a b c : Bool) (w : List ℕ) (e : Form) (s : CallbackShape) → (a ≡ true → w ≡ codes "pre") → (b ≡ true → w ≡ codes "next") → (c ≡ true → w ≡ codes "post")
    → (if a then Some (Pre e) else if b then Some (Next e) else if c then Some (Post e) else None) ≡ Some s → headed w (e ∷ []) ≡ callback_form_of s
callback_words true b c w e s ha hb hc k = ap (λ v. headed v (e ∷ [])) (ha refl) ∙ callback_got (Pre e) s k
callback_words false true c w e s ha hb hc k = ap (λ v. headed v (e ∷ [])) (hb refl) ∙ callback_got (Next e) s k
callback_words false false true w e s ha hb hc k = ap (λ v. headed v (e ∷ [])) (hc refl) ∙ callback_got (Post e) s k
callback_words false false false w e s ha hb hc k = absurd (cc)

callback_node_is : (parts : List Form) (s : CallbackShape) → callback_node parts ≡ Some s → Node parts ≡ callback_form_of s
callback_node_is (h ∷ e ∷ []) s k =
    let p = made_some (word_of h) (λ w. callback_headed w e) s k in
    let w = p.0 in
    ap (λ y. Node (y ∷ e ∷ [])) (word_is h p.0 p.1)
    ∙ callback_words (bytes_eq w (codes "pre")) (bytes_eq w (codes "next")) (bytes_eq w (codes "post")) w e s (bytes_eq-Decides w (codes "pre")).0 (bytes_eq-Decides w (codes "next")).0 (bytes_eq-Decides w (codes "post")).0 p.2
callback_node_is _ s k = absurd (cc)

pub callback_is : (f : Form) (s : CallbackShape) → callback_shape f ≡ Some s → f ≡ callback_form_of s
unfolding callback_shape
callback_is f s k = let p = made_some (node_of f) callback_node s k in node_is f p.0 p.1 ∙ callback_node_is p.0 s p.2

callback_at_word : (w : List ℕ) (e : Form) → callback_shape (headed w (e ∷ [])) ≡ callback_headed w e
unfolding callback_shape
callback_at_word w e = ap (λ o. and_then o callback_node) (node_of_node (Word w ∷ e ∷ [])) ∙ ap (λ o. and_then o (λ v. callback_headed v e)) (word_of_word w)

pub callback_shaped : (s : CallbackShape) → callback_shape (callback_form_of s) ≡ Some s
callback_shaped (Pre e) = callback_at_word (codes "pre") e
callback_shaped (Next e) = callback_at_word (codes "next") e
callback_shaped (Post e) = callback_at_word (codes "post") e

-- ---- parameters

param_node_is : (parts : List Form) (pair : List ℕ × Form) → param_node parts ≡ Some pair → Node parts ≡ Node (Word pair.0 ∷ pair.1 ∷ [])
param_node_is (x ∷ t ∷ []) pair k =
    let p = made_some (word_of x) (λ x. Some (x, t)) pair k in
    let q : (p.0, t) ≡ pair = let m : Some (p.0, t) ≡ Some pair = p.2 in cc in
    ap (λ y. Node (y ∷ t ∷ [])) (word_is x p.0 p.1) ∙ ap (λ d. Node (Word d.0 ∷ d.1 ∷ [])) q
param_node_is _ pair k = absurd (cc)

pub param_is : (f : Form) (pair : List ℕ × Form) → param_shape f ≡ Some pair → f ≡ Node (Word pair.0 ∷ pair.1 ∷ [])
unfolding param_shape
param_is f pair k = let p = made_some (node_of f) param_node pair k in node_is f p.0 p.1 ∙ param_node_is p.0 pair p.2

-- ---- the model

-- the tree of a model's name and items, under the head of its language
abbrev pub model_form_of : ModelShape → Form
model_form_of m = headed (model_word m.has_maps) (Word m.name ∷ m.items)

abbrev pub model : Bool → List ℕ → List Form → ModelShape
model maps x items = record { has_maps = maps; name = x; items = items }

model_got : (m n : ModelShape) → Some m ≡ Some n → model_form_of m ≡ model_form_of n
model_got m n e = let q : m ≡ n = cc in ap model_form_of q

language_words : (a b : Bool) (w : List ℕ) (maps : Bool) → (a ≡ true → w ≡ codes "model") → (b ≡ true → w ≡ codes "model2") → (if a then Some false else if b then Some true else None) ≡ Some maps → w ≡ model_word maps
language_words true b w maps ha hb k = let q : false ≡ maps = cc in ha refl ∙ ap model_word q
language_words false true w maps ha hb k = let q : true ≡ maps = cc in hb refl ∙ ap model_word q
language_words false false w maps ha hb k = absurd (cc)

language_is : (w : List ℕ) (maps : Bool) → language w ≡ Some maps → w ≡ model_word maps
language_is w maps k = language_words (bytes_eq w (codes "model")) (bytes_eq w (codes "model2")) w maps (bytes_eq-Decides w (codes "model")).0 (bytes_eq-Decides w (codes "model2")).0 k

language_of_word : (maps : Bool) → language (model_word maps) ≡ Some maps
language_of_word true = refl
language_of_word false = refl

as_model_is : (w : List ℕ) (parts : List Form) (m : ModelShape) → as_model w parts ≡ Some m → headed w parts ≡ model_form_of m
as_model_is w [] m k = absurd (cc)
as_model_is w (x ∷ items) m k =
    let p = made_some (word_of x) (λ x. and_then (language w) (λ maps. Some (model maps x items))) m k in
    let q = made_some (language w) (λ maps. Some (model maps p.0 items)) m p.2 in
    ap (λ v. headed v (x ∷ items)) (language_is w q.0 q.1) ∙ ap (λ y. headed (model_word q.0) (y ∷ items)) (word_is x p.0 p.1) ∙ model_got (model q.0 p.0 items) m q.2

model_node_is : (parts : List Form) (m : ModelShape) → model_node parts ≡ Some m → Node parts ≡ model_form_of m
model_node_is [] m k = absurd (cc)
model_node_is (h ∷ parts) m k =
    let p = made_some (word_of h) (λ w. as_model w parts) m k in
    ap (λ y. Node (y ∷ parts)) (word_is h p.0 p.1) ∙ as_model_is p.0 parts m p.2

pub model_is : (f : Form) (m : ModelShape) → model_shape f ≡ Some m → f ≡ model_form_of m
unfolding model_shape
model_is f m k = let p = made_some (node_of f) model_node m k in node_is f p.0 p.1 ∙ model_node_is p.0 m p.2

pub model_shaped : (m : ModelShape) → model_shape (model_form_of m) ≡ Some m
unfolding model_shape
model_shaped m =
    let head = model_word m.has_maps in
    let parts = Word m.name ∷ m.items in
    ap (λ o. and_then o model_node) (node_of_node (Word head ∷ parts)) ∙ ap (λ o. and_then o (λ v. as_model v parts)) (word_of_word head)
    ∙ ap (λ o. and_then o (λ x. and_then (language head) (λ maps. Some (model maps x m.items)))) (word_of_word m.name)
    ∙ ap (λ o. and_then o (λ maps. Some (model maps m.name m.items))) (language_of_word m.has_maps)
