-- The refusal of a model is the first of its faults.
use Rattle.std.proofs.Common.{◌≡◌, ℕ, ◌+◌, Bool, true, false, List, [], ◌∷◌, ◌++◌, length, map, Option, Some, None, Result, Ok, Err, refl, sym, ap, ◌∙◌, arith, subst, length-append}
use Rattle.std.specs.Prelude.{nat_le, nat_lt, not, cond, ◌&&◌, ◌||◌}
use Rattle.std.specs.List.{list_any, count_by}
use Rattle.std.specs.Str.{bytes_eq}
use Rattle.std.proofs.lemmas.List.Sums.{sum_by-append}
use Rattle.std.proofs.lemmas.List.Folds.{list_any-append}
use Rattle.pst_sexpr.specs.declared.form.Form.{Form}
use Rattle.pst_model.specs.declared.expr.Expr.{Expr}
use Rattle.pst_model.specs.declared.model.Item.{Item}
use Rattle.pst_model.specs.declared.model.Item.TheVariants as item
use Rattle.pst_model.specs.declared.model.Param.{Param}
use Rattle.pst_model.specs.declared.model.Fun.{Fun}
use Rattle.pst_model.specs.declared.model.Op.{Op}
use Rattle.pst_model.specs.declared.model.Source.{Source}
use Rattle.pst_syntax.specs.declared.fault.FaultKind.{FaultKind}
use Rattle.pst_syntax.specs.declared.fault.FaultKind.TheVariants.{DoubleName, OverLimit, Missing}
use Rattle.pst_syntax.specs.declared.fault.SyntaxFault.{SyntaxFault}
use Rattle.pst_syntax.specs.declared.items.Callbacks.{Callbacks}
use Rattle.pst_syntax.specs.declared.items.AllCallbacks.{AllCallbacks}
use Rattle.pst_model.specs.Names.{is_name}
use Rattle.pst_syntax.specs.Names.{is_free, is_short}
use Rattle.pst_syntax.specs.Counting.{trees_in}
use Rattle.pst_syntax.specs.ItemShape.{ItemShape, CallbackShape, ModelShape, StateItem, InitItem, CommandItem, FunItem, OpItem, Pre, Next, Post, item_shape, callback_shape, param_shape, model_shape}
use Rattle.pst_syntax.specs.Reading.{Read, ◌>>=◌, known, within, once, declared, are_few}
use Rattle.pst_syntax.specs.Limits.{ty_room, expr_room}
use Rattle.pst_syntax.specs.Items.{in_item, whole_ty, whole_expr, is_param, param_of, params_from, params_of, is_some, no_callbacks, callback_of, callbacks_from, there, all_callbacks, fun_of, op_parts, item_parts, item_of, at_item, go_on, items_from, is_complete, complete, head_parts, head_of_model, model_of}
use Rattle.pst_syntax.specs.Limits.{max_declared, max_trees}
use Rattle.pst_syntax.specs.Items as read
use Rattle.pst_syntax.specs.Faults.{unless, faults_of, name_faults, ty_faults, expr_faults, first, refusal}
use Rattle.pst_syntax.specs.ModelFaults.{seen_with, is_named, param_faults, params_faults_after, params_faults, is_pre, is_next, is_post, callback_faults, callbacks_faults, item_faults, items_faults, named_faults, model_faults}
use Rattle.pst_syntax.specs.ModelFaults as faults
use Rattle.pst_syntax.proofs.First.{Same, onward, done, limited, shaped, declared_same, ty_same, expr_same}
use Rattle.pst_syntax.proofs.Complete.{bind_ok, known_ok, within_ok, once_ok, okay}

-- ---- steps

-- one part, and then the rest, of which what was read is known
step : {A B : Type 0} (r : Read A) (f : A → Read B) (ks more : List FaultKind) → Same r ks → ((a : A) → r ≡ Ok a → Same (f a) more) → Same (r >>= f) (ks ++ more)
step (Ok a) f [] more h g = g a refl
step (Ok a) f (k ∷ ks) more h g = absurd (cc)
step (Err w) f [] more h g = absurd (cc)
step (Err w) f (k ∷ ks) more h g = h

-- what stands there, and then the rest
shape_step : {S A B : Type 0} (shape : Option S) (r : S → Read A) (ks : S → List FaultKind) (f : A → Read B) (more : List FaultKind)
    → ((s : S) → Same (r s) (ks s)) → ((s : S) (a : A) → shape ≡ Some s → r s ≡ Ok a → Same (f a) more)
    → Same (known shape r >>= f) (faults_of shape ks ++ more)
shape_step None r ks f more h g = refl
shape_step (Some s) r ks f more h g = step (r s) f (ks s) more (h s) (λ a e. g s a refl e)

single : {A : Type 0} (b c : Bool) (r : Read A) (ks : List FaultKind) → b ≡ c → Same r ks → Same (once b r) (unless (not c) DoubleName ks)
single true true r ks e h = refl
single false false r ks e h = h
single true false r ks e h = absurd (cc)
single false true r ks e h = absurd (cc)

fitting : {A : Type 0} (b c : Bool) (r : Read A) (ks : List FaultKind) → b ≡ c → Same r ks → Same (within b r) (unless c OverLimit ks)
fitting b c r ks e h = subst (λ (c : Bool). Same (within b r) (unless c OverLimit ks)) e (limited b r ks h)

declared_as : (is_lawful taken other : Bool) (w : List ℕ) → taken ≡ other → Same (declared is_lawful taken w) (name_faults is_lawful other w)
declared_as is_lawful taken other w e = subst (λ (c : Bool). Same (declared is_lawful taken w) (name_faults is_lawful c w)) e (declared_same is_lawful taken w)

declared_is : (is_lawful taken : Bool) (w x : List ℕ) → declared is_lawful taken w ≡ Ok x → w ≡ x
unfolding declared
declared_is true false w x e = okay w x ((within_ok (is_short w) (Ok w) x e).1)
declared_is true true w x e = absurd (cc)
declared_is false taken w x e = absurd (cc)

-- ---- tests of lists that grow at the end

any_more : {A B : Type 0} (p : A → Bool) (q : B → Bool) (xs : List A) (ys : List B) (x : A) (y : B) → list_any p xs ≡ list_any q ys → p x ≡ q y → list_any p (xs ++ x ∷ []) ≡ list_any q (ys ++ y ∷ [])
any_more p q xs ys x y h e = list_any-append p xs (x ∷ []) ∙ ap (λ b. b || (p x || false)) h ∙ ap (λ c. list_any q ys || (c || false)) e ∙ sym (list_any-append q ys (y ∷ []))

count_more : {A B : Type 0} (p : A → Bool) (q : B → Bool) (xs : List A) (ys : List B) (x : A) (y : B) → count_by p xs ≡ count_by q ys → p x ≡ q y → count_by p (xs ++ x ∷ []) ≡ count_by q (ys ++ y ∷ [])
count_more p q xs ys x y h e =
    let a : count_by p (xs ++ x ∷ []) ≡ count_by p xs + count_by p (x ∷ []) = sum_by-append (λ x. cond (p x) 1 0) xs (x ∷ []) in
    let b : count_by q (ys ++ y ∷ []) ≡ count_by q ys + count_by q (y ∷ []) = sum_by-append (λ y. cond (q y) 1 0) ys (y ∷ []) in
    let c : count_by p (x ∷ []) ≡ count_by q (y ∷ []) = ap (λ b. 0 + cond b 1 0) e in
    cc

-- ---- parameters

-- the parameters that were read have the names that were seen
record SameNames (params : List Param) (seen : List (List ℕ × Form)) : Type 0 where
  names : (word : List ℕ) → is_param params word ≡ list_any (is_named word) seen

names_more : (maps : Bool) (params : List Param) (seen : List (List ℕ × Form)) (param : Param) (pair : List ℕ × Form) → SameNames params seen → param_of maps params pair ≡ Ok param → SameNames (params ++ param ∷ []) (seen ++ pair ∷ [])
names_more maps params seen param pair s e =
    let p = bind_ok (declared (is_free maps pair.0) (is_param params pair.0) pair.0) (λ x. whole_ty maps pair.1 >>= (λ t. Ok (record { name = x; ty = t }))) param e in
    let q = bind_ok (whole_ty maps pair.1) (λ t. Ok (record { name = p.0; ty = t })) param p.2 in
    let r : pair.0 ≡ p.0 = declared_is (is_free maps pair.0) (is_param params pair.0) pair.0 p.0 p.1 in
    let t : record { name = p.0; ty = q.0 } ≡ param = okay (record { name = p.0; ty = q.0 }) param q.2 in
    let n : param.name ≡ pair.0 = ap (λ (p : Param). p.name) (sym t) ∙ sym r in
    record { names = λ word. any_more (λ param. bytes_eq param.name word) (is_named word) params seen param pair (s.names word) (ap (λ x. bytes_eq x word) n) }

param_same : (maps : Bool) (params : List Param) (seen : List (List ℕ × Form)) (pair : List ℕ × Form) → SameNames params seen → Same (param_of maps params pair) (param_faults maps seen pair)
param_same maps params seen pair s =
    step (declared (is_free maps pair.0) (is_param params pair.0) pair.0) _ (name_faults (is_free maps pair.0) (list_any (is_named pair.0) seen) pair.0) _
    (declared_as (is_free maps pair.0) (is_param params pair.0) (list_any (is_named pair.0) seen) pair.0 (s.names pair.0))
    (λ x e. done (whole_ty maps pair.1) _ (ty_faults maps ty_room pair.1) (ty_same maps ty_room pair.1))

with_shape : {S : Type 0} (seen : List S) (shape : Option S) (s : S) → shape ≡ Some s → seen_with seen shape ≡ seen ++ s ∷ []
with_shape seen shape s e = ap (seen_with seen) e

params_after_same : (maps : Bool) (params : List Param) (seen : List (List ℕ × Form)) (forms : List Form) → SameNames params seen → Same (params_from maps params forms) (params_faults_after maps seen forms)
params_after_same maps params seen [] s = refl
params_after_same maps params seen (form ∷ forms) s =
    shape_step (param_shape form) (param_of maps params) (param_faults maps seen) (λ param. params_from maps (params ++ param ∷ []) forms) (params_faults_after maps (seen_with seen (param_shape form)) forms)
    (λ pair. param_same maps params seen pair s)
    (λ pair param e r. subst (λ (seen : List (List ℕ × Form)). Same (params_from maps (params ++ param ∷ []) forms) (params_faults_after maps seen forms)) (sym (with_shape seen (param_shape form) pair e))
    (params_after_same maps (params ++ param ∷ []) (seen ++ pair ∷ []) forms (names_more maps params seen param pair s r)))

params_same : (maps : Bool) (forms : List Form) → Same (params_of maps forms) (params_faults maps forms)
params_same maps forms = limited (are_few forms) (params_from maps [] forms) (params_faults_after maps [] forms) (params_after_same maps [] [] forms (record { names = λ word. refl }))

-- ---- callbacks

-- the callbacks that were read are those that were seen
record SameCallbacks (callbacks : Callbacks) (seen : List CallbackShape) : Type 0 where
  pre : is_some callbacks.pre ≡ list_any is_pre seen
  next : is_some callbacks.next ≡ list_any is_next seen
  post : is_some callbacks.post ≡ list_any is_post seen

callback_same : (maps : Bool) (callbacks : Callbacks) (seen : List CallbackShape) (shape : CallbackShape) → SameCallbacks callbacks seen → Same (callback_of maps callbacks shape) (callback_faults maps seen shape)
callback_same maps callbacks seen (Pre e) s = single (is_some callbacks.pre) (list_any is_pre seen) _ _ s.pre (done (whole_expr maps e) _ _ (expr_same maps expr_room e))
callback_same maps callbacks seen (Next e) s = single (is_some callbacks.next) (list_any is_next seen) _ _ s.next (done (whole_expr maps e) _ _ (expr_same maps expr_room e))
callback_same maps callbacks seen (Post e) s = single (is_some callbacks.post) (list_any is_post seen) _ _ s.post (done (whole_expr maps e) _ _ (expr_same maps expr_room e))

or_true : (b : Bool) → (b || (true || false)) ≡ true
or_true true = refl
or_true false = refl

or_false : (b : Bool) → (b || (false || false)) ≡ b
or_false true = refl
or_false false = refl

-- a test of the shapes that were seen, and of one that does or does not pass it
seen_yes : (p : CallbackShape → Bool) (seen : List CallbackShape) (shape : CallbackShape) → p shape ≡ true → true ≡ list_any p (seen ++ shape ∷ [])
seen_yes p seen shape e = sym (list_any-append p seen (shape ∷ []) ∙ ap (λ b. list_any p seen || (b || false)) e ∙ or_true (list_any p seen))

seen_no : (p : CallbackShape → Bool) (seen : List CallbackShape) (shape : CallbackShape) (b : Bool) → p shape ≡ false → b ≡ list_any p seen → b ≡ list_any p (seen ++ shape ∷ [])
seen_no p seen shape b e h = h ∙ sym (list_any-append p seen (shape ∷ []) ∙ ap (λ b. list_any p seen || (b || false)) e ∙ or_false (list_any p seen))

callback_more : (maps : Bool) (callbacks : Callbacks) (seen : List CallbackShape) (shape : CallbackShape) (new : Callbacks) → SameCallbacks callbacks seen → callback_of maps callbacks shape ≡ Ok new → SameCallbacks new (seen ++ shape ∷ [])
callback_more maps callbacks seen (Pre e) new s k =
    let p = once_ok (is_some callbacks.pre) (whole_expr maps e >>= (λ e. Ok (record callbacks { pre = Some e }))) new k in
    let q = bind_ok (whole_expr maps e) (λ e. Ok (record callbacks { pre = Some e })) new p.1 in
    let r : record callbacks { pre = Some q.0 } ≡ new = okay (record callbacks { pre = Some q.0 }) new q.2 in
    subst (λ (c : Callbacks). SameCallbacks c (seen ++ Pre e ∷ [])) r (record {
      pre = seen_yes is_pre seen (Pre e) refl;
      next = seen_no is_next seen (Pre e) (is_some callbacks.next) refl s.next;
      post = seen_no is_post seen (Pre e) (is_some callbacks.post) refl s.post;
    })
callback_more maps callbacks seen (Next e) new s k =
    let p = once_ok (is_some callbacks.next) (whole_expr maps e >>= (λ e. Ok (record callbacks { next = Some e }))) new k in
    let q = bind_ok (whole_expr maps e) (λ e. Ok (record callbacks { next = Some e })) new p.1 in
    let r : record callbacks { next = Some q.0 } ≡ new = okay (record callbacks { next = Some q.0 }) new q.2 in
    subst (λ (c : Callbacks). SameCallbacks c (seen ++ Next e ∷ [])) r (record {
      pre = seen_no is_pre seen (Next e) (is_some callbacks.pre) refl s.pre;
      next = seen_yes is_next seen (Next e) refl;
      post = seen_no is_post seen (Next e) (is_some callbacks.post) refl s.post;
    })
callback_more maps callbacks seen (Post e) new s k =
    let p = once_ok (is_some callbacks.post) (whole_expr maps e >>= (λ e. Ok (record callbacks { post = Some e }))) new k in
    let q = bind_ok (whole_expr maps e) (λ e. Ok (record callbacks { post = Some e })) new p.1 in
    let r : record callbacks { post = Some q.0 } ≡ new = okay (record callbacks { post = Some q.0 }) new q.2 in
    subst (λ (c : Callbacks). SameCallbacks c (seen ++ Post e ∷ [])) r (record {
      pre = seen_no is_pre seen (Post e) (is_some callbacks.pre) refl s.pre;
      next = seen_no is_next seen (Post e) (is_some callbacks.next) refl s.next;
      post = seen_yes is_post seen (Post e) refl;
    })

all_of : Expr → Expr → Expr → Read AllCallbacks
all_of pre next post = Ok (record { pre = pre; next = next; post = post })

three : (pre next post : Option Expr) → Same (there pre >>= (λ pre. there next >>= (λ next. there post >>= all_of pre next))) (unless (is_some pre && is_some next && is_some post) Missing [])
unfolding all_of
three None next post = refl
three (Some pre) None post = refl
three (Some pre) (Some next) None = refl
three (Some pre) (Some next) (Some post) = refl

all_there : (callbacks : Callbacks) (seen : List CallbackShape) → SameCallbacks callbacks seen → Same (all_callbacks callbacks) (unless (list_any is_pre seen && list_any is_next seen && list_any is_post seen) Missing [])
unfolding all_of
all_there callbacks seen s =
    let e : (is_some callbacks.pre && is_some callbacks.next && is_some callbacks.post) ≡ (list_any is_pre seen && list_any is_next seen && list_any is_post seen) =
    ap (λ b. b && is_some callbacks.next && is_some callbacks.post) s.pre ∙ ap (λ b. list_any is_pre seen && b && is_some callbacks.post) s.next ∙ ap (λ b. list_any is_pre seen && list_any is_next seen && b) s.post in
    subst (λ (b : Bool). Same (all_callbacks callbacks) (unless b Missing [])) e (three callbacks.pre callbacks.next callbacks.post)

bind_assoc : {A B C : Type 0} (r : Read A) (f : A → Read B) (g : B → Read C) → (r >>= (λ a. f a >>= g)) ≡ (r >>= f >>= g)
bind_assoc (Ok a) f g = refl
bind_assoc (Err kind) f g = refl

callbacks_same : (maps : Bool) (callbacks : Callbacks) (seen : List CallbackShape) (forms : List Form) → SameCallbacks callbacks seen → Same (callbacks_from maps callbacks forms >>= all_callbacks) (callbacks_faults maps seen forms)
callbacks_same maps callbacks seen [] s = all_there callbacks seen s
callbacks_same maps callbacks seen (form ∷ forms) s =
    subst (λ (r : Read AllCallbacks). Same r (callbacks_faults maps seen (form ∷ forms))) (bind_assoc (known (callback_shape form) (callback_of maps callbacks)) (λ callbacks. callbacks_from maps callbacks forms) all_callbacks)
    (shape_step (callback_shape form) (callback_of maps callbacks) (callback_faults maps seen) (λ callbacks. callbacks_from maps callbacks forms >>= all_callbacks) (callbacks_faults maps (seen_with seen (callback_shape form)) forms)
    (λ shape. callback_same maps callbacks seen shape s)
    (λ shape new e r. subst (λ (seen : List CallbackShape). Same (callbacks_from maps new forms >>= all_callbacks) (callbacks_faults maps seen forms)) (sym (with_shape seen (callback_shape form) shape e))
    (callbacks_same maps new (seen ++ shape ∷ []) forms (callback_more maps callbacks seen shape new s r))))

-- ---- items

-- the items that were read are those that were seen
record SameItems (items : List Item) (seen : List ItemShape) : Type 0 where
  state : list_any read.is_state items ≡ list_any faults.is_state seen
  init : list_any read.is_init items ≡ list_any faults.is_init seen
  command : list_any read.is_command items ≡ list_any faults.is_command seen
  functions : count_by read.is_fun items ≡ count_by faults.is_fun seen
  operations : count_by read.is_op items ≡ count_by faults.is_op seen
  fun_names : (word : List ℕ) → list_any (read.is_fun_named word) items ≡ list_any (faults.is_fun_named word) seen
  op_names : (word : List ℕ) → list_any (read.is_op_named word) items ≡ list_any (faults.is_op_named word) seen

record SameItem (i : Item) (shape : ItemShape) : Type 0 where
  state : read.is_state i ≡ faults.is_state shape
  init : read.is_init i ≡ faults.is_init shape
  command : read.is_command i ≡ faults.is_command shape
  function : read.is_fun i ≡ faults.is_fun shape
  operation : read.is_op i ≡ faults.is_op shape
  fun_name : (word : List ℕ) → read.is_fun_named word i ≡ faults.is_fun_named word shape
  op_name : (word : List ℕ) → read.is_op_named word i ≡ faults.is_op_named word shape

items_more : (items : List Item) (seen : List ItemShape) (i : Item) (shape : ItemShape) → SameItems items seen → SameItem i shape → SameItems (items ++ i ∷ []) (seen ++ shape ∷ [])
items_more items seen i shape s h = record {
  state = any_more read.is_state faults.is_state items seen i shape s.state h.state;
  init = any_more read.is_init faults.is_init items seen i shape s.init h.init;
  command = any_more read.is_command faults.is_command items seen i shape s.command h.command;
  functions = count_more read.is_fun faults.is_fun items seen i shape s.functions h.function;
  operations = count_more read.is_op faults.is_op items seen i shape s.operations h.operation;
  fun_names = λ word. any_more (read.is_fun_named word) (faults.is_fun_named word) items seen i shape (s.fun_names word) (h.fun_name word);
  op_names = λ word. any_more (read.is_op_named word) (faults.is_op_named word) items seen i shape (s.op_names word) (h.op_name word);
}

fun_named : (maps : Bool) (is_post : Bool) (items : List Item) (x : List ℕ) (ps : List Form) (t e : Form) (f : Fun) → fun_of maps is_post items x ps t e ≡ Ok f → f.name ≡ x
fun_named maps is_post items x ps t e f k =
    let p = bind_ok (declared (is_free maps x) (list_any (read.is_fun_named x) items) x) (λ x. params_of maps ps >>= (λ ps. whole_ty maps t >>= (λ t. whole_expr maps e >>= (λ e. Ok (record { is_post = is_post; name = x; params = ps; result = t; body = e }))))) f k in
    let q = bind_ok (params_of maps ps) (λ ps. whole_ty maps t >>= (λ t. whole_expr maps e >>= (λ e. Ok (record { is_post = is_post; name = p.0; params = ps; result = t; body = e })))) f p.2 in
    let u = bind_ok (whole_ty maps t) (λ t. whole_expr maps e >>= (λ e. Ok (record { is_post = is_post; name = p.0; params = q.0; result = t; body = e }))) f q.2 in
    let v = bind_ok (whole_expr maps e) (λ e. Ok (record { is_post = is_post; name = p.0; params = q.0; result = u.0; body = e })) f u.2 in
    let w : record { is_post = is_post; name = p.0; params = q.0; result = u.0; body = v.0 } ≡ f = okay (record { is_post = is_post; name = p.0; params = q.0; result = u.0; body = v.0 }) f v.2 in
    ap (λ (f : Fun). f.name) (sym w) ∙ sym (declared_is (is_free maps x) (list_any (read.is_fun_named x) items) x p.0 p.1)

op_named : (maps : Bool) (items : List Item) (x : List ℕ) (ps : List Form) (t : Form) (callbacks : List Form) (o : Op) → op_parts maps items x ps t callbacks ≡ Ok o → o.name ≡ x
op_named maps items x ps t callbacks o k =
    let p = bind_ok (declared (is_name x) (list_any (read.is_op_named x) items) x) (λ x. params_of maps ps >>= (λ ps. whole_ty maps t >>= (λ t. callbacks_from maps no_callbacks callbacks >>= all_callbacks >>= (λ all. Ok (record { name = x; params = ps; result = t; pre = all.pre; next = all.next; post = all.post }))))) o k in
    let q = bind_ok (params_of maps ps) (λ ps. whole_ty maps t >>= (λ t. callbacks_from maps no_callbacks callbacks >>= all_callbacks >>= (λ all. Ok (record { name = p.0; params = ps; result = t; pre = all.pre; next = all.next; post = all.post })))) o p.2 in
    let u = bind_ok (whole_ty maps t) (λ t. callbacks_from maps no_callbacks callbacks >>= all_callbacks >>= (λ all. Ok (record { name = p.0; params = q.0; result = t; pre = all.pre; next = all.next; post = all.post }))) o q.2 in
    let v = bind_ok (callbacks_from maps no_callbacks callbacks >>= all_callbacks) (λ all. Ok (record { name = p.0; params = q.0; result = u.0; pre = all.pre; next = all.next; post = all.post })) o u.2 in
    let w : record { name = p.0; params = q.0; result = u.0; pre = v.0.pre; next = v.0.next; post = v.0.post } ≡ o = okay (record { name = p.0; params = q.0; result = u.0; pre = v.0.pre; next = v.0.next; post = v.0.post }) o v.2 in
    ap (λ (o : Op). o.name) (sym w) ∙ sym (declared_is (is_name x) (list_any (read.is_op_named x) items) x p.0 p.1)

plain_item : (i : Item) (shape : ItemShape) → SameItem i shape → (j : Item) → i ≡ j → SameItem j shape
plain_item i shape s j e = subst (λ (i : Item). SameItem i shape) e s

item_is : (maps : Bool) (items : List Item) (shape : ItemShape) (i : Item) → item_parts maps items shape ≡ Ok i → SameItem i shape
item_is maps items (StateItem t) i k =
    let p = once_ok (list_any read.is_state items) (whole_ty maps t >>= (λ t. Ok (item.State t))) i k in
    let q = bind_ok (whole_ty maps t) (λ t. Ok (item.State t)) i p.1 in
    plain_item (item.State q.0) (StateItem t) (record { state = refl; init = refl; command = refl; function = refl; operation = refl; fun_name = λ word. refl; op_name = λ word. refl }) i (okay (item.State q.0) i q.2)
item_is maps items (InitItem e) i k =
    let p = once_ok (list_any read.is_init items) (whole_expr maps e >>= (λ e. Ok (item.Init e))) i k in
    let q = bind_ok (whole_expr maps e) (λ e. Ok (item.Init e)) i p.1 in
    plain_item (item.Init q.0) (InitItem e) (record { state = refl; init = refl; command = refl; function = refl; operation = refl; fun_name = λ word. refl; op_name = λ word. refl }) i (okay (item.Init q.0) i q.2)
item_is maps items (CommandItem e) i k =
    let p = once_ok (list_any read.is_command items) (whole_expr maps e >>= (λ e. Ok (item.Command e))) i k in
    let q = bind_ok (whole_expr maps e) (λ e. Ok (item.Command e)) i p.1 in
    plain_item (item.Command q.0) (CommandItem e) (record { state = refl; init = refl; command = refl; function = refl; operation = refl; fun_name = λ word. refl; op_name = λ word. refl }) i (okay (item.Command q.0) i q.2)
item_is maps items (FunItem is_post x ps t e) i k =
    let p = within_ok (read.has_room read.is_fun items) (fun_of maps is_post items x ps t e >>= (λ f. Ok (item.Fun f))) i k in
    let q = bind_ok (fun_of maps is_post items x ps t e) (λ f. Ok (item.Fun f)) i p.1 in
    let n : q.0.name ≡ x = fun_named maps is_post items x ps t e q.0 q.1 in
    plain_item (item.Fun q.0) (FunItem is_post x ps t e) (record { state = refl; init = refl; command = refl; function = refl; operation = refl; fun_name = λ word. ap (λ y. bytes_eq y word) n; op_name = λ word. refl }) i (okay (item.Fun q.0) i q.2)
item_is maps items (OpItem x ps t callbacks) i k =
    let p = within_ok (read.has_room read.is_op items) (op_parts maps items x ps t callbacks >>= (λ o. Ok (item.Op o))) i k in
    let q = bind_ok (op_parts maps items x ps t callbacks) (λ o. Ok (item.Op o)) i p.1 in
    let n : q.0.name ≡ x = op_named maps items x ps t callbacks q.0 q.1 in
    plain_item (item.Op q.0) (OpItem x ps t callbacks) (record { state = refl; init = refl; command = refl; function = refl; operation = refl; fun_name = λ word. refl; op_name = λ word. ap (λ y. bytes_eq y word) n }) i (okay (item.Op q.0) i q.2)

fun_same : (maps : Bool) (items : List Item) (seen : List ItemShape) (is_post : Bool) (x : List ℕ) (ps : List Form) (t e : Form) → SameItems items seen
    → Same (fun_of maps is_post items x ps t e) (name_faults (is_free maps x) (list_any (faults.is_fun_named x) seen) x ++ (params_faults maps ps ++ (ty_faults maps ty_room t ++ expr_faults maps expr_room e)))
fun_same maps items seen is_post x ps t e s =
    onward (declared (is_free maps x) (list_any (read.is_fun_named x) items) x) _ (name_faults (is_free maps x) (list_any (faults.is_fun_named x) seen) x) _
    (declared_as (is_free maps x) (list_any (read.is_fun_named x) items) (list_any (faults.is_fun_named x) seen) x (s.fun_names x)) (λ x.
    onward (params_of maps ps) _ (params_faults maps ps) _ (params_same maps ps) (λ ps.
    onward (whole_ty maps t) _ (ty_faults maps ty_room t) _ (ty_same maps ty_room t) (λ t.
    done (whole_expr maps e) _ (expr_faults maps expr_room e) (expr_same maps expr_room e))))

op_same : (maps : Bool) (items : List Item) (seen : List ItemShape) (x : List ℕ) (ps : List Form) (t : Form) (callbacks : List Form) → SameItems items seen
    → Same (op_parts maps items x ps t callbacks) (name_faults (is_name x) (list_any (faults.is_op_named x) seen) x ++ (params_faults maps ps ++ (ty_faults maps ty_room t ++ callbacks_faults maps [] callbacks)))
op_same maps items seen x ps t callbacks s =
    onward (declared (is_name x) (list_any (read.is_op_named x) items) x) _ (name_faults (is_name x) (list_any (faults.is_op_named x) seen) x) _
    (declared_as (is_name x) (list_any (read.is_op_named x) items) (list_any (faults.is_op_named x) seen) x (s.op_names x)) (λ x.
    onward (params_of maps ps) _ (params_faults maps ps) _ (params_same maps ps) (λ ps.
    onward (whole_ty maps t) _ (ty_faults maps ty_room t) _ (ty_same maps ty_room t) (λ t.
    done (callbacks_from maps no_callbacks callbacks >>= all_callbacks) _ (callbacks_faults maps [] callbacks)
    (callbacks_same maps no_callbacks [] callbacks (record { pre = refl; next = refl; post = refl })))))

item_same : (maps : Bool) (items : List Item) (seen : List ItemShape) (shape : ItemShape) → SameItems items seen → Same (item_parts maps items shape) (item_faults maps seen shape)
item_same maps items seen (StateItem t) s = single (list_any read.is_state items) (list_any faults.is_state seen) _ _ s.state (done (whole_ty maps t) _ _ (ty_same maps ty_room t))
item_same maps items seen (InitItem e) s = single (list_any read.is_init items) (list_any faults.is_init seen) _ _ s.init (done (whole_expr maps e) _ _ (expr_same maps expr_room e))
item_same maps items seen (CommandItem e) s = single (list_any read.is_command items) (list_any faults.is_command seen) _ _ s.command (done (whole_expr maps e) _ _ (expr_same maps expr_room e))
item_same maps items seen (FunItem is_post x ps t e) s =
    fitting (read.has_room read.is_fun items) (faults.has_room faults.is_fun seen) _ _ (ap (λ n. nat_lt n max_declared) s.functions) (done (fun_of maps is_post items x ps t e) _ _ (fun_same maps items seen is_post x ps t e s))
item_same maps items seen (OpItem x ps t callbacks) s =
    fitting (read.has_room read.is_op items) (faults.has_room faults.is_op seen) _ _ (ap (λ n. nat_lt n max_declared) s.operations) (done (op_parts maps items x ps t callbacks) _ _ (op_same maps items seen x ps t callbacks s))

-- ---- faults with their items

item_step : {A B : Type 0} (number : ℕ) (r : Read A) (f : A → Result B SyntaxFault) (ks : List FaultKind) (more : List SyntaxFault) → Same r ks
    → ((a : A) → r ≡ Ok a → refusal (f a) ≡ first more) → refusal (go_on (at_item number r) f) ≡ first (map (in_item number) ks ++ more)
item_step number (Ok a) f [] more h g = g a refl
item_step number (Ok a) f (k ∷ ks) more h g = absurd (cc)
item_step number (Err w) f [] more h g = absurd (cc)
item_step number (Err w) f (k ∷ ks) more h g = let q : w ≡ k = cc in ap (λ k. Some (in_item number k)) q

go_assoc : {A B C : Type 0} (r : Result A SyntaxFault) (f : A → Result B SyntaxFault) (g : B → Result C SyntaxFault) → go_on r (λ a. go_on (f a) g) ≡ go_on (go_on r f) g
go_assoc (Ok a) f g = refl
go_assoc (Err fault) f g = refl

finish : ModelShape → List Item → Result Source SyntaxFault
finish m items = at_item 0 (complete (is_complete items) m items)

completed : (b c : Bool) (m : ModelShape) (items : List Item) → b ≡ c → refusal (at_item 0 (complete b m items)) ≡ first (map (in_item 0) (unless c Missing []))
completed true true m items e = refl
completed false false m items e = refl
completed true false m items e = absurd (cc)
completed false true m items e = absurd (cc)

finished : (m : ModelShape) (items : List Item) (seen : List ItemShape) → SameItems items seen
    → refusal (finish m items) ≡ first (map (in_item 0) (unless (list_any faults.is_state seen && list_any faults.is_init seen && list_any faults.is_command seen) Missing []))
unfolding finish
finished m items seen s =
    let e : is_complete items ≡ (list_any faults.is_state seen && list_any faults.is_init seen && list_any faults.is_command seen) =
    ap (λ b. b && list_any read.is_init items && list_any read.is_command items) s.state ∙ ap (λ b. list_any faults.is_state seen && b && list_any read.is_command items) s.init ∙ ap (λ b. list_any faults.is_state seen && list_any faults.is_init seen && b) s.command in
    completed (is_complete items) (list_any faults.is_state seen && list_any faults.is_init seen && list_any faults.is_command seen) m items e

items_same : (maps : Bool) (m : ModelShape) (items : List Item) (seen : List ItemShape) (number : ℕ) (forms : List Form) → number ≡ length items + 1 → SameItems items seen
    → refusal (go_on (items_from maps items forms) (finish m)) ≡ first (items_faults maps seen number forms)
unfolding item_of
items_same maps m items seen number [] n s = finished m items seen s
items_same maps m items seen number (form ∷ forms) n s =
    subst (λ (number : ℕ). refusal (go_on (items_from maps items (form ∷ forms)) (finish m)) ≡ first (items_faults maps seen number (form ∷ forms))) (sym n)
    (subst (λ (r : Result Source SyntaxFault). refusal r ≡ first (items_faults maps seen (length items + 1) (form ∷ forms)))
    (go_assoc (at_item (length items + 1) (item_of maps items form)) (λ i. items_from maps (items ++ i ∷ []) forms) (finish m))
    (item_step (length items + 1) (item_of maps items form) (λ i. go_on (items_from maps (items ++ i ∷ []) forms) (finish m)) (faults_of (item_shape form) (item_faults maps seen)) (items_faults maps (seen_with seen (item_shape form)) (length items + 1 + 1) forms)
    (shaped (item_shape form) (item_parts maps items) (item_faults maps seen) (λ shape. item_same maps items seen shape s))
    (λ i e.
    let p = known_ok (item_shape form) (item_parts maps items) i e in
    subst (λ (seen : List ItemShape). refusal (go_on (items_from maps (items ++ i ∷ []) forms) (finish m)) ≡ first (items_faults maps seen (length items + 1 + 1) forms)) (sym (with_shape seen (item_shape form) p.0 p.1))
    (items_same maps m (items ++ i ∷ []) (seen ++ p.0 ∷ []) (length items + 1 + 1) forms (simp length-append (omega arith)) (items_more items seen i p.0 s (item_is maps items p.0 i p.2))))))

nothing_seen : SameItems [] []
nothing_seen = record { state = refl; init = refl; command = refl; functions = refl; operations = refl; fun_names = λ word. refl; op_names = λ word. refl }

head_same : (m : ModelShape) → Same (head_parts m) (name_faults (is_name m.name) false m.name)
head_same m = done (declared (is_name m.name) false m.name) (λ x. record m { name = x }) (name_faults (is_name m.name) false m.name) (declared_same (is_name m.name) false m.name)

head_keeps : (m kept : ModelShape) → head_parts m ≡ Ok kept → (kept.has_maps ≡ m.has_maps) × (kept.items ≡ m.items)
head_keeps m kept e =
    let p = bind_ok (declared (is_name m.name) false m.name) (λ x. Ok (record m { name = x })) kept e in
    let q : record m { name = p.0 } ≡ kept = okay (record m { name = p.0 }) kept p.2 in
    (ap (λ (k : ModelShape). k.has_maps) (sym q), ap (λ (k : ModelShape). k.items) (sym q))

behind : ModelShape → Result Source SyntaxFault
behind m = go_on (items_from m.has_maps [] m.items) (finish m)

behind_same : (m kept : ModelShape) → head_parts m ≡ Ok kept → refusal (behind kept) ≡ first (items_faults m.has_maps [] 1 m.items)
unfolding behind
behind_same m kept e =
    let k = head_keeps m kept e in
    items_same kept.has_maps kept [] [] 1 kept.items refl nothing_seen
    ∙ ap (λ maps. first (items_faults maps [] 1 kept.items)) k.0 ∙ ap (λ forms. first (items_faults m.has_maps [] 1 forms)) k.1

head_of_same : (b : Bool) (shape : Option ModelShape) → refusal (go_on (at_item 0 (within b (known shape head_parts))) behind) ≡ first (map (in_item 0) (unless b OverLimit []) ++ named_faults shape)
head_of_same false shape = refl
head_of_same true None = refl
head_of_same true (Some m) = item_step 0 (head_parts m) behind (name_faults (is_name m.name) false m.name) (items_faults m.has_maps [] 1 m.items) (head_same m) (behind_same m)

pub model_same : (trees : List Form) → refusal (model_of trees) ≡ first (model_faults trees)
unfolding behind finish
model_same [] = refl
model_same (form ∷ forms) = head_of_same (nat_le (trees_in form) max_trees) (model_shape form)
