-- What is written for an item is read as the item.
use Rattle.std.proofs.Common.{◌≡◌, ℕ, ◌+◌, max, Bool, false, List, [], ◌∷◌, ◌++◌, map, Option, Some, None, Ok, refl, sym, ap, ◌∙◌, subst, append_assoc, arith}
use Rattle.std.specs.Prelude.{codes}
use Rattle.std.specs.List.{sum, list_any}
use Rattle.std.proofs.lemmas.List.{append-nil}
use Rattle.pst_sexpr.specs.declared.form.Form.{Form}
use Rattle.pst_sexpr.specs.declared.form.Form.TheVariants.{Word, Node}
use Rattle.pst_sexpr.specs.Lawful.{IsTree, AreTrees, greatest, levels}
use Rattle.pst_value.specs.declared.ty.Ty.{Ty}
use Rattle.pst_model.specs.declared.expr.Expr.{Expr}
use Rattle.pst_model.specs.declared.model.Item.{Item}
use Rattle.pst_model.specs.declared.model.Item.TheVariants as item
use Rattle.pst_model.specs.declared.model.Param.{Param}
use Rattle.pst_model.specs.declared.model.Fun.{Fun}
use Rattle.pst_model.specs.declared.model.Op.{Op}
use Rattle.pst_syntax.specs.declared.items.Callbacks.{Callbacks}
use Rattle.pst_syntax.specs.Counting.{trees_in}
use Rattle.pst_model.specs.Names.{is_name}
use Rattle.pst_syntax.specs.Names.{is_free}
use Rattle.pst_syntax.specs.ItemShape.{ItemShape, CallbackShape, StateItem, InitItem, CommandItem, FunItem, OpItem, Pre, Next, Post, item_shape, callback_shape, param_shape}
use Rattle.pst_syntax.specs.Reading.{◌>>=◌, known, within, once, declared, are_few}
use Rattle.pst_syntax.specs.Limits.{expr_room, ty_room}
use Rattle.pst_syntax.specs.Items.{whole_ty, whole_expr, is_param, param_of, params_from, params_of, is_some, no_callbacks, callback_of, callbacks_from, all_callbacks, is_state, is_init, is_command, is_fun, is_op, is_fun_named, is_op_named, has_room, fun_of, op_parts, item_parts, item_of}
use Rattle.pst_print.specs.Printed.{ty_form, expr_form, param_form, single, item_form, fun_word}
use Rattle.pst_sexpr.specs.Parts.{headed}
use Rattle.pst_print.proofs.Alike.{Alike, none, more, itself, alike_node, ListAlike, first_sum, list_more, node_alike}
use Rattle.pst_print.proofs.ItemShapes.{item_form_of, item_is, item_shaped, callback_form_of, callback_is, callback_shaped, param_is}
use Rattle.pst_print.proofs.TyAgain.{behind, onward, knows, inside, once_is, okay, same, declared_is, Again, ty_is}
use Rattle.pst_print.proofs.ExprAgain.{expr_again}

-- ---- parameters

abbrev param : List ℕ → Ty → Param
param x t = record { name = x; ty = t }

record ParamsAgain (ps : List Param) (fs : List Form) (all : List Param) : Type 0 where
  rest : List Param
  whole : ps ++ rest ≡ all
  form : fs ≡ map param_form rest

params_again : (maps : Bool) (ps : List Param) (fs : List Form) (all : List Param) → params_from maps ps fs ≡ Ok all → ParamsAgain ps fs all
params_again maps ps [] all k = record { rest = []; whole = append-nil ps ∙ same ps all k; form = refl }
params_again maps ps (f ∷ fs) all k =
    let p = behind (known (param_shape f) (param_of maps ps)) (λ param. params_from maps (ps ++ param ∷ []) fs) all k in
    let q = knows (param_shape f) (param_of maps ps) p.0 p.1 in
    let d = behind (declared (is_free maps q.0.0) (is_param ps q.0.0) q.0.0) (λ x. whole_ty maps q.0.1 >>= (λ t. okay (param x t))) p.0 q.2 in
    let t = behind (whole_ty maps q.0.1) (λ t. okay (param d.0 t)) p.0 d.2 in
    let r = params_again maps (ps ++ p.0 ∷ []) fs all p.2 in
    let i : q.0.0 ≡ d.0 = declared_is (is_free maps q.0.0) (is_param ps q.0.0) q.0.0 d.0 d.1 in
    let j : q.0.1 ≡ ty_form t.0 = ty_is maps ty_room q.0.1 t.0 t.1 in
    let g : f ≡ param_form p.0 =
    param_is f q.0 q.1 ∙ ap (λ y. Node (Word y ∷ q.0.1 ∷ [])) i ∙ ap (λ y. Node (Word d.0 ∷ y ∷ [])) j ∙ ap param_form (same (param d.0 t.0) p.0 t.2) in
    record {
      rest = p.0 ∷ r.rest;
      whole = sym (append_assoc ps (p.0 ∷ []) r.rest) ∙ r.whole;
      form = ap (λ y. y ∷ fs) g ∙ ap (λ ys. param_form p.0 ∷ ys) r.form;
    }

params_are : (maps : Bool) (fs : List Form) (ps : List Param) → params_of maps fs ≡ Ok ps → fs ≡ map param_form ps
params_are maps fs ps k =
    let p = inside (are_few fs) (params_from maps [] fs) ps k in
    let a = params_again maps [] fs ps p.1 in
    a.form ∙ ap (map param_form) a.whole

-- ---- callbacks

size : List ℕ → Option Expr → ℕ
size w None = 0
size w (Some e) = trees_in (single w e)

depth : List ℕ → Option Expr → ℕ
depth w None = 0
depth w (Some e) = levels (single w e)

abbrev IsLawful : List ℕ → Option Expr → Type 0
IsLawful w None = Unit {0}
IsLawful w (Some e) = IsTree (single w e)

abbrev IsRead : Bool → Option Expr → Type 0
IsRead maps None = Unit {0}
IsRead maps (Some e) = whole_expr maps (expr_form e) ≡ Ok e

abbrev total : Option Expr → Option Expr → Option Expr → ℕ
total a b c = size (codes "pre") a + (size (codes "next") b + size (codes "post") c)

abbrev deepest : Option Expr → Option Expr → Option Expr → ℕ
deepest a b c = max (depth (codes "pre") a) (max (depth (codes "next") b) (depth (codes "post") c))

-- what the trees have, with the callbacks that were there, is what the callbacks have in the end
record Kept (maps : Bool) (fs : List Form) (a b c : Option Expr) (end : Callbacks) : Type 0 where
  count : sum (map trees_in fs) + total a b c ≡ total end.pre end.next end.post
  level : max (greatest (map levels fs)) (deepest a b c) ≡ deepest end.pre end.next end.post
  lawful : AreTrees fs → IsLawful (codes "pre") a → IsLawful (codes "next") b → IsLawful (codes "post") c → IsLawful (codes "pre") end.pre × (IsLawful (codes "next") end.next × IsLawful (codes "post") end.post)
  reads : IsRead maps a → IsRead maps b → IsRead maps c → IsRead maps end.pre × (IsRead maps end.next × IsRead maps end.post)

none_is : {A : Type 0} (o : Option A) → is_some o ≡ false → o ≡ None
none_is None e = refl
none_is (Some a) e = absurd (cc)

sum_none : sum (map trees_in []) ≡ 0
sum_none = refl

written_alike : (maps : Bool) (w : List ℕ) (f g : Form) (e : Expr) → f ≡ headed w (g ∷ []) → Again (whole_expr maps) expr_form g e → Alike f (single w e)
written_alike maps w f g e i a = subst (λ y. Alike y (single w e)) (sym i) (alike_node (more (itself _) (more a.alike none)))

kept_pre : (maps : Bool) (f : Form) (fs : List Form) (e : Expr) (b c : Option Expr) (end : Callbacks) → Alike f (single (codes "pre") e) → whole_expr maps (expr_form e) ≡ Ok e → Kept maps fs (Some e) b c end → Kept maps (f ∷ fs) None b c end
unfolding size depth
kept_pre maps f fs e b c end a r k = record {
  count = omega (arith, first_sum f fs, a.count, k.count);
  level = let i = a.level in let j = k.level in omega arith;
  lawful = λ h x y z. k.lawful h.1 (a.lawful h.0) y z;
  reads = λ x y z. k.reads r y z;
}

kept_next : (maps : Bool) (f : Form) (fs : List Form) (e : Expr) (a c : Option Expr) (end : Callbacks) → Alike f (single (codes "next") e) → whole_expr maps (expr_form e) ≡ Ok e → Kept maps fs a (Some e) c end → Kept maps (f ∷ fs) a None c end
unfolding size depth
kept_next maps f fs e b c end a r k = record {
  count = omega (arith, first_sum f fs, a.count, k.count);
  level = let i = a.level in let j = k.level in omega arith;
  lawful = λ h x y z. k.lawful h.1 x (a.lawful h.0) z;
  reads = λ x y z. k.reads x r z;
}

kept_post : (maps : Bool) (f : Form) (fs : List Form) (e : Expr) (a b : Option Expr) (end : Callbacks) → Alike f (single (codes "post") e) → whole_expr maps (expr_form e) ≡ Ok e → Kept maps fs a b (Some e) end → Kept maps (f ∷ fs) a b None end
unfolding size depth
kept_post maps f fs e b c end a r k = record {
  count = omega (arith, first_sum f fs, a.count, k.count);
  level = let i = a.level in let j = k.level in omega arith;
  lawful = λ h x y z. k.lawful h.1 x y (a.lawful h.0);
  reads = λ x y z. k.reads x y r;
}

kept_by : (maps : Bool) (cb : Callbacks) (f : Form) (fs : List Form) (s : CallbackShape) (after end : Callbacks) → f ≡ callback_form_of s → callback_of maps cb s ≡ Ok after → Kept maps fs after.pre after.next after.post end → Kept maps (f ∷ fs) cb.pre cb.next cb.post end
kept_by maps cb f fs (Pre g) after end i k kept =
    let p = once_is (is_some cb.pre) (whole_expr maps g >>= (λ e. Ok (record cb { pre = Some e }))) after k in
    let q = behind (whole_expr maps g) (λ e. Ok (record cb { pre = Some e })) after p.1 in
    let a = expr_again maps expr_room g q.0 q.1 in
    let m = subst (λ n. Kept maps fs n.pre n.next n.post end) (sym (same (record cb { pre = Some q.0 }) after q.2)) kept in
    subst (λ o. Kept maps (f ∷ fs) o cb.next cb.post end) (sym (none_is cb.pre p.0)) (kept_pre maps f fs q.0 cb.next cb.post end (written_alike maps (codes "pre") f g q.0 i a) a.reads m)
kept_by maps cb f fs (Next g) after end i k kept =
    let p = once_is (is_some cb.next) (whole_expr maps g >>= (λ e. Ok (record cb { next = Some e }))) after k in
    let q = behind (whole_expr maps g) (λ e. Ok (record cb { next = Some e })) after p.1 in
    let a = expr_again maps expr_room g q.0 q.1 in
    let m = subst (λ n. Kept maps fs n.pre n.next n.post end) (sym (same (record cb { next = Some q.0 }) after q.2)) kept in
    subst (λ o. Kept maps (f ∷ fs) cb.pre o cb.post end) (sym (none_is cb.next p.0)) (kept_next maps f fs q.0 cb.pre cb.post end (written_alike maps (codes "next") f g q.0 i a) a.reads m)
kept_by maps cb f fs (Post g) after end i k kept =
    let p = once_is (is_some cb.post) (whole_expr maps g >>= (λ e. Ok (record cb { post = Some e }))) after k in
    let q = behind (whole_expr maps g) (λ e. Ok (record cb { post = Some e })) after p.1 in
    let a = expr_again maps expr_room g q.0 q.1 in
    let m = subst (λ n. Kept maps fs n.pre n.next n.post end) (sym (same (record cb { post = Some q.0 }) after q.2)) kept in
    subst (λ o. Kept maps (f ∷ fs) cb.pre cb.next o end) (sym (none_is cb.post p.0)) (kept_post maps f fs q.0 cb.pre cb.next end (written_alike maps (codes "post") f g q.0 i a) a.reads m)

callbacks_kept : (maps : Bool) (cb : Callbacks) (fs : List Form) (end : Callbacks) → callbacks_from maps cb fs ≡ Ok end → Kept maps fs cb.pre cb.next cb.post end
callbacks_kept maps cb [] end k = subst (Kept maps [] cb.pre cb.next cb.post) (same cb end k) (record { count = omega (arith, sum_none); level = omega arith; lawful = λ h x y z. (x, (y, z)); reads = λ x y z. (x, (y, z)) })
callbacks_kept maps cb (f ∷ fs) end k =
    let p = behind (known (callback_shape f) (callback_of maps cb)) (λ cb. callbacks_from maps cb fs) end k in
    let q = knows (callback_shape f) (callback_of maps cb) p.0 p.1 in
    kept_by maps cb f fs q.0 p.0 end (callback_is f q.0 q.1) q.2 (callbacks_kept maps p.0 fs end p.2)

abbrev so_far : Option Expr → Option Expr → Option Expr → Callbacks
so_far a b c = record { pre = a; next = b; post = c }

abbrev three : Expr → Expr → Expr → List Form
three a b c = single (codes "pre") a ∷ single (codes "next") b ∷ single (codes "post") c ∷ []

-- the three callbacks stand there, and this is made of them
record Stand {B : Type 0} (end : Callbacks) (make : Expr → Expr → Expr → B) (b : B) : Type 0 where
  pre : Expr
  next : Expr
  post : Expr
  are : end ≡ so_far (Some pre) (Some next) (Some post)
  gives : make pre next post ≡ b

stand_at : {B : Type 0} (x y z : Option Expr) (make : Expr → Expr → Expr → B) (b : B) → (all_callbacks (so_far x y z) >>= (λ all. okay (make all.pre all.next all.post))) ≡ Ok b → Stand (so_far x y z) make b
stand_at (Some x) (Some y) (Some z) make b e = record { pre = x; next = y; post = z; are = refl; gives = same (make x y z) b e }
stand_at None y z make b e = absurd (cc)
stand_at (Some x) None z make b e = absurd (cc)
stand_at (Some x) (Some y) None make b e = absurd (cc)

record CallbacksAgain (maps : Bool) (fs : List Form) (a b c : Expr) : Type 0 where
  reads : callbacks_from maps no_callbacks (three a b c) ≡ Ok (so_far (Some a) (Some b) (Some c))
  alike : ListAlike fs (three a b c)

callback_reads : (maps : Bool) (cb : Callbacks) (s : CallbackShape) (after : Callbacks) (rest : List Form) (end : Callbacks) → callback_of maps cb s ≡ Ok after → callbacks_from maps after rest ≡ Ok end → callbacks_from maps cb (callback_form_of s ∷ rest) ≡ Ok end
callback_reads maps cb s after rest end k m =
    onward (known (callback_shape (callback_form_of s)) (callback_of maps cb)) (λ cb. callbacks_from maps cb rest) after end (ap (λ o. known o (callback_of maps cb)) (callback_shaped s) ∙ k) m

three_read : (maps : Bool) (a b c : Expr) → IsRead maps (Some a) → IsRead maps (Some b) → IsRead maps (Some c) → callbacks_from maps no_callbacks (three a b c) ≡ Ok (so_far (Some a) (Some b) (Some c))
three_read maps a b c x y z =
    callback_reads maps no_callbacks (Pre (expr_form a)) (so_far (Some a) None None) (callback_form_of (Next (expr_form b)) ∷ callback_form_of (Post (expr_form c)) ∷ []) _ (onward (whole_expr maps (expr_form a)) (λ e. okay (so_far (Some e) None None)) a _ x refl)
    (callback_reads maps (so_far (Some a) None None) (Next (expr_form b)) (so_far (Some a) (Some b) None) (callback_form_of (Post (expr_form c)) ∷ []) _ (onward (whole_expr maps (expr_form b)) (λ e. okay (so_far (Some a) (Some e) None)) b _ y refl)
    (callback_reads maps (so_far (Some a) (Some b) None) (Post (expr_form c)) (so_far (Some a) (Some b) (Some c)) [] _ (onward (whole_expr maps (expr_form c)) (λ e. okay (so_far (Some a) (Some b) (Some e))) c _ z refl) refl))

three_sum : (f g h : Form) → sum (map trees_in (f ∷ g ∷ h ∷ [])) ≡ trees_in f + (trees_in g + trees_in h)
three_sum f g h = omega (arith, first_sum f (g ∷ h ∷ []), first_sum g (h ∷ []), first_sum h [], sum_none)

three_again : (maps : Bool) (fs : List Form) (a b c : Expr) → Kept maps fs None None None (so_far (Some a) (Some b) (Some c)) → CallbacksAgain maps fs a b c
unfolding size depth
three_again maps fs a b c k =
    let r = k.reads tt tt tt in
    let count = k.count in
    let level = k.level in
    record {
      reads = three_read maps a b c r.0 r.1.0 r.1.1;
      alike = record {
        count = omega (arith, three_sum (single (codes "pre") a) (single (codes "next") b) (single (codes "post") c), count);
        level = omega arith;
        lawful = λ h. let l = k.lawful h tt tt tt in (l.0, (l.1.0, (l.1.1, tt)));
      };
    }

-- ---- items

abbrev fun : Bool → List ℕ → List Param → Ty → Expr → Fun
fun b x ps t e = record { is_post = b; name = x; params = ps; result = t; body = e }

abbrev op : List ℕ → List Param → Ty → Expr → Expr → Expr → Op
op x ps t a b c = record { name = x; params = ps; result = t; pre = a; next = b; post = c }

record Written (maps : Bool) (seen : List Item) (s : ItemShape) (z : Item) : Type 0 where
  shape : ItemShape
  form : item_form z ≡ item_form_of shape
  reads : item_parts maps seen shape ≡ Ok z
  alike : Alike (item_form_of s) (item_form_of shape)

written : (maps : Bool) (seen : List Item) (s : ItemShape) (z : Item) → item_parts maps seen s ≡ Ok z → Written maps seen s z
written maps seen (StateItem t) z k =
    let p = once_is (list_any is_state seen) (whole_ty maps t >>= (λ t. Ok (item.State t))) z k in
    let q = behind (whole_ty maps t) (λ t. Ok (item.State t)) z p.1 in
    let i : t ≡ ty_form q.0 = ty_is maps ty_room t q.0 q.1 in
    subst (Written maps seen (StateItem t)) (same _ _ q.2) (record {
      shape = StateItem t;
      form = ap (λ y. headed (codes "state") (y ∷ [])) (sym i);
      reads = ap (λ b. once b (whole_ty maps t >>= (λ t. okay (item.State t)))) p.0 ∙ onward (whole_ty maps t) (λ t. Ok (item.State t)) q.0 _ q.1 refl;
      alike = itself _;
    })
written maps seen (InitItem e) z k =
    let p = once_is (list_any is_init seen) (whole_expr maps e >>= (λ e. Ok (item.Init e))) z k in
    let q = behind (whole_expr maps e) (λ e. Ok (item.Init e)) z p.1 in
    let a = expr_again maps expr_room e q.0 q.1 in
    subst (Written maps seen (InitItem e)) (same _ _ q.2) (record {
      shape = InitItem (expr_form q.0);
      form = refl;
      reads = ap (λ b. once b (whole_expr maps (expr_form q.0) >>= (λ e. okay (item.Init e)))) p.0 ∙ onward (whole_expr maps (expr_form q.0)) (λ e. Ok (item.Init e)) q.0 _ a.reads refl;
      alike = alike_node (more (itself _) (more a.alike none));
    })
written maps seen (CommandItem e) z k =
    let p = once_is (list_any is_command seen) (whole_expr maps e >>= (λ e. Ok (item.Command e))) z k in
    let q = behind (whole_expr maps e) (λ e. Ok (item.Command e)) z p.1 in
    let a = expr_again maps expr_room e q.0 q.1 in
    subst (Written maps seen (CommandItem e)) (same _ _ q.2) (record {
      shape = CommandItem (expr_form q.0);
      form = refl;
      reads = ap (λ b. once b (whole_expr maps (expr_form q.0) >>= (λ e. okay (item.Command e)))) p.0 ∙ onward (whole_expr maps (expr_form q.0)) (λ e. Ok (item.Command e)) q.0 _ a.reads refl;
      alike = alike_node (more (itself _) (more a.alike none));
    })
written maps seen (FunItem b x ps t e) z k =
    let w = inside (has_room is_fun seen) (fun_of maps b seen x ps t e >>= (λ f. Ok (item.Fun f))) z k in
    let f = behind (fun_of maps b seen x ps t e) (λ f. Ok (item.Fun f)) z w.1 in
    let p = behind (declared (is_free maps x) (list_any (is_fun_named x) seen) x) (λ x. params_of maps ps >>= (λ ps. whole_ty maps t >>= (λ t. whole_expr maps e >>= (λ e. okay (fun b x ps t e))))) f.0 f.1 in
    let q = behind (params_of maps ps) (λ ps. whole_ty maps t >>= (λ t. whole_expr maps e >>= (λ e. okay (fun b p.0 ps t e)))) f.0 p.2 in
    let r = behind (whole_ty maps t) (λ t. whole_expr maps e >>= (λ e. okay (fun b p.0 q.0 t e))) f.0 q.2 in
    let u = behind (whole_expr maps e) (λ e. okay (fun b p.0 q.0 r.0 e)) f.0 r.2 in
    let i : x ≡ p.0 = declared_is (is_free maps x) (list_any (is_fun_named x) seen) x p.0 p.1 in
    let j : ps ≡ map param_form q.0 = params_are maps ps q.0 q.1 in
    let l : t ≡ ty_form r.0 = ty_is maps ty_room t r.0 r.1 in
    let a = expr_again maps expr_room e u.0 u.1 in
    let g = fun b p.0 q.0 r.0 u.0 in
    subst (Written maps seen (FunItem b x ps t e)) (ap (λ f. item.Fun f) (same g f.0 u.2) ∙ same (item.Fun f.0) z f.2) (record {
      shape = FunItem b x ps t (expr_form u.0);
      form =
          ap (λ y. headed (fun_word b) (Word y ∷ Node (map param_form q.0) ∷ ty_form r.0 ∷ expr_form u.0 ∷ [])) (sym i)
          ∙ ap (λ y. headed (fun_word b) (Word x ∷ Node y ∷ ty_form r.0 ∷ expr_form u.0 ∷ [])) (sym j)
          ∙ ap (λ y. headed (fun_word b) (Word x ∷ Node ps ∷ y ∷ expr_form u.0 ∷ [])) (sym l);
      reads =
          ap (λ c. within c (fun_of maps b seen x ps t (expr_form u.0) >>= (λ f. okay (item.Fun f)))) w.0
          ∙ onward (fun_of maps b seen x ps t (expr_form u.0)) (λ f. Ok (item.Fun f)) g _
          (onward (declared (is_free maps x) (list_any (is_fun_named x) seen) x) (λ x. params_of maps ps >>= (λ ps. whole_ty maps t >>= (λ t. whole_expr maps (expr_form u.0) >>= (λ e. okay (fun b x ps t e))))) p.0 g p.1
          (onward (params_of maps ps) (λ ps. whole_ty maps t >>= (λ t. whole_expr maps (expr_form u.0) >>= (λ e. okay (fun b p.0 ps t e)))) q.0 g q.1
          (onward (whole_ty maps t) (λ t. whole_expr maps (expr_form u.0) >>= (λ e. okay (fun b p.0 q.0 t e))) r.0 g r.1
          (onward (whole_expr maps (expr_form u.0)) (λ e. okay (fun b p.0 q.0 r.0 e)) u.0 g a.reads refl)))) refl;
      alike = alike_node (more (itself _) (more (itself _) (more (itself _) (more (itself _) (more a.alike none)))));
    })
written maps seen (OpItem x ps t cs) z k =
    let w = inside (has_room is_op seen) (op_parts maps seen x ps t cs >>= (λ o. Ok (item.Op o))) z k in
    let f = behind (op_parts maps seen x ps t cs) (λ o. Ok (item.Op o)) z w.1 in
    let p = behind (declared (is_name x) (list_any (is_op_named x) seen) x) (λ x. params_of maps ps >>= (λ ps. whole_ty maps t >>= (λ t. callbacks_from maps no_callbacks cs >>= all_callbacks >>= (λ all. okay (op x ps t all.pre all.next all.post))))) f.0 f.1 in
    let q = behind (params_of maps ps) (λ ps. whole_ty maps t >>= (λ t. callbacks_from maps no_callbacks cs >>= all_callbacks >>= (λ all. okay (op p.0 ps t all.pre all.next all.post)))) f.0 p.2 in
    let r = behind (whole_ty maps t) (λ t. callbacks_from maps no_callbacks cs >>= all_callbacks >>= (λ all. okay (op p.0 q.0 t all.pre all.next all.post))) f.0 q.2 in
    let u = behind (callbacks_from maps no_callbacks cs >>= all_callbacks) (λ all. okay (op p.0 q.0 r.0 all.pre all.next all.post)) f.0 r.2 in
    let v = behind (callbacks_from maps no_callbacks cs) all_callbacks u.0 u.1 in
    let c = stand_at v.0.pre v.0.next v.0.post (op p.0 q.0 r.0) f.0 (onward (all_callbacks v.0) (λ all. okay (op p.0 q.0 r.0 all.pre all.next all.post)) u.0 f.0 v.2 u.2) in
    let i : x ≡ p.0 = declared_is (is_name x) (list_any (is_op_named x) seen) x p.0 p.1 in
    let j : ps ≡ map param_form q.0 = params_are maps ps q.0 q.1 in
    let l : t ≡ ty_form r.0 = ty_is maps ty_room t r.0 r.1 in
    let a = three_again maps cs c.pre c.next c.post (subst (Kept maps cs None None None) c.are (callbacks_kept maps no_callbacks cs v.0 v.1)) in
    let g = op p.0 q.0 r.0 c.pre c.next c.post in
    let n = three c.pre c.next c.post in
    subst (Written maps seen (OpItem x ps t cs)) (ap (λ f. item.Op f) c.gives ∙ same (item.Op f.0) z f.2) (record {
      shape = OpItem x ps t n;
      form =
          ap (λ y. headed (codes "op") (Word y ∷ Node (map param_form q.0) ∷ ty_form r.0 ∷ n)) (sym i)
          ∙ ap (λ y. headed (codes "op") (Word x ∷ Node y ∷ ty_form r.0 ∷ n)) (sym j)
          ∙ ap (λ y. headed (codes "op") (Word x ∷ Node ps ∷ y ∷ n)) (sym l);
      reads =
          ap (λ c. within c (op_parts maps seen x ps t n >>= (λ f. okay (item.Op f)))) w.0
          ∙ onward (op_parts maps seen x ps t n) (λ f. Ok (item.Op f)) g _
          (onward (declared (is_name x) (list_any (is_op_named x) seen) x) (λ x. params_of maps ps >>= (λ ps. whole_ty maps t >>= (λ t. callbacks_from maps no_callbacks n >>= all_callbacks >>= (λ all. okay (op x ps t all.pre all.next all.post))))) p.0 g p.1
          (onward (params_of maps ps) (λ ps. whole_ty maps t >>= (λ t. callbacks_from maps no_callbacks n >>= all_callbacks >>= (λ all. okay (op p.0 ps t all.pre all.next all.post)))) q.0 g q.1
          (onward (whole_ty maps t) (λ t. callbacks_from maps no_callbacks n >>= all_callbacks >>= (λ all. okay (op p.0 q.0 t all.pre all.next all.post))) r.0 g r.1
          (ap (λ o. o >>= all_callbacks >>= (λ all. okay (op p.0 q.0 r.0 all.pre all.next all.post))) a.reads)))) refl;
      alike = node_alike (list_more (itself _) (list_more (itself _) (list_more (itself _) (list_more (itself _) a.alike))));
    })

-- what is written for an item that was read is read as the same
pub item_again : (maps : Bool) (seen : List Item) (f : Form) (z : Item) → item_of maps seen f ≡ Ok z → Again (item_of maps seen) item_form f z
unfolding item_of
item_again maps seen f z k =
    let p = knows (item_shape f) (item_parts maps seen) z k in
    let w = written maps seen p.0 z p.2 in
    record {
      reads = ap (λ g. known (item_shape g) (item_parts maps seen)) w.form ∙ ap (λ o. known o (item_parts maps seen)) (item_shaped w.shape) ∙ w.reads;
      alike = subst (λ g. Alike g (item_form z)) (sym (item_is f p.0 p.1)) (subst (Alike (item_form_of p.0)) (sym w.form) w.alike);
    }
