-- What is written for an expression is read as the expression.
use Rattle.std.proofs.Common.{◌≡◌, ℕ, zero, suc, Bool, true, false, List, [], ◌∷◌, length, map, Option, Some, Ok, Err, refl, sym, ap, ◌∙◌, subst}
use Rattle.std.specs.Prelude.{nat_le, if◌then◌else◌, codes, decimal}
use Rattle.std.specs.Str.{bytes_eq}
use Rattle.std.specs.Fmt.{signed_decimal}
use Rattle.pst_sexpr.specs.declared.form.Form.{Form}
use Rattle.pst_sexpr.specs.declared.form.Form.TheVariants.{Word, Node}
use Rattle.pst_value.specs.declared.ty.Ty.{Ty}
use Rattle.pst_model.specs.declared.expr.Expr.{Expr}
use Rattle.pst_model.specs.declared.expr.Expr as expr
use Rattle.pst_model.specs.declared.expr.Clause.{Clause}
use Rattle.pst_model.specs.declared.expr.Clause as clause
use Rattle.pst_syntax.specs.declared.fault.FaultKind.TheVariants.{UnknownForm, OverLimit}
use Rattle.pst_syntax.specs.declared.words.Head.{Head}
use Rattle.pst_syntax.specs.declared.words.Head.TheVariants as head
use Rattle.pst_syntax.specs.Heads.{head_of}
use Rattle.pst_sexpr.specs.Integers.{is_integer, value}
use Rattle.pst_value.specs.Text.{is_i64}
use Rattle.pst_syntax.specs.Places.{is_positive, natural}
use Rattle.pst_syntax.specs.Names.{is_free, is_used_operation}
use Rattle.pst_syntax.specs.Shape.{Shape, ClauseShape, Integer, Truth, Quoted, Used, Let, If, And, Or, Unary, Binary, Tuple, At, ListOf, For, Fold, MapOf, Put, Call, Apply, InEach, WhenTrue, shape_of, clause_shape, clause_node, clause_headed}
use Rattle.pst_sexpr.specs.Parts.{word_of, node_of, and_then, headed}
use Rattle.pst_syntax.specs.Reading.{Read, ◌>>=◌, known, within, each, bound, bound_beside, used_operation, item_at, are_few, ty_of, expr_of, expr_parts, clause_of, clause_parts}
use Rattle.pst_syntax.specs.Limits.{max_text, max_parts, ty_room}
use Rattle.pst_print.specs.Printed.{ty_form, expr_form, clause_form}
use Rattle.pst_print.proofs.Alike.{Alike, none, more, itself, alike_node, words_alike, node_of_node, word_of_word}
use Rattle.pst_print.proofs.Forms as form
use Rattle.pst_print.proofs.Numbers.{spells_integer, spells_place, place_read}
use Rattle.pst_sexpr.proofs.Numbers.{both_hold}
use Rattle.pst_print.proofs.Shapes.{spelled, head_word, word_is, node_is, made_some, form_of, Lawful, shape_is, shaped}
use Rattle.pst_print.proofs.TyAgain.{behind, onward, knows, inside, okay, same, declared_is, Again, each_again, ty_again}

-- ---- clauses

abbrev clause_form_of : ClauseShape → Form
clause_form_of (InEach x e) = headed (codes "in") (Word x ∷ e ∷ [])
clause_form_of (WhenTrue c) = headed (codes "when") (c ∷ [])

clause_got : (s t : ClauseShape) → Some s ≡ Some t → clause_form_of s ≡ clause_form_of t
clause_got s t e = let q : s ≡ t = cc in ap clause_form_of q

clause_headed_is : (h : Option Head) (w : List ℕ) (parts : List Form) (s : ClauseShape) → head_of false w ≡ h → clause_headed h parts ≡ Some s → headed w parts ≡ clause_form_of s
unfolding spelled
clause_headed_is (Some head.In) w (x ∷ e ∷ []) s o k =
    let p = made_some (word_of x) (λ x. Some (InEach x e)) s k in
    ap (λ v. headed v (x ∷ e ∷ [])) (head_word false w head.In o) ∙ ap (λ y. headed (codes "in") (y ∷ e ∷ [])) (word_is x p.0 p.1) ∙ clause_got (InEach p.0 e) s p.2
clause_headed_is (Some head.When) w (c ∷ []) s o k = ap (λ v. headed v (c ∷ [])) (head_word false w head.When o) ∙ clause_got (WhenTrue c) s k
clause_headed_is _ w _ s o k = absurd (cc)

clause_node_is : (parts : List Form) (s : ClauseShape) → clause_node parts ≡ Some s → Node parts ≡ clause_form_of s
clause_node_is [] s k = absurd (cc)
clause_node_is (h ∷ parts) s k =
    let p = made_some (word_of h) (λ w. clause_headed (head_of false w) parts) s k in
    ap (λ y. Node (y ∷ parts)) (word_is h p.0 p.1) ∙ clause_headed_is (head_of false p.0) p.0 parts s refl p.2

clause_shape_is : (f : Form) (s : ClauseShape) → clause_shape f ≡ Some s → f ≡ clause_form_of s
unfolding clause_shape
clause_shape_is f s k = let p = made_some (node_of f) clause_node s k in node_is f p.0 p.1 ∙ clause_node_is p.0 s p.2

clause_at_head : (w : List ℕ) (h : Head) (parts : List Form) → head_of false w ≡ Some h → clause_shape (headed w parts) ≡ clause_headed (Some h) parts
unfolding clause_shape
clause_at_head w h parts e =
    ap (λ o. and_then o clause_node) (node_of_node (Word w ∷ parts)) ∙ ap (λ o. and_then o (λ v. clause_headed (head_of false v) parts)) (word_of_word w) ∙ ap (λ o. clause_headed o parts) e

head_in : head_of false (codes "in") ≡ Some head.In
unfolding head_of
head_in = refl

head_when : head_of false (codes "when") ≡ Some head.When
unfolding head_of
head_when = refl

clause_shaped : (s : ClauseShape) → clause_shape (clause_form_of s) ≡ Some s
clause_shaped (InEach x e) = clause_at_head (codes "in") head.In (Word x ∷ e ∷ []) head_in ∙ ap (λ o. and_then o (λ x. Some (InEach x e))) (word_of_word x)
clause_shaped (WhenTrue c) = clause_at_head (codes "when") head.When (c ∷ []) head_when

record ClauseWritten (maps : Bool) (e : Form → Read Expr) (s : ClauseShape) (z : Clause) : Type 0 where
  shape : ClauseShape
  form : clause_form z ≡ clause_form_of shape
  reads : clause_parts maps e shape ≡ Ok z
  alike : Alike (clause_form_of s) (clause_form_of shape)

clause_written : (maps : Bool) (e : Form → Read Expr) → ((f : Form) (a : Expr) → e f ≡ Ok a → Again e expr_form f a) → (s : ClauseShape) (z : Clause) → clause_parts maps e s ≡ Ok z → ClauseWritten maps e s z
clause_written maps e h (InEach x a) z k =
    let p = behind (bound maps x) (λ x. e a >>= (λ a. Ok (clause.In x a))) z k in
    let q = behind (e a) (λ a. Ok (clause.In p.0 a)) z p.2 in
    let i : x ≡ p.0 = declared_is (is_free maps x) false x p.0 p.1 in
    let j = h a q.0 q.1 in
    subst (ClauseWritten maps e (InEach x a)) (same _ _ q.2) (record {
      shape = InEach x (expr_form q.0);
      form = form.form_In p.0 q.0 ∙ ap (λ y. headed (codes "in") (Word y ∷ expr_form q.0 ∷ [])) (sym i);
      reads = onward (bound maps x) (λ x. e (expr_form q.0) >>= (λ a. Ok (clause.In x a))) p.0 _ p.1 (onward (e (expr_form q.0)) (λ a. Ok (clause.In p.0 a)) q.0 _ j.reads refl);
      alike = alike_node (more (itself _) (more (itself _) (more j.alike none)));
    })
clause_written maps e h (WhenTrue c) z k =
    let q = behind (e c) (λ c. Ok (clause.When c)) z k in
    let j = h c q.0 q.1 in
    subst (ClauseWritten maps e (WhenTrue c)) (same _ _ q.2) (record {
      shape = WhenTrue (expr_form q.0);
      form = form.form_When q.0;
      reads = onward (e (expr_form q.0)) (λ c. Ok (clause.When c)) q.0 _ j.reads refl;
      alike = alike_node (more (itself _) (more j.alike none));
    })

clause_again : (maps : Bool) (e : Form → Read Expr) → ((f : Form) (a : Expr) → e f ≡ Ok a → Again e expr_form f a) → (f : Form) (z : Clause) → clause_of maps e f ≡ Ok z → Again (clause_of maps e) clause_form f z
clause_again maps e h f z k =
    let p = knows (clause_shape f) (clause_parts maps e) z k in
    let w = clause_written maps e h p.0 z p.2 in
    let i = clause_shape_is f p.0 p.1 in
    record {
      reads = ap (clause_of maps e) w.form ∙ ap (λ o. known o (clause_parts maps e)) (clause_shaped w.shape) ∙ w.reads;
      alike = subst (λ g. Alike g (clause_form z)) (sym i) (subst (Alike (clause_form_of p.0)) (sym w.form) w.alike);
    }

-- ---- expressions

record Written (maps : Bool) (t : Form → Read Ty) (e : Form → Read Expr) (s : Shape) (z : Expr) : Type 0 where
  shape : Shape
  form : expr_form z ≡ form_of shape
  lawful : Lawful maps shape
  reads : expr_parts maps t e shape ≡ Ok z
  alike : Alike (form_of s) (form_of shape)

used_is : (b : Bool) (w v : List ℕ) → (if b then Ok w else Err UnknownForm) ≡ Ok v → w ≡ v
used_is true w v k = cc
used_is false w v k = absurd (cc)

few_still : (n m : ℕ) → n ≡ m → nat_le m max_parts ≡ true → nat_le n max_parts ≡ true
few_still n m e k = ap (λ x. nat_le x max_parts) e ∙ k

module _ (maps : Bool) (t : Form → Read Ty) (ht : (f : Form) (a : Ty) → t f ≡ Ok a → Again t ty_form f a) (e : Form → Read Expr) (h : (f : Form) (a : Expr) → e f ≡ Ok a → Again e expr_form f a) where
  -- two parts after others
  two_read : (a b : Expr) (make : Expr → Expr → Expr) → e (expr_form a) ≡ Ok a → e (expr_form b) ≡ Ok b → (e (expr_form a) >>= (λ a. e (expr_form b) >>= (λ b. Ok (make a b)))) ≡ Ok (make a b)
  two_read a b make i j = onward (e (expr_form a)) (λ a. e (expr_form b) >>= (λ b. Ok (make a b))) a _ i (onward (e (expr_form b)) (λ b. Ok (make a b)) b _ j refl)

  parts_written : (s : Shape) (z : Expr) → Lawful maps s → expr_parts maps t e s ≡ Ok z → Written maps t e s z
  parts_written (Integer w) z l k =
      let p = inside (is_i64 (value w)) (Ok (expr.Int (value w))) z k in
      let s = spells_integer (value w) p.0 in
      subst (Written maps t e (Integer w)) (same _ _ p.1) (record {
        shape = Integer (signed_decimal (value w));
        form = form.form_Int (value w);
        lawful = s.integer;
        reads = ap (λ v. within (is_i64 v) (okay (expr.Int v))) s.same ∙ ap (λ b. within b (okay (expr.Int (value w)))) p.0;
        alike = words_alike w (signed_decimal (value w)) s.lawful;
      })
  parts_written (Truth b) z l k = subst (Written maps t e (Truth b)) (same _ _ k) (record { shape = Truth b; form = form.form_Bool b; lawful = tt; reads = refl; alike = itself _ })
  parts_written (Quoted w) z l k =
      let p = inside (nat_le (length w) max_text) (Ok (expr.Text w)) z k in
      subst (Written maps t e (Quoted w)) (same _ _ p.1) (record { shape = Quoted w; form = form.form_Text w; lawful = tt; reads = ap (λ b. within b (okay (expr.Text w))) p.0; alike = itself _ })
  parts_written (Used x) z l k = subst (Written maps t e (Used x)) (same _ _ k) (record { shape = Used x; form = form.form_Name x; lawful = l; reads = refl; alike = itself _ })
  parts_written (Let x a b) z l k =
      let p = behind (bound maps x) (λ x. e a >>= (λ a. e b >>= (λ b. Ok (expr.Let x a b)))) z k in
      let q = behind (e a) (λ a. e b >>= (λ b. Ok (expr.Let p.0 a b))) z p.2 in
      let u = behind (e b) (λ b. Ok (expr.Let p.0 q.0 b)) z q.2 in
      let i : x ≡ p.0 = declared_is (is_free maps x) false x p.0 p.1 in
      let j = h a q.0 q.1 in
      let m = h b u.0 u.1 in
      subst (Written maps t e (Let x a b)) (same _ _ u.2) (record {
        shape = Let x (expr_form q.0) (expr_form u.0);
        form = form.form_Let p.0 q.0 u.0 ∙ ap (λ y. headed (codes "let") (Word y ∷ expr_form q.0 ∷ expr_form u.0 ∷ [])) (sym i);
        lawful = l;
        reads = onward (bound maps x) (λ x. e (expr_form q.0) >>= (λ a. e (expr_form u.0) >>= (λ b. Ok (expr.Let x a b)))) p.0 _ p.1 (two_read q.0 u.0 (λ a b. expr.Let p.0 a b) j.reads m.reads);
        alike = alike_node (more (itself _) (more (itself _) (more j.alike (more m.alike none))));
      })
  parts_written (If c a b) z l k =
      let p = behind (e c) (λ c. e a >>= (λ a. e b >>= (λ b. Ok (expr.If c a b)))) z k in
      let q = behind (e a) (λ a. e b >>= (λ b. Ok (expr.If p.0 a b))) z p.2 in
      let u = behind (e b) (λ b. Ok (expr.If p.0 q.0 b)) z q.2 in
      let i = h c p.0 p.1 in
      let j = h a q.0 q.1 in
      let m = h b u.0 u.1 in
      subst (Written maps t e (If c a b)) (same _ _ u.2) (record {
        shape = If (expr_form p.0) (expr_form q.0) (expr_form u.0);
        form = form.form_If p.0 q.0 u.0;
        lawful = l;
        reads = onward (e (expr_form p.0)) (λ c. e (expr_form q.0) >>= (λ a. e (expr_form u.0) >>= (λ b. Ok (expr.If c a b)))) p.0 _ i.reads (two_read q.0 u.0 (λ a b. expr.If p.0 a b) j.reads m.reads);
        alike = alike_node (more (itself _) (more i.alike (more j.alike (more m.alike none))));
      })
  parts_written (And a b) z l k =
      let q = behind (e a) (λ a. e b >>= (λ b. Ok (expr.And a b))) z k in
      let u = behind (e b) (λ b. Ok (expr.And q.0 b)) z q.2 in
      let j = h a q.0 q.1 in
      let m = h b u.0 u.1 in
      subst (Written maps t e (And a b)) (same _ _ u.2) (record {
        shape = And (expr_form q.0) (expr_form u.0);
        form = form.form_And q.0 u.0;
        lawful = l;
        reads = two_read q.0 u.0 (λ a b. expr.And a b) j.reads m.reads;
        alike = alike_node (more (itself _) (more j.alike (more m.alike none)));
      })
  parts_written (Or a b) z l k =
      let q = behind (e a) (λ a. e b >>= (λ b. Ok (expr.Or a b))) z k in
      let u = behind (e b) (λ b. Ok (expr.Or q.0 b)) z q.2 in
      let j = h a q.0 q.1 in
      let m = h b u.0 u.1 in
      subst (Written maps t e (Or a b)) (same _ _ u.2) (record {
        shape = Or (expr_form q.0) (expr_form u.0);
        form = form.form_Or q.0 u.0;
        lawful = l;
        reads = two_read q.0 u.0 (λ a b. expr.Or a b) j.reads m.reads;
        alike = alike_node (more (itself _) (more j.alike (more m.alike none)));
      })
  parts_written (Unary op a) z l k =
      let q = behind (e a) (λ a. Ok (expr.Unary op a)) z k in
      let j = h a q.0 q.1 in
      subst (Written maps t e (Unary op a)) (same _ _ q.2) (record {
        shape = Unary op (expr_form q.0);
        form = form.form_Unary op q.0;
        lawful = l;
        reads = onward (e (expr_form q.0)) (λ a. Ok (expr.Unary op a)) q.0 _ j.reads refl;
        alike = alike_node (more (itself _) (more j.alike none));
      })
  parts_written (Binary op a b) z l k =
      let q = behind (e a) (λ a. e b >>= (λ b. Ok (expr.Binary op a b))) z k in
      let u = behind (e b) (λ b. Ok (expr.Binary op q.0 b)) z q.2 in
      let j = h a q.0 q.1 in
      let m = h b u.0 u.1 in
      subst (Written maps t e (Binary op a b)) (same _ _ u.2) (record {
        shape = Binary op (expr_form q.0) (expr_form u.0);
        form = form.form_Binary op q.0 u.0;
        lawful = l;
        reads = two_read q.0 u.0 (λ a b. expr.Binary op a b) j.reads m.reads;
        alike = alike_node (more (itself _) (more j.alike (more m.alike none)));
      })
  parts_written (Tuple es) z l k =
      let p = inside (are_few es) (each e es >>= (λ es. Ok (expr.Tuple es))) z k in
      let q = behind (each e es) (λ es. Ok (expr.Tuple es)) z p.1 in
      let j = each_again e expr_form h es q.0 q.1 in
      subst (Written maps t e (Tuple es)) (same _ _ q.2) (record {
        shape = Tuple (map expr_form q.0);
        form = form.form_Tuple q.0;
        lawful = (l.0, j.some l.1);
        reads = ap (λ b. within b (each e (map expr_form q.0) >>= (λ es. okay (expr.Tuple es)))) (few_still (length (map expr_form q.0)) (length es) j.count p.0) ∙ onward (each e (map expr_form q.0)) (λ es. Ok (expr.Tuple es)) q.0 _ j.reads refl;
        alike = alike_node (more (itself _) j.alike);
      })
  parts_written (At a i) z l k =
      let q = behind (e a) (λ a. item_at a i) z k in
      let p = inside (is_i64 (value i)) (Ok (expr.At q.0 (natural (value i)))) z q.2 in
      let j = h a q.0 q.1 in
      let r = both_hold (is_integer i) (is_positive (value i)) l.1 in
      let s = spells_place (value i) r.1 p.0 in
      subst (Written maps t e (At a i)) (same _ _ p.1) (record {
        shape = At (expr_form q.0) (decimal (natural (value i)));
        form = form.form_At q.0 (natural (value i));
        lawful = (l.0, place_read (decimal (natural (value i))) (value i) s r.1);
        reads = onward (e (expr_form q.0)) (λ a. item_at a (decimal (natural (value i)))) q.0 _ j.reads (ap (λ v. within (is_i64 v) (okay (expr.At q.0 (natural v)))) s.same ∙ ap (λ b. within b (okay (expr.At q.0 (natural (value i))))) p.0);
        alike = alike_node (more (itself _) (more j.alike (more (words_alike i (decimal (natural (value i))) s.lawful) none)));
      })
  parts_written (ListOf a es) z l k =
      let q = behind (t a) (λ a. each e es >>= (λ es. Ok (expr.List a es))) z k in
      let u = behind (each e es) (λ es. Ok (expr.List q.0 es)) z q.2 in
      let i = ht a q.0 q.1 in
      let j = each_again e expr_form h es u.0 u.1 in
      subst (Written maps t e (ListOf a es)) (same _ _ u.2) (record {
        shape = ListOf (ty_form q.0) (map expr_form u.0);
        form = form.form_List q.0 u.0;
        lawful = l;
        reads = onward (t (ty_form q.0)) (λ a. each e (map expr_form u.0) >>= (λ es. Ok (expr.List a es))) q.0 _ i.reads (onward (each e (map expr_form u.0)) (λ es. Ok (expr.List q.0 es)) u.0 _ j.reads refl);
        alike = alike_node (more (itself _) (more i.alike j.alike));
      })
  parts_written (For cs b) z l k =
      let p = inside (are_few cs) (each (clause_of maps e) cs >>= (λ cs. e b >>= (λ b. Ok (expr.For cs b)))) z k in
      let q = behind (each (clause_of maps e) cs) (λ cs. e b >>= (λ b. Ok (expr.For cs b))) z p.1 in
      let u = behind (e b) (λ b. Ok (expr.For q.0 b)) z q.2 in
      let i = each_again (clause_of maps e) clause_form (clause_again maps e h) cs q.0 q.1 in
      let j = h b u.0 u.1 in
      subst (Written maps t e (For cs b)) (same _ _ u.2) (record {
        shape = For (map clause_form q.0) (expr_form u.0);
        form = form.form_For q.0 u.0;
        lawful = (l.0, i.some l.1);
        reads =
            ap (λ b. within b (each (clause_of maps e) (map clause_form q.0) >>= (λ cs. e (expr_form u.0) >>= (λ b. okay (expr.For cs b))))) (few_still (length (map clause_form q.0)) (length cs) i.count p.0)
            ∙ onward (each (clause_of maps e) (map clause_form q.0)) (λ cs. e (expr_form u.0) >>= (λ b. Ok (expr.For cs b))) q.0 _ i.reads (onward (e (expr_form u.0)) (λ b. Ok (expr.For q.0 b)) u.0 _ j.reads refl);
        alike = alike_node (more (itself _) (more (alike_node i.alike) (more j.alike none)));
      })
  parts_written (Fold x a acc i b) z l k =
      let p = behind (bound maps x) (λ y. e a >>= (λ a. bound_beside maps x acc >>= (λ acc. e i >>= (λ i. e b >>= (λ b. Ok (expr.Fold y a acc i b)))))) z k in
      let q = behind (e a) (λ a. bound_beside maps x acc >>= (λ acc. e i >>= (λ i. e b >>= (λ b. Ok (expr.Fold p.0 a acc i b))))) z p.2 in
      let r = behind (bound_beside maps x acc) (λ acc. e i >>= (λ i. e b >>= (λ b. Ok (expr.Fold p.0 q.0 acc i b)))) z q.2 in
      let u = behind (e i) (λ i. e b >>= (λ b. Ok (expr.Fold p.0 q.0 r.0 i b))) z r.2 in
      let v = behind (e b) (λ b. Ok (expr.Fold p.0 q.0 r.0 u.0 b)) z u.2 in
      let f1 : x ≡ p.0 = declared_is (is_free maps x) false x p.0 p.1 in
      let f2 : acc ≡ r.0 = declared_is (is_free maps acc) (bytes_eq x acc) acc r.0 r.1 in
      let g1 = h a q.0 q.1 in
      let g2 = h i u.0 u.1 in
      let g3 = h b v.0 v.1 in
      subst (Written maps t e (Fold x a acc i b)) (same _ _ v.2) (record {
        shape = Fold x (expr_form q.0) acc (expr_form u.0) (expr_form v.0);
        form =
            form.form_Fold p.0 q.0 r.0 u.0 v.0 ∙ ap (λ y. headed (codes "fold") (Word y ∷ expr_form q.0 ∷ Word r.0 ∷ expr_form u.0 ∷ expr_form v.0 ∷ [])) (sym f1)
            ∙ ap (λ y. headed (codes "fold") (Word x ∷ expr_form q.0 ∷ Word y ∷ expr_form u.0 ∷ expr_form v.0 ∷ [])) (sym f2);
        lawful = l;
        reads =
            onward (bound maps x) (λ y. e (expr_form q.0) >>= (λ a. bound_beside maps x acc >>= (λ acc. e (expr_form u.0) >>= (λ i. e (expr_form v.0) >>= (λ b. Ok (expr.Fold y a acc i b)))))) p.0 _ p.1
            (onward (e (expr_form q.0)) (λ a. bound_beside maps x acc >>= (λ acc. e (expr_form u.0) >>= (λ i. e (expr_form v.0) >>= (λ b. Ok (expr.Fold p.0 a acc i b))))) q.0 _ g1.reads
            (onward (bound_beside maps x acc) (λ acc. e (expr_form u.0) >>= (λ i. e (expr_form v.0) >>= (λ b. Ok (expr.Fold p.0 q.0 acc i b)))) r.0 _ r.1
            (two_read u.0 v.0 (λ i b. expr.Fold p.0 q.0 r.0 i b) g2.reads g3.reads)));
        alike = alike_node (more (itself _) (more (itself _) (more g1.alike (more (itself _) (more g2.alike (more g3.alike none))))));
      })
  parts_written (MapOf j a) z l k =
      let q = behind (t a) (λ a. Ok (expr.Map j a)) z k in
      let i = ht a q.0 q.1 in
      subst (Written maps t e (MapOf j a)) (same _ _ q.2) (record {
        shape = MapOf j (ty_form q.0);
        form = form.form_Map j q.0;
        lawful = l;
        reads = onward (t (ty_form q.0)) (λ a. Ok (expr.Map j a)) q.0 _ i.reads refl;
        alike = alike_node (more (itself _) (more (itself _) (more i.alike none)));
      })
  parts_written (Put c a b) z l k =
      let p = behind (e c) (λ c. e a >>= (λ a. e b >>= (λ b. Ok (expr.Put c a b)))) z k in
      let q = behind (e a) (λ a. e b >>= (λ b. Ok (expr.Put p.0 a b))) z p.2 in
      let u = behind (e b) (λ b. Ok (expr.Put p.0 q.0 b)) z q.2 in
      let i = h c p.0 p.1 in
      let j = h a q.0 q.1 in
      let m = h b u.0 u.1 in
      subst (Written maps t e (Put c a b)) (same _ _ u.2) (record {
        shape = Put (expr_form p.0) (expr_form q.0) (expr_form u.0);
        form = form.form_Put p.0 q.0 u.0;
        lawful = l;
        reads = onward (e (expr_form p.0)) (λ c. e (expr_form q.0) >>= (λ a. e (expr_form u.0) >>= (λ b. Ok (expr.Put c a b)))) p.0 _ i.reads (two_read q.0 u.0 (λ a b. expr.Put p.0 a b) j.reads m.reads);
        alike = alike_node (more (itself _) (more i.alike (more j.alike (more m.alike none))));
      })
  parts_written (Call op es) z l k =
      let p = behind (used_operation op) (λ op. each e es >>= (λ es. Ok (expr.Call op es))) z k in
      let u = behind (each e es) (λ es. Ok (expr.Call p.0 es)) z p.2 in
      let i : op ≡ p.0 = used_is (is_used_operation op) op p.0 p.1 in
      let j = each_again e expr_form h es u.0 u.1 in
      subst (Written maps t e (Call op es)) (same _ _ u.2) (record {
        shape = Call op (map expr_form u.0);
        form = form.form_Call p.0 u.0 ∙ ap (λ y. headed (codes "call") (Word y ∷ map expr_form u.0)) (sym i);
        lawful = l;
        reads =
            onward (used_operation op) (λ op. each e (map expr_form u.0) >>= (λ es. Ok (expr.Call op es))) p.0 _ p.1
            (onward (each e (map expr_form u.0)) (λ es. Ok (expr.Call p.0 es)) u.0 _ j.reads refl);
        alike = alike_node (more (itself _) (more (itself _) j.alike));
      })
  parts_written (Apply f es) z l k =
      let u = behind (each e es) (λ es. Ok (expr.Apply f es)) z k in
      let j = each_again e expr_form h es u.0 u.1 in
      subst (Written maps t e (Apply f es)) (same _ _ u.2) (record {
        shape = Apply f (map expr_form u.0);
        form = form.form_Apply f u.0;
        lawful = l;
        reads = onward (each e (map expr_form u.0)) (λ es. Ok (expr.Apply f es)) u.0 _ j.reads refl;
        alike = alike_node (more (itself _) j.alike);
      })

again_at : (maps : Bool) (room : ℕ) → ((f : Form) (a : Expr) → expr_of maps room f ≡ Ok a → Again (expr_of maps room) expr_form f a) → (f : Form) (s : Shape) (z : Expr) → shape_of maps f ≡ Some s
    → expr_parts maps (ty_of maps ty_room) (expr_of maps room) s ≡ Ok z → Again (expr_of maps (suc room)) expr_form f z
unfolding expr_of
again_at maps room h f s z e k =
    let i = shape_is maps f s e in
    let w = parts_written maps (ty_of maps ty_room) (ty_again maps ty_room) (expr_of maps room) h s z i.lawful k in
    record {
      reads = ap (expr_of maps (suc room)) w.form ∙ ap (λ o. known o (expr_parts maps (ty_of maps ty_room) (expr_of maps room))) (shaped maps w.shape w.lawful) ∙ w.reads;
      alike = subst (λ g. Alike g (expr_form z)) (sym i.form) (subst (Alike (form_of s)) (sym w.form) w.alike);
    }

-- what is written for an expression that was read is read as the same
pub expr_again : (maps : Bool) (room : ℕ) (f : Form) (z : Expr) → expr_of maps room f ≡ Ok z → Again (expr_of maps room) expr_form f z
unfolding expr_of
expr_again maps zero f z k = let p = knows (shape_of maps f) (λ s. Err OverLimit) z k in let e : Err OverLimit ≡ Ok z = p.2 in absurd (cc)
expr_again maps (suc room) f z k =
    let p = knows (shape_of maps f) (expr_parts maps (ty_of maps ty_room) (expr_of maps room)) z k in
    again_at maps room (expr_again maps room) f p.0 z p.1 p.2
