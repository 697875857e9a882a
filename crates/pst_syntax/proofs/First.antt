-- The refusal is the first fault.
use Rattle.std.proofs.Common.{◌≡◌, ℕ, zero, suc, Bool, true, false, List, [], ◌∷◌, ◌++◌, length, map, Option, Some, None, Ok, Err, refl, sym, ap, ◌∙◌, append_assoc}
use Rattle.std.specs.Prelude.{nat_le, if◌then◌else◌}
use Rattle.std.specs.Str.{bytes_eq}
use Rattle.pst_sexpr.specs.declared.form.Form.{Form}
use Rattle.pst_syntax.specs.declared.fault.FaultKind.{FaultKind}
use Rattle.pst_syntax.specs.declared.fault.FaultKind.TheVariants.{UnknownForm, OverLimit}
use Rattle.pst_value.specs.declared.ty.Ty.{Ty}
use Rattle.pst_model.specs.declared.expr.Expr.{Expr}
use Rattle.pst_model.specs.declared.expr.Expr as expr
use Rattle.pst_syntax.specs.Names.{is_free, is_short, is_used_operation}
use Rattle.pst_sexpr.specs.Integers.{value}
use Rattle.pst_value.specs.Text.{is_i64}
use Rattle.pst_syntax.specs.Shape.{Shape, TyShape, ClauseShape, Integer, Truth, Quoted, Used, Let, If, And, Or, Unary, Binary, Tuple, At, ListOf, For, Fold, MapOf, Put, Call, Apply, IntType, BoolType, TextType, CallType, TupleType, ListType, MapType, RefType, InEach, WhenTrue, shape_of, ty_shape, clause_shape}
use Rattle.pst_syntax.specs.Reading.{Read, ◌>>=◌, known, within, each, declared, bound, bound_beside, used_operation, int_of, text_of, item_at, ty_of, expr_of, clause_of, ty_parts, expr_parts, clause_parts, are_few}
use Rattle.pst_syntax.specs.Limits.{max_text, ty_room}
use Rattle.pst_syntax.specs.Faults.{Part, Declared, Place, OfType, Expression, Clause, parts, fits, ty_fits, name_faults, place_faults, unless, faults_of, all_faults, part_faults, clause_faults, none, ty_faults, expr_faults, first, refusal}
use Rattle.pst_syntax.specs.Faults as faults

-- what reads a part refuses its first fault
abbrev pub Same : {A : Type 0} → Read A → List FaultKind → Type 0
Same r ks = refusal r ≡ first ks

-- one part, and then the rest
pub onward : {A B : Type 0} (r : Read A) (f : A → Read B) (ks more : List FaultKind) → Same r ks → ((a : A) → Same (f a) more) → Same (r >>= f) (ks ++ more)
onward (Ok a) f [] more h g = g a
onward (Ok a) f (k ∷ ks) more h g = absurd (cc)
onward (Err w) f [] more h g = absurd (cc)
onward (Err w) f (k ∷ ks) more h g = h

-- nothing more to read
pub done : {A B : Type 0} (r : Read A) (f : A → B) (ks : List FaultKind) → Same r ks → Same (r >>= (λ a. Ok (f a))) ks
done (Ok a) f ks h = h
done (Err w) f ks h = h

-- one part, and then a last one
pub last : {A B C : Type 0} (r : Read A) (q : Read B) (f : A → B → C) (ks more : List FaultKind) → Same r ks → Same q more → Same (r >>= (λ a. q >>= (λ b. Ok (f a b)))) (ks ++ more)
last r q f ks more h g = onward r (λ a. q >>= (λ b. Ok (f a b))) ks more h (λ a. done q (f a) more g)

pub no_more : (ks : List FaultKind) → ks ++ [] ≡ ks
no_more [] = refl
no_more (k ∷ ks) = ap (λ more. k ∷ more) (no_more ks)

-- the same of a list and nothing behind it
pub ended : {A : Type 0} (r : Read A) (ks : List FaultKind) → Same r ks → Same r (ks ++ [])
ended r ks h = h ∙ ap first (sym (no_more ks))

each_same : {A : Type 0} (r : Form → Read A) (p : Part → List FaultKind) (wrap : Form → Part) → ((f : Form) → Same (r f) (p (wrap f))) → (fs : List Form) → Same (each r fs) (all_faults p (map wrap fs))
each_same r p wrap h [] = refl
each_same r p wrap h (f ∷ fs) = last (r f) (each r fs) (λ a more. a ∷ more) (p (wrap f)) _ (h f) (each_same r p wrap h fs)

-- a limit, and then the rest
pub limited : {A : Type 0} (b : Bool) (r : Read A) (ks : List FaultKind) → Same r ks → Same (within b r) (unless b OverLimit ks)
limited true r ks h = h
limited false r ks h = refl

pub shaped : {S A : Type 0} (s : Option S) (f : S → Read A) (g : S → List FaultKind) → ((x : S) → Same (f x) (g x)) → Same (known s f) (faults_of s g)
shaped None f g h = refl
shaped (Some s) f g h = h s

all_append : (p : Part → List FaultKind) (xs ys : List Part) → all_faults p (xs ++ ys) ≡ all_faults p xs ++ all_faults p ys
all_append p [] ys = refl
all_append p (x ∷ xs) ys = ap (λ ks. p x ++ ks) (all_append p xs ys) ∙ sym (append_assoc (p x) (all_faults p xs) (all_faults p ys))

pub declared_same : (is_lawful is_taken : Bool) (w : List ℕ) → Same (declared is_lawful is_taken w) (name_faults is_lawful is_taken w)
unfolding declared
declared_same true true w = refl
declared_same true false w = limited (is_short w) (Ok w) [] refl
declared_same false taken w = refl

ty_parts_same : (t : Form → Read Ty) (ks : Form → List FaultKind) → ((f : Form) → Same (t f) (ks f)) → (s : TyShape)
    → Same (ty_parts t s) (unless (ty_fits s) OverLimit (all_faults (part_faults none ks none) (faults.ty_parts s)))
ty_parts_same t ks h IntType = refl
ty_parts_same t ks h BoolType = refl
ty_parts_same t ks h TextType = refl
ty_parts_same t ks h CallType = refl
ty_parts_same t ks h (TupleType ts) = limited (are_few ts) _ _ (done (each t ts) _ _ (each_same t (part_faults none ks none) OfType h ts))
ty_parts_same t ks h (ListType a) = ended _ (ks a) (done (t a) _ (ks a) (h a))
ty_parts_same t ks h (MapType k a) = ended _ (ks a) (done (t a) _ (ks a) (h a))
ty_parts_same t ks h (RefType a) = ended _ (ks a) (done (t a) _ (ks a) (h a))

pub ty_same : (maps : Bool) (room : ℕ) (f : Form) → Same (ty_of maps room f) (ty_faults maps room f)
unfolding ty_of ty_faults
ty_same maps zero f = shaped (ty_shape maps f) _ _ (λ s. refl)
ty_same maps (suc room) f = shaped (ty_shape maps f) _ _ (ty_parts_same (ty_of maps room) (ty_faults maps room) (ty_same maps room))

clause_same : (maps : Bool) (e : Form → Read Expr) (ks : Form → List FaultKind) → ((f : Form) → Same (e f) (ks f)) → (s : ClauseShape)
    → Same (clause_parts maps e s) (all_faults (part_faults none none ks) (faults.clause_parts maps s))
clause_same maps e ks h (InEach x a) = onward (bound maps x) _ (name_faults (is_free maps x) false x) _ (declared_same (is_free maps x) false x) (λ x. ended _ (ks a) (done (e a) _ (ks a) (h a)))
clause_same maps e ks h (WhenTrue c) = ended _ (ks c) (done (e c) _ (ks c) (h c))

clause_of_same : (maps : Bool) (e : Form → Read Expr) (ks : Form → List FaultKind) → ((f : Form) → Same (e f) (ks f)) → (f : Form)
    → Same (clause_of maps e f) (clause_faults maps ks f)
clause_of_same maps e ks h f = shaped (clause_shape f) _ _ (clause_same maps e ks h)

int_same : (word : List ℕ) → Same (int_of word) (unless (is_i64 (value word)) OverLimit [])
int_same word = limited (is_i64 (value word)) (Ok _) [] refl

place_same : (e : Expr) (word : List ℕ) → Same (item_at e word) (place_faults word)
place_same e word = limited (is_i64 (value word)) (Ok _) [] refl

text_same : (text : List ℕ) → Same (text_of text) (unless (nat_le (length text) max_text) OverLimit [])
text_same text = limited (nat_le (length text) max_text) (Ok _) [] refl

used_same : (b : Bool) (word : List ℕ) → Same (if b then Ok word else Err UnknownForm) (unless b UnknownForm [])
used_same true word = refl
used_same false word = refl

-- two expressions, and then nothing
two : (e : Form → Read Expr) (ks : Form → List FaultKind) → ((f : Form) → Same (e f) (ks f)) → (a b : Form) (make : Expr → Expr → Expr)
    → Same (e a >>= (λ a. e b >>= (λ b. Ok (make a b)))) (ks a ++ (ks b ++ []))
two e ks h a b make = last (e a) (e b) make (ks a) (ks b ++ []) (h a) (ended (e b) (ks b) (h b))

expr_parts_same : (maps : Bool) (t : Form → Read Ty) (tks : Form → List FaultKind) → ((f : Form) → Same (t f) (tks f)) → (e : Form → Read Expr) (ks : Form → List FaultKind) → ((f : Form) → Same (e f) (ks f)) → (s : Shape)
    → Same (expr_parts maps t e s) (unless (fits s) OverLimit (all_faults (part_faults (clause_faults maps ks) tks ks) (parts maps s)))
expr_parts_same maps t tks ht e ks h (Integer word) = int_same word
expr_parts_same maps t tks ht e ks h (Truth b) = refl
expr_parts_same maps t tks ht e ks h (Quoted text) = text_same text
expr_parts_same maps t tks ht e ks h (Used x) = refl
expr_parts_same maps t tks ht e ks h (Let x a b) =
    onward (bound maps x) _ (name_faults (is_free maps x) false x) _ (declared_same (is_free maps x) false x) (λ x. two e ks h a b (λ a b. expr.Let x a b))
expr_parts_same maps t tks ht e ks h (If c a b) = onward (e c) _ (ks c) _ (h c) (λ c. two e ks h a b (λ a b. expr.If c a b))
expr_parts_same maps t tks ht e ks h (And a b) = two e ks h a b (λ a b. expr.And a b)
expr_parts_same maps t tks ht e ks h (Or a b) = two e ks h a b (λ a b. expr.Or a b)
expr_parts_same maps t tks ht e ks h (Unary operator a) = ended _ (ks a) (done (e a) _ (ks a) (h a))
expr_parts_same maps t tks ht e ks h (Binary operator a b) = two e ks h a b (λ a b. expr.Binary operator a b)
expr_parts_same maps t tks ht e ks h (Tuple es) = limited (are_few es) _ _ (done (each e es) _ _ (each_same e (part_faults (clause_faults maps ks) tks ks) Expression h es))
expr_parts_same maps t tks ht e ks h (At a i) = onward (e a) _ (ks a) _ (h a) (λ a. ended (item_at a i) (place_faults i) (place_same a i))
expr_parts_same maps t tks ht e ks h (ListOf a es) = onward (t a) _ (tks a) _ (ht a) (λ a. done (each e es) _ _ (each_same e (part_faults (clause_faults maps ks) tks ks) Expression h es))
expr_parts_same maps t tks ht e ks h (For cs b) =
    limited (are_few cs) _ _
    (rw (all_append (part_faults (clause_faults maps ks) tks ks) (map Clause cs) (Expression b ∷ []))
    (onward (each (clause_of maps e) cs) _ (all_faults (part_faults (clause_faults maps ks) tks ks) (map Clause cs)) _ (each_same (clause_of maps e) (part_faults (clause_faults maps ks) tks ks) Clause (clause_of_same maps e ks h) cs)
    (λ cs. ended _ (ks b) (done (e b) _ (ks b) (h b)))))
expr_parts_same maps t tks ht e ks h (Fold x a acc i b) =
    onward (bound maps x) _ (name_faults (is_free maps x) false x) _ (declared_same (is_free maps x) false x) (λ y.
    onward (e a) _ (ks a) _ (h a) (λ a.
    onward (bound_beside maps x acc) _ (name_faults (is_free maps acc) (bytes_eq x acc) acc) _ (declared_same (is_free maps acc) (bytes_eq x acc) acc) (λ acc.
    two e ks h i b (λ i b. expr.Fold y a acc i b))))
expr_parts_same maps t tks ht e ks h (MapOf k a) = ended _ (tks a) (done (t a) _ (tks a) (ht a))
expr_parts_same maps t tks ht e ks h (Put m k v) = onward (e m) _ (ks m) _ (h m) (λ m. two e ks h k v (λ k v. expr.Put m k v))
expr_parts_same maps t tks ht e ks h (Call op es) =
    onward (used_operation op) _ (unless (is_used_operation op) UnknownForm []) _ (used_same (is_used_operation op) op)
    (λ op. done (each e es) _ _ (each_same e (part_faults (clause_faults maps ks) tks ks) Expression h es))
expr_parts_same maps t tks ht e ks h (Apply f es) = done (each e es) _ _ (each_same e (part_faults (clause_faults maps ks) tks ks) Expression h es)

pub expr_same : (maps : Bool) (room : ℕ) (f : Form) → Same (expr_of maps room f) (expr_faults maps room f)
unfolding expr_of expr_faults
expr_same maps zero f = shaped (shape_of maps f) _ _ (λ s. refl)
expr_same maps (suc room) f = shaped (shape_of maps f) _ _ (expr_parts_same maps (ty_of maps ty_room) (ty_faults maps ty_room) (ty_same maps ty_room) (expr_of maps room) (expr_faults maps room) (expr_same maps room))
