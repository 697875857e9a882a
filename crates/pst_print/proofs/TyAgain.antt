-- What is written for a type is read as the type.
use Rattle.std.proofs.Common.{◌≡◌, ℕ, zero, suc, Bool, true, false, List, [], ◌∷◌, length, map, Option, Some, None, Ok, Err, refl, sym, ap, ◌∙◌, subst, arith}
use Rattle.std.specs.Prelude.{if◌then◌else◌, codes}
use Rattle.std.specs.Str.{bytes_eq}
use Rattle.std.proofs.lemmas.Slice.Eq.{bytes_eq-Decides}
use Rattle.pst_sexpr.specs.declared.form.Form.{Form, Form-F, out-Form, roll-Form, roll-out-Form}
use Rattle.pst_sexpr.specs.declared.form.Form.TheVariants.{Word, Node, rolls-Word, rolls-Node}
use Rattle.pst_value.specs.declared.ty.Ty.{Ty}
use Rattle.pst_value.specs.declared.ty.Ty as ty
use Rattle.pst_syntax.specs.declared.fault.FaultKind.TheVariants.{OverLimit}
use Rattle.pst_syntax.specs.declared.words.Head.{Head}
use Rattle.pst_syntax.specs.declared.words.Head.TheVariants as head
use Rattle.pst_syntax.specs.Heads.{head_of}
use Rattle.pst_syntax.specs.Names.{is_short}
use Rattle.pst_syntax.specs.Shape.{TyShape, IntType, BoolType, TextType, CallType, TupleType, ListType, MapType, RefType, ty_shape, ty_at, ty_node, ty_headed, some_of, key_shape}
use Rattle.pst_sexpr.specs.Parts.{word_of, headed}
use Rattle.pst_syntax.specs.Reading.{Read, ◌>>=◌, known, within, once, lawful, each, declared, are_few, ty_of, ty_parts}
use Rattle.pst_print.specs.Printed.{ty_form}
use Rattle.pst_print.specs.Words.{key_word}
use Rattle.pst_print.proofs.Alike.{Alike, AllAlike, none, more, itself}
use Rattle.pst_print.proofs.Forms.{type_Int, type_Bool, type_Text, type_Call, type_Tuple, type_List, type_Map, type_Ref}
use Rattle.pst_print.proofs.Shapes.{spelled, head_word, word_is, made_some, key_is}

-- ---- reading, backwards and forwards

pub behind : {A B : Type 0} (r : Read A) (f : A → Read B) (x : B) → (r >>= f) ≡ Ok x → (a : A) × (r ≡ Ok a) × (f a ≡ Ok x)
behind (Ok a) f x e = (a, refl, e)
behind (Err w) f x e = absurd (cc)

pub onward : {A B : Type 0} (r : Read A) (f : A → Read B) (a : A) (x : B) → r ≡ Ok a → f a ≡ Ok x → (r >>= f) ≡ Ok x
onward r f a x e g = ap (λ q. q >>= f) e ∙ g

pub knows : {S A : Type 0} (o : Option S) (f : S → Read A) (x : A) → known o f ≡ Ok x → (s : S) × (o ≡ Some s) × (f s ≡ Ok x)
knows (Some s) f x e = (s, refl, e)
knows None f x e = absurd (cc)

pub inside : {A : Type 0} (b : Bool) (r : Read A) (x : A) → within b r ≡ Ok x → (b ≡ true) × (r ≡ Ok x)
inside true r x e = (refl, e)
inside false r x e = absurd (cc)

pub once_is : {A : Type 0} (b : Bool) (r : Read A) (x : A) → once b r ≡ Ok x → (b ≡ false) × (r ≡ Ok x)
once_is true r x e = absurd (cc)
once_is false r x e = (refl, e)

abbrev pub okay : {A : Type 0} → A → Read A
okay a = Ok a

pub same : {A : Type 0} (a b : A) → okay a ≡ Ok b → a ≡ b
same a b e = cc

name_is : (a b c : Bool) (w y : List ℕ) → lawful a (once b (within c (Ok w))) ≡ Ok y → w ≡ y
name_is true false true w y e = cc
name_is true false false w y e = absurd (cc)
name_is true true c w y e = absurd (cc)
name_is false b c w y e = absurd (cc)

pub declared_is : (a b : Bool) (w y : List ℕ) → declared a b w ≡ Ok y → w ≡ y
unfolding declared
declared_is a b w y e = name_is a b (is_short w) w y e

-- ---- what is read again

-- the tree that is written for what was read of a tree is read as the same, and is as large
pub record Again {A : Type 0} (r : Form → Read A) (p : A → Form) (f : Form) (a : A) : Type 0 where
  pub reads : r (p a) ≡ Ok a
  pub alike : Alike f (p a)

pub record AllAgain {A : Type 0} (r : Form → Read A) (p : A → Form) (fs : List Form) (items : List A) : Type 0 where
  pub reads : each r (map p items) ≡ Ok items
  pub alike : AllAlike fs (map p items)
  pub count : length (map p items) ≡ length fs
  pub some : some_of fs ≡ Some fs → some_of (map p items) ≡ Some (map p items)

pub each_again : {A : Type 0} (r : Form → Read A) (p : A → Form) → ((f : Form) (a : A) → r f ≡ Ok a → Again r p f a) → (fs : List Form) (items : List A) → each r fs ≡ Ok items → AllAgain r p fs items
each_again r p h [] [] e = record { reads = refl; alike = none; count = refl; some = λ k. absurd (cc) }
each_again r p h [] (a ∷ items) e = absurd (cc)
each_again r p h (f ∷ fs) items e =
    let q = behind (r f) (λ a. each r fs >>= (λ items. Ok (a ∷ items))) items e in
    let u = behind (each r fs) (λ items. Ok (q.0 ∷ items)) items q.2 in
    let i = h f q.0 q.1 in
    let j = each_again r p h fs u.0 u.1 in
    subst (AllAgain r p (f ∷ fs)) (same _ _ u.2) (record {
      reads = onward (r (p q.0)) (λ a. each r (map p u.0) >>= (λ items. Ok (a ∷ items))) q.0 _ i.reads (onward (each r (map p u.0)) (λ items. Ok (q.0 ∷ items)) u.0 _ j.reads refl);
      alike = more i.alike j.alike;
      count = let k = j.count in omega arith;
      some = λ k. refl;
    })

-- ---- types

ty_form_of : TyShape → Form
ty_form_of IntType = Word (codes "int")
ty_form_of BoolType = Word (codes "bool")
ty_form_of TextType = Word (codes "text")
ty_form_of CallType = Word (codes "call")
ty_form_of (TupleType ts) = headed (codes "tuple") ts
ty_form_of (ListType t) = headed (codes "list") (t ∷ [])
ty_form_of (MapType k t) = headed (codes "map") (Word (key_word k) ∷ t ∷ [])
ty_form_of (RefType t) = headed (codes "ref") (t ∷ [])

each_is : {A : Type 0} (r : Form → Read A) (p : A → Form) → ((f : Form) (a : A) → r f ≡ Ok a → f ≡ p a) → (fs : List Form) (items : List A) → each r fs ≡ Ok items → fs ≡ map p items
each_is r p h [] [] e = refl
each_is r p h [] (a ∷ items) e = absurd (cc)
each_is r p h (f ∷ fs) items e =
    let q = behind (r f) (λ a. each r fs >>= (λ items. Ok (a ∷ items))) items e in
    let u = behind (each r fs) (λ items. Ok (q.0 ∷ items)) items q.2 in
    ap (λ g. g ∷ fs) (h f q.0 q.1) ∙ ap (λ gs. p q.0 ∷ gs) (each_is r p h fs u.0 u.1) ∙ ap (map p) (same (q.0 ∷ u.0) items u.2)

ty_parts_is : (e : Form → Read Ty) → ((f : Form) (a : Ty) → e f ≡ Ok a → f ≡ ty_form a) → (s : TyShape) (z : Ty) → ty_parts e s ≡ Ok z → ty_form_of s ≡ ty_form z
unfolding ty_form_of
ty_parts_is e h IntType z k = sym type_Int ∙ ap ty_form (same ty.Int z k)
ty_parts_is e h BoolType z k = sym type_Bool ∙ ap ty_form (same ty.Bool z k)
ty_parts_is e h TextType z k = sym type_Text ∙ ap ty_form (same ty.Text z k)
ty_parts_is e h CallType z k = sym type_Call ∙ ap ty_form (same ty.Call z k)
ty_parts_is e h (TupleType ts) z k =
    let k' = inside (are_few ts) (each e ts >>= (λ ts. Ok (ty.Tuple ts))) z k in
    let q = behind (each e ts) (λ ts. Ok (ty.Tuple ts)) z k'.1 in
    ap (headed (codes "tuple")) (each_is e ty_form h ts q.0 q.1) ∙ sym (type_Tuple q.0) ∙ ap ty_form (same (ty.Tuple q.0) z q.2)
ty_parts_is e h (ListType a) z k =
    let q = behind (e a) (λ a. Ok (ty.List a)) z k in
    ap (λ f. headed (codes "list") (f ∷ [])) (h a q.0 q.1) ∙ sym (type_List q.0) ∙ ap ty_form (same (ty.List q.0) z q.2)
ty_parts_is e h (MapType j a) z k =
    let q = behind (e a) (λ a. Ok (ty.Map j a)) z k in
    ap (λ f. headed (codes "map") (Word (key_word j) ∷ f ∷ [])) (h a q.0 q.1) ∙ sym (type_Map j q.0) ∙ ap ty_form (same (ty.Map j q.0) z q.2)
ty_parts_is e h (RefType a) z k =
    let q = behind (e a) (λ a. Ok (ty.Ref a)) z k in
    ap (λ f. headed (codes "ref") (f ∷ [])) (h a q.0 q.1) ∙ sym (type_Ref q.0) ∙ ap ty_form (same (ty.Ref q.0) z q.2)

ty_got : (s t : TyShape) → Some s ≡ Some t → ty_form_of s ≡ ty_form_of t
ty_got s t e = let q : s ≡ t = cc in ap ty_form_of q

ty_headed_is : (maps : Bool) (h : Option Head) (w : List ℕ) (parts : List Form) (s : TyShape) → head_of maps w ≡ h → ty_headed h parts ≡ Some s → Node (Word w ∷ parts) ≡ ty_form_of s
unfolding ty_form_of spelled
ty_headed_is maps (Some head.Tuple) w (t ∷ ts) s o k = ap (λ v. Node (Word v ∷ t ∷ ts)) (head_word maps w head.Tuple o) ∙ ty_got (TupleType (t ∷ ts)) s k
ty_headed_is maps (Some head.List) w (t ∷ []) s o k = ap (λ v. Node (Word v ∷ t ∷ [])) (head_word maps w head.List o) ∙ ty_got (ListType t) s k
ty_headed_is maps (Some head.Map) w (j ∷ t ∷ []) s o k =
    let p = made_some (key_shape j) (λ j. Some (MapType j t)) s k in
    ap (λ v. Node (Word v ∷ j ∷ t ∷ [])) (head_word maps w head.Map o) ∙ ap (λ y. Node (Word (codes "map") ∷ y ∷ t ∷ [])) (key_is j p.0 p.1) ∙ ty_got (MapType p.0 t) s p.2
ty_headed_is maps (Some head.Ref) w (t ∷ []) s o k = ap (λ v. Node (Word v ∷ t ∷ [])) (head_word maps w head.Ref o) ∙ ty_got (RefType t) s k
ty_headed_is maps _ w _ s o k = absurd (cc)

ty_words : (a b c d : Bool) (w : List ℕ) (s : TyShape) → (a ≡ true → w ≡ codes "int") → (b ≡ true → w ≡ codes "bool") → (c ≡ true → w ≡ codes "text") → (d ≡ true → w ≡ codes "call")
    → (if a then Some IntType else if b then Some BoolType else if c then Some TextType else if d then Some CallType else None) ≡ Some s → Word w ≡ ty_form_of s
unfolding ty_form_of
ty_words true b c d w s p q r t k = ap Word (p refl) ∙ ty_got IntType s k
ty_words false true c d w s p q r t k = ap Word (q refl) ∙ ty_got BoolType s k
ty_words false false true d w s p q r t k = ap Word (r refl) ∙ ty_got TextType s k
ty_words false false false true w s p q r t k = ap Word (t refl) ∙ ty_got CallType s k
ty_words false false false false w s p q r t k = absurd (cc)

ty_node_is : (maps : Bool) (parts : List Form) (s : TyShape) → ty_node maps parts ≡ Some s → Node parts ≡ ty_form_of s
ty_node_is maps [] s k = absurd (cc)
ty_node_is maps (h ∷ parts) s k =
    let p = made_some (word_of h) (λ w. ty_headed (head_of maps w) parts) s k in
    ap (λ y. Node (y ∷ parts)) (word_is h p.0 p.1) ∙ ty_headed_is maps (head_of maps p.0) p.0 parts s refl p.2

ty_shape_is_at : (maps : Bool) (d : Form-F Form) (f : Form) (s : TyShape) → roll-Form d ≡ f → ty_at maps d ≡ Some s → f ≡ ty_form_of s
ty_shape_is_at maps (Form-F.Word w) f s r k = sym r ∙ rolls-Word w ∙ ty_words (bytes_eq w (codes "int")) (bytes_eq w (codes "bool")) (bytes_eq w (codes "text")) (bytes_eq w (codes "call")) w s
    (bytes_eq-Decides w (codes "int")).0 (bytes_eq-Decides w (codes "bool")).0 (bytes_eq-Decides w (codes "text")).0 (bytes_eq-Decides w (codes "call")).0 k
ty_shape_is_at maps (Form-F.Text t) f s r k = absurd (cc)
ty_shape_is_at maps (Form-F.Node parts) f s r k = sym r ∙ rolls-Node parts ∙ ty_node_is maps parts s k

ty_shape_is : (maps : Bool) (f : Form) (s : TyShape) → ty_shape maps f ≡ Some s → f ≡ ty_form_of s
unfolding ty_shape
ty_shape_is maps f s k = ty_shape_is_at maps (out-Form f) f s (roll-out-Form f) k

pub ty_is : (maps : Bool) (room : ℕ) (f : Form) (a : Ty) → ty_of maps room f ≡ Ok a → f ≡ ty_form a
unfolding ty_of
ty_is maps zero f z k = let p = knows (ty_shape maps f) (λ s. Err OverLimit) z k in let e : Err OverLimit ≡ Ok z = p.2 in absurd (cc)
ty_is maps (suc room) f z k =
    let p = knows (ty_shape maps f) (ty_parts (ty_of maps room)) z k in
    ty_shape_is maps f p.0 p.1 ∙ ty_parts_is (ty_of maps room) (ty_is maps room) p.0 z p.2

pub ty_again : (maps : Bool) (room : ℕ) (f : Form) (a : Ty) → ty_of maps room f ≡ Ok a → Again (ty_of maps room) ty_form f a
ty_again maps room f a e =
    let i = ty_is maps room f a e in
    record { reads = subst (λ g. ty_of maps room g ≡ Ok a) i e; alike = subst (Alike f) i (itself f) }
