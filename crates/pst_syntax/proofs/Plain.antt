-- A type that was read in the language without maps holds no map.
use Rattle.std.proofs.Common.{◌≡◌, ℕ, Bool, true, false, zero, suc, List, [], ◌∷◌, map, Option, Some, None, Ok, Err, refl, sym, ap, ◌∙◌, subst}
use Rattle.std.specs.Prelude.{◌||◌, if◌then◌else◌, codes}
use Rattle.std.specs.List.{list_any}
use Rattle.std.specs.Str.{bytes_eq}
use Rattle.pst_model.specs.Language.{holds_map, layer_maps}
use Rattle.pst_sexpr.specs.declared.form.Form.{Form, out-Form}
use Rattle.pst_sexpr.specs.declared.form.Form.TheOpen.{Form-F}
use Rattle.pst_sexpr.specs.Parts.{word_of, and_then}
use Rattle.pst_syntax.specs.Heads.{rows, look_up, or_of_maps, head_of}
use Rattle.pst_syntax.specs.declared.fault.FaultKind.TheVariants.{OverLimit}
use Rattle.pst_syntax.specs.declared.words.Head.{Head}
use Rattle.pst_syntax.specs.declared.words.Head.TheVariants as head
use Rattle.pst_syntax.specs.Reading.{Read, ◌>>=◌, each, are_few, ty_of, ty_parts}
use Rattle.pst_syntax.specs.Shape.{TyShape, IntType, BoolType, TextType, CallType, TupleType, ListType, MapType, RefType, ty_headed, ty_node, ty_at, ty_shape}
use Rattle.pst_syntax.proofs.Complete.{bind_ok, known_ok, within_ok, okay}
use Rattle.pst_value.specs.declared.ty.Ty.{Ty, Ty-F, fold-roll-Ty}
use Rattle.pst_value.specs.declared.ty.Ty as ty
use Rattle.pst_value.specs.declared.ty.Ty.TheVariants as tys

-- ---- heads

pub neither : (a b : Bool) → (a || b) ≡ false → (a ≡ false) × (b ≡ false)
neither true b e = absurd (cc)
neither false b e = (refl, e)

is_map : Head → Bool
is_map head.Map = true
is_map _ = false

row_plain : (b : Bool) (h k : Head) (rest : Option Head) → is_map h ≡ false → (rest ≡ Some k → is_map k ≡ false) → (if b then Some h else rest) ≡ Some k → is_map k ≡ false
row_plain true h k rest n more e = let q : h ≡ k = cc in ap is_map (sym q) ∙ n
row_plain false h k rest n more e = more e

rows_plain : (all : List (List ℕ × Head)) (word : List ℕ) (h : Head) → list_any (λ row. is_map row.1) all ≡ false → look_up all word ≡ Some h → is_map h ≡ false
rows_plain [] word h n e = absurd (cc)
rows_plain (row ∷ all) word h n e =
    let p = neither (is_map row.1) (list_any (λ row. is_map row.1) all) n in
    row_plain (bytes_eq row.0 word) row.1 h (look_up all word) p.0 (rows_plain all word h p.1) e

found_in_rows : (maps : Bool) (o : Option Head) (word : List ℕ) (h : Head) → maps ≡ false → or_of_maps o maps word ≡ Some h → o ≡ Some h
found_in_rows maps (Some g) word h n e = e
found_in_rows true None word h n e = absurd (cc)
found_in_rows false None word h n e = absurd (cc)

-- no word is the head of a map without maps
head_plain : (maps : Bool) (word : List ℕ) (h : Head) → maps ≡ false → head_of maps word ≡ Some h → is_map h ≡ false
unfolding head_of is_map
head_plain maps word h n e = rows_plain rows word h refl (found_in_rows maps (look_up rows word) word h n e)

-- ---- shapes

is_map_type : TyShape → Bool
is_map_type (MapType k t) = true
is_map_type _ = false

got : (s t : TyShape) → is_map_type s ≡ false → Some s ≡ Some t → is_map_type t ≡ false
got s t n e = let q : s ≡ t = cc in ap is_map_type (sym q) ∙ n

made_some : {A B : Type 0} (o : Option A) (f : A → Option B) (b : B) → and_then o f ≡ Some b → (a : A) × (o ≡ Some a) × (f a ≡ Some b)
made_some None f b e = absurd (cc)
made_some (Some a) f b e = (a, refl, e)

words_plain : (a b c d : Bool) (s : TyShape) → (if a then Some IntType else if b then Some BoolType else if c then Some TextType else if d then Some CallType else None) ≡ Some s → is_map_type s ≡ false
unfolding is_map_type
words_plain true b c d s e = got IntType s refl e
words_plain false true c d s e = got BoolType s refl e
words_plain false false true d s e = got TextType s refl e
words_plain false false false true s e = got CallType s refl e
words_plain false false false false s e = absurd (cc)

headed_plain : (o : Option Head) (parts : List Form) (s : TyShape) → ((h : Head) → o ≡ Some h → is_map h ≡ false) → ty_headed o parts ≡ Some s → is_map_type s ≡ false
unfolding is_map is_map_type
headed_plain (Some head.Tuple) (t ∷ ts) s n e = got (TupleType (t ∷ ts)) s refl e
headed_plain (Some head.List) (t ∷ []) s n e = got (ListType t) s refl e
headed_plain (Some head.Ref) (t ∷ []) s n e = got (RefType t) s refl e
headed_plain (Some head.Map) parts s n e = absurd (let q : is_map head.Map ≡ false = n head.Map refl in cc)
headed_plain _ _ s n e = absurd (cc)

node_plain : (maps : Bool) (parts : List Form) (s : TyShape) → maps ≡ false → ty_node maps parts ≡ Some s → is_map_type s ≡ false
node_plain maps [] s n e = absurd (cc)
node_plain maps (first ∷ parts) s n e =
    let p = made_some (word_of first) (λ word. ty_headed (head_of maps word) parts) s e in
    headed_plain (head_of maps p.0) parts s (λ h. head_plain maps p.0 h n) p.2

shape_plain_at : (maps : Bool) (d : Form-F Form) (s : TyShape) → maps ≡ false → ty_at maps d ≡ Some s → is_map_type s ≡ false
shape_plain_at maps (Form-F.Word word) s n e = words_plain (bytes_eq word (codes "int")) (bytes_eq word (codes "bool")) (bytes_eq word (codes "text")) (bytes_eq word (codes "call")) s e
shape_plain_at maps (Form-F.Text text) s n e = absurd (cc)
shape_plain_at maps (Form-F.Node parts) s n e = node_plain maps parts s n e

shape_plain : (maps : Bool) (form : Form) (s : TyShape) → maps ≡ false → ty_shape maps form ≡ Some s → is_map_type s ≡ false
unfolding ty_shape
shape_plain maps form s n e = shape_plain_at maps (out-Form form) s n e

-- ---- types

layers : (d : Ty-F Ty) → holds_map (ty.roll-Ty d) ≡ layer_maps (ty.map-Ty Ty Bool holds_map d)
unfolding holds_map
layers d = fold-roll-Ty Bool layer_maps d

maps_in_int : holds_map ty.Int ≡ false
maps_in_int = ap holds_map (sym tys.rolls-Int) ∙ layers Ty-F.Int

maps_in_bool : holds_map ty.Bool ≡ false
maps_in_bool = ap holds_map (sym tys.rolls-Bool) ∙ layers Ty-F.Bool

maps_in_text : holds_map ty.Text ≡ false
maps_in_text = ap holds_map (sym tys.rolls-Text) ∙ layers Ty-F.Text

maps_in_call : holds_map ty.Call ≡ false
maps_in_call = ap holds_map (sym tys.rolls-Call) ∙ layers Ty-F.Call

maps_in_tuple : (ts : List Ty) → holds_map (ty.Tuple ts) ≡ list_any (λ held. held) (map holds_map ts)
maps_in_tuple ts = ap holds_map (sym (tys.rolls-Tuple ts)) ∙ layers (Ty-F.Tuple ts)

maps_in_list : (t : Ty) → holds_map (ty.List t) ≡ holds_map t
maps_in_list t = ap holds_map (sym (tys.rolls-List t)) ∙ layers (Ty-F.List t)

maps_in_ref : (t : Ty) → holds_map (ty.Ref t) ≡ holds_map t
maps_in_ref t = ap holds_map (sym (tys.rolls-Ref t)) ∙ layers (Ty-F.Ref t)

-- what is read of a tree holds no map
abbrev Plain : (Form → Read Ty) → Type 0
Plain read = (form : Form) (t : Ty) → read form ≡ Ok t → holds_map t ≡ false

pub both_false : (a b : Bool) → a ≡ false → b ≡ false → (a || b) ≡ false
both_false a b e f = ap (λ a. a || b) e ∙ f

each_plain : (read : Form → Read Ty) → Plain read → (forms : List Form) (ts : List Ty) → each read forms ≡ Ok ts → list_any (λ held. held) (map holds_map ts) ≡ false
each_plain read h [] ts e = let r : [] ≡ ts = cc in subst (λ ts. list_any (λ held. held) (map holds_map ts) ≡ false) r refl
each_plain read h (form ∷ forms) ts e =
    let p = bind_ok (read form) (λ t. each read forms >>= (λ ts. Ok (t ∷ ts))) ts e in
    let q = bind_ok (each read forms) (λ ts. Ok (p.0 ∷ ts)) ts p.2 in
    let r : p.0 ∷ q.0 ≡ ts = okay (p.0 ∷ q.0) ts q.2 in
    subst (λ ts. list_any (λ held. held) (map holds_map ts) ≡ false) r
    (both_false (holds_map p.0) (list_any (λ held. held) (map holds_map q.0)) (h form p.0 p.1) (each_plain read h forms q.0 q.1))

one : (t u : Ty) → t ≡ u → holds_map t ≡ false → holds_map u ≡ false
one t u r e = ap holds_map (sym r) ∙ e

parts_plain : (read : Form → Read Ty) → Plain read → (shape : TyShape) (t : Ty) → is_map_type shape ≡ false → ty_parts read shape ≡ Ok t → holds_map t ≡ false
unfolding is_map_type
parts_plain read h IntType t n e = one ty.Int t (okay ty.Int t e) maps_in_int
parts_plain read h BoolType t n e = one ty.Bool t (okay ty.Bool t e) maps_in_bool
parts_plain read h TextType t n e = one ty.Text t (okay ty.Text t e) maps_in_text
parts_plain read h CallType t n e = one ty.Call t (okay ty.Call t e) maps_in_call
parts_plain read h (TupleType forms) t n e =
    let p = within_ok (are_few forms) (each read forms >>= (λ ts. Ok (ty.Tuple ts))) t e in
    let q = bind_ok (each read forms) (λ ts. Ok (ty.Tuple ts)) t p.1 in
    one (ty.Tuple q.0) t (okay (ty.Tuple q.0) t q.2) (maps_in_tuple q.0 ∙ each_plain read h forms q.0 q.1)
parts_plain read h (ListType form) t n e =
    let q = bind_ok (read form) (λ a. Ok (ty.List a)) t e in
    one (ty.List q.0) t (okay (ty.List q.0) t q.2) (maps_in_list q.0 ∙ h form q.0 q.1)
parts_plain read h (MapType k form) t n e = absurd (cc)
parts_plain read h (RefType form) t n e =
    let q = bind_ok (read form) (λ a. Ok (ty.Ref a)) t e in
    one (ty.Ref q.0) t (okay (ty.Ref q.0) t q.2) (maps_in_ref q.0 ∙ h form q.0 q.1)

-- a type that is read without maps holds none
pub ty_plain : (maps : Bool) (room : ℕ) → maps ≡ false → Plain (ty_of maps room)
unfolding ty_of
ty_plain maps zero n form t e =
    let p = known_ok (ty_shape maps form) (λ shape. Err OverLimit) t e in
    absurd (let q : Err OverLimit ≡ Ok t = p.2 in cc)
ty_plain maps (suc room) n form t e =
    let p = known_ok (ty_shape maps form) (ty_parts (ty_of maps room)) t e in
    parts_plain (ty_of maps room) (ty_plain maps room n) p.0 t (shape_plain maps form p.0 n p.1) p.2
