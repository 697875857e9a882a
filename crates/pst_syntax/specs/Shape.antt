-- The tables: what a tree is, one level deep.
use Rattle.std.specs.Prelude.{◌||◌, ℕ, Bool, true, false, if◌then◌else◌, List, [], ◌∷◌, Option, Some, None, codes}
use Rattle.std.specs.Str.{bytes_eq}
use Rattle.pst_sexpr.specs.declared.form.Form.{Form, out-Form}
use Rattle.pst_sexpr.specs.declared.form.Form.TheOpen.{Form-F}
use Rattle.pst_sexpr.specs.Parts.{word_of, node_of, and_then, where_true}
use Rattle.pst_value.specs.declared.key.KeyTy.{KeyTy}
use Rattle.pst_value.specs.declared.key.KeyTy.TheVariants as kind
use Rattle.pst_model.specs.declared.expr.Unary.{Unary as UnaryOp}
use Rattle.pst_model.specs.declared.expr.Binary.{Binary as BinaryOp}
use Rattle.pst_syntax.specs.declared.words.Head.{Head}
use Rattle.pst_syntax.specs.declared.words.Head.TheVariants as head
use Rattle.pst_syntax.specs.Heads.{head_of}
use Rattle.pst_syntax.specs.Names.{is_used}
use Rattle.pst_syntax.specs.Places.{is_place}
use Rattle.pst_sexpr.specs.Integers.{is_integer}

-- an expression, whose parts are trees yet
pub data Shape : Type 0 where
  Integer : List ℕ → Shape
  Truth : Bool → Shape
  Quoted : List ℕ → Shape
  Used : List ℕ → Shape
  Let : List ℕ → Form → Form → Shape
  If : Form → Form → Form → Shape
  And : Form → Form → Shape
  Or : Form → Form → Shape
  Unary : UnaryOp → Form → Shape
  Binary : BinaryOp → Form → Form → Shape
  Tuple : List Form → Shape
  At : Form → List ℕ → Shape
  ListOf : Form → List Form → Shape
  For : List Form → Form → Shape
  Fold : List ℕ → Form → List ℕ → Form → Form → Shape
  -- the empty map of a type of keys and a type of values
  MapOf : KeyTy → Form → Shape
  -- a map, a key and its value
  Put : Form → Form → Form → Shape
  Call : List ℕ → List Form → Shape
  Apply : List ℕ → List Form → Shape

-- one or more
abbrev pub some_of : List Form → Option (List Form)
some_of [] = None
some_of (form ∷ forms) = Some (form ∷ forms)

-- the type of the keys of a map: THE TABLE OF KEY TYPES
abbrev pub key_word : List ℕ → Option KeyTy
key_word word =
    if bytes_eq word (codes "int") then Some kind.Int
    else if bytes_eq word (codes "bool") then Some kind.Bool
    else if bytes_eq word (codes "text") then Some kind.Text
    else None

abbrev pub key_shape : Form → Option KeyTy
key_shape form = and_then (word_of form) key_word

abbrev pub word_shape : Bool → List ℕ → Option Shape
word_shape has_maps word =
    if is_integer word then Some (Integer word)
    else if bytes_eq word (codes "true") then Some (Truth true)
    else if bytes_eq word (codes "false") then Some (Truth false)
    else where_true (bytes_eq word (codes "s") || bytes_eq word (codes "r") || is_used has_maps word)
    (Used word)

-- THE TABLE OF EXPRESSIONS: what stands behind each head word
abbrev pub headed : Head → List Form → Option Shape
headed head.Let (x ∷ e ∷ b ∷ []) = and_then (word_of x) (λ x. Some (Let x e b))
headed head.If (c ∷ a ∷ b ∷ []) = Some (If c a b)
headed head.And (a ∷ b ∷ []) = Some (And a b)
headed head.Or (a ∷ b ∷ []) = Some (Or a b)
headed (head.Unary operator) (a ∷ []) = Some (Unary operator a)
headed (head.Binary operator) (a ∷ b ∷ []) = Some (Binary operator a b)
headed head.Tuple es = and_then (some_of es) (λ es. Some (Tuple es))
headed head.At (e ∷ i ∷ []) = and_then (word_of i) (λ i. where_true (is_place i) (At e i))
headed head.List (t ∷ es) = Some (ListOf t es)
headed head.For (cs ∷ b ∷ []) = and_then (node_of cs) (λ cs. and_then (some_of cs) (λ cs. Some (For cs b)))
headed head.Fold (x ∷ e ∷ acc ∷ i ∷ b ∷ []) =
    and_then (word_of x) (λ x. and_then (word_of acc) (λ acc. Some (Fold x e acc i b)))
headed head.Map (k ∷ t ∷ []) = and_then (key_shape k) (λ k. Some (MapOf k t))
headed head.Put (m ∷ k ∷ v ∷ []) = Some (Put m k v)
headed head.Call (op ∷ es) = and_then (word_of op) (λ op. Some (Call op es))
headed _ _ = None

-- another word applies a function
abbrev pub applied : Bool → Option Head → List ℕ → List Form → Option Shape
applied has_maps (Some head) word parts = headed head parts
applied has_maps None word parts = where_true (is_used has_maps word) (Apply word parts)

abbrev pub node_shape : Bool → List Form → Option Shape
node_shape has_maps [] = None
node_shape has_maps (first ∷ parts) =
    and_then (word_of first) (λ word. applied has_maps (head_of has_maps word) word parts)

abbrev pub shape_at : Bool → Form-F Form → Option Shape
shape_at has_maps (Form-F.Word word) = word_shape has_maps word
shape_at has_maps (Form-F.Text text) = Some (Quoted text)
shape_at has_maps (Form-F.Node parts) = node_shape has_maps parts

-- which form of expression a tree has, in the language with or without maps
unfoldable pub shape_of : Bool → Form → Option Shape
shape_of has_maps form = shape_at has_maps (out-Form form)

-- a type, whose parts are trees yet
pub data TyShape : Type 0 where
  IntType : TyShape
  BoolType : TyShape
  TextType : TyShape
  CallType : TyShape
  TupleType : List Form → TyShape
  ListType : Form → TyShape
  MapType : KeyTy → Form → TyShape
  RefType : Form → TyShape

-- THE TABLE OF TYPES
abbrev pub ty_word : List ℕ → Option TyShape
ty_word word =
    if bytes_eq word (codes "int") then Some IntType
    else if bytes_eq word (codes "bool") then Some BoolType
    else if bytes_eq word (codes "text") then Some TextType
    else if bytes_eq word (codes "call") then Some CallType
    else None

abbrev pub ty_headed : Option Head → List Form → Option TyShape
ty_headed (Some head.Tuple) ts = and_then (some_of ts) (λ ts. Some (TupleType ts))
ty_headed (Some head.List) (t ∷ []) = Some (ListType t)
ty_headed (Some head.Map) (k ∷ t ∷ []) = and_then (key_shape k) (λ k. Some (MapType k t))
ty_headed (Some head.Ref) (t ∷ []) = Some (RefType t)
ty_headed _ _ = None

abbrev pub ty_node : Bool → List Form → Option TyShape
ty_node has_maps [] = None
ty_node has_maps (first ∷ parts) =
    and_then (word_of first) (λ word. ty_headed (head_of has_maps word) parts)

abbrev pub ty_at : Bool → Form-F Form → Option TyShape
ty_at has_maps (Form-F.Word word) = ty_word word
ty_at has_maps (Form-F.Text text) = None
ty_at has_maps (Form-F.Node parts) = ty_node has_maps parts

-- which form of type a tree has, in the language with or without maps
unfoldable pub ty_shape : Bool → Form → Option TyShape
ty_shape has_maps form = ty_at has_maps (out-Form form)

-- a clause, whose parts are trees yet
pub data ClauseShape : Type 0 where
  InEach : List ℕ → Form → ClauseShape
  WhenTrue : Form → ClauseShape

-- THE TABLE OF CLAUSES, which is the same in both languages
abbrev pub clause_headed : Option Head → List Form → Option ClauseShape
clause_headed (Some head.In) (x ∷ e ∷ []) = and_then (word_of x) (λ x. Some (InEach x e))
clause_headed (Some head.When) (c ∷ []) = Some (WhenTrue c)
clause_headed _ _ = None

abbrev pub clause_node : List Form → Option ClauseShape
clause_node [] = None
clause_node (first ∷ parts) = and_then (word_of first) (λ word. clause_headed (head_of false word) parts)

-- which form of clause a tree has
unfoldable pub clause_shape : Form → Option ClauseShape
clause_shape form = and_then (node_of form) clause_node
