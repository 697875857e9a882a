-- The tree that is written for a model: its head by its language, integers in their shortest form, callbacks
-- in the order pre, next, post.
use Rattle.std.specs.Prelude.{ℕ, Bool, true, false, List, [], ◌∷◌, map, codes, decimal}
use Rattle.std.specs.Fmt.{signed_decimal}
use Rattle.pst_model.specs.declared.expr.Clause.{Clause, Clause-F, fold-Clause}
use Rattle.pst_model.specs.declared.expr.Expr.{Expr, Expr-F, fold-Expr}
use Rattle.pst_model.specs.declared.model.Fun.{Fun}
use Rattle.pst_model.specs.declared.model.Item.{Item}
use Rattle.pst_model.specs.declared.model.Item.TheVariants as item
use Rattle.pst_model.specs.declared.model.Op.{Op}
use Rattle.pst_model.specs.declared.model.Param.{Param}
use Rattle.pst_model.specs.declared.model.Source.{Source}
use Rattle.pst_sexpr.specs.Parts.{headed}
use Rattle.pst_print.specs.Words.{unary_word, binary_word, truth_word, key_word, model_word}
use Rattle.pst_sexpr.specs.declared.form.Form.{Form}
use Rattle.pst_sexpr.specs.declared.form.Form.TheVariants.{Word, Text, Node}
use Rattle.pst_value.specs.declared.ty.Ty.{Ty, fold-Ty}
use Rattle.pst_value.specs.declared.ty.Ty.TheOpen.{Ty-F}

-- ---- types

abbrev pub ty_at : Ty-F Form → Form
ty_at Ty-F.Int = Word (codes "int")
ty_at Ty-F.Bool = Word (codes "bool")
ty_at Ty-F.Text = Word (codes "text")
ty_at (Ty-F.Tuple ts) = headed (codes "tuple") ts
ty_at (Ty-F.List t) = headed (codes "list") (t ∷ [])
ty_at (Ty-F.Map k t) = headed (codes "map") (Word (key_word k) ∷ t ∷ [])
ty_at (Ty-F.Ref t) = headed (codes "ref") (t ∷ [])
ty_at Ty-F.Call = Word (codes "call")

-- the tree of a type
unfoldable pub ty_form : Ty → Form
ty_form = fold-Ty Form ty_at

-- ---- expressions

abbrev pub clause_at : Clause-F Form Form → Form
clause_at (Clause-F.In x e) = headed (codes "in") (Word x ∷ e ∷ [])
clause_at (Clause-F.When c) = headed (codes "when") (c ∷ [])

abbrev pub expr_at : Expr-F Form Form → Form
expr_at (Expr-F.Int n) = Word (signed_decimal n)
expr_at (Expr-F.Bool b) = Word (truth_word b)
expr_at (Expr-F.Text t) = Text t
expr_at (Expr-F.Name x) = Word x
expr_at (Expr-F.Let x e b) = headed (codes "let") (Word x ∷ e ∷ b ∷ [])
expr_at (Expr-F.If c a b) = headed (codes "if") (c ∷ a ∷ b ∷ [])
expr_at (Expr-F.And a b) = headed (codes "and") (a ∷ b ∷ [])
expr_at (Expr-F.Or a b) = headed (codes "or") (a ∷ b ∷ [])
expr_at (Expr-F.Unary operator a) = headed (unary_word operator) (a ∷ [])
expr_at (Expr-F.Binary operator a b) = headed (binary_word operator) (a ∷ b ∷ [])
expr_at (Expr-F.Tuple es) = headed (codes "tuple") es
expr_at (Expr-F.At e n) = headed (codes "at") (e ∷ Word (decimal n) ∷ [])
expr_at (Expr-F.List t es) = headed (codes "list") (ty_form t ∷ es)
expr_at (Expr-F.For cs b) = headed (codes "for") (Node cs ∷ b ∷ [])
expr_at (Expr-F.Fold x e acc i b) = headed (codes "fold") (Word x ∷ e ∷ Word acc ∷ i ∷ b ∷ [])
expr_at (Expr-F.Map k t) = headed (codes "map") (Word (key_word k) ∷ ty_form t ∷ [])
expr_at (Expr-F.Put m k v) = headed (codes "put") (m ∷ k ∷ v ∷ [])
expr_at (Expr-F.Call op es) = headed (codes "call") (Word op ∷ es)
expr_at (Expr-F.Apply f es) = headed f es

-- the tree of an expression
unfoldable pub expr_form : Expr → Form
expr_form = fold-Expr Form Form clause_at expr_at

-- the tree of a clause
unfoldable pub clause_form : Clause → Form
clause_form = fold-Clause Form Form clause_at expr_at

-- ---- items

abbrev pub param_form : Param → Form
param_form p = Node (Word p.name ∷ ty_form p.ty ∷ [])

abbrev pub params_form : List Param → Form
params_form params = Node (map param_form params)

-- a name, parameters and a result, and then others
abbrev pub signature : List ℕ → List Param → Ty → List Form → List Form
signature name params result rest = Word name ∷ params_form params ∷ ty_form result ∷ rest

abbrev pub fun_word : Bool → List ℕ
fun_word true = codes "postfun"
fun_word false = codes "fun"

abbrev pub fun_form : Fun → Form
fun_form f = headed (fun_word f.is_post) (signature f.name f.params f.result (expr_form f.body ∷ []))

-- a word, and an expression
abbrev pub single : List ℕ → Expr → Form
single word e = headed word (expr_form e ∷ [])

abbrev pub op_form : Op → Form
op_form o =
    headed (codes "op") (signature o.name o.params o.result (single (codes "pre") o.pre
    ∷ single (codes "next") o.next ∷ single (codes "post") o.post ∷ []))

abbrev pub item_form : Item → Form
item_form (item.State t) = headed (codes "state") (ty_form t ∷ [])
item_form (item.Init e) = single (codes "init") e
item_form (item.Command e) = single (codes "command") e
item_form (item.Fun f) = fun_form f
item_form (item.Op o) = op_form o

-- the tree of a model
abbrev pub source_form : Source → Form
source_form m = headed (model_word m.has_maps) (Word m.name ∷ map item_form m.items)
