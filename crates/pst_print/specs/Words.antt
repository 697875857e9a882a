-- The words of a model's tree.
use Rattle.std.specs.Prelude.{ℕ, Bool, true, false, List, codes}
use Rattle.pst_model.specs.declared.expr.Binary.{Binary}
use Rattle.pst_model.specs.declared.expr.Binary.TheVariants.{Add, Sub, Mul, Div, Rem, Less, LessEqual, Equal, Same, Append, Nth, Range, Get, Has, Del}
use Rattle.pst_model.specs.declared.expr.Unary.{Unary}
use Rattle.pst_model.specs.declared.expr.Unary.TheVariants.{Not, Len, Deref, Keys}
use Rattle.pst_value.specs.declared.key.KeyTy.{KeyTy}
use Rattle.pst_value.specs.declared.key.KeyTy.TheVariants as kind

abbrev pub unary_word : Unary → List ℕ
unary_word Not = codes "not"
unary_word Len = codes "len"
unary_word Deref = codes "deref"
unary_word Keys = codes "keys"

abbrev pub binary_word : Binary → List ℕ
binary_word Add = codes "+"
binary_word Sub = codes "-"
binary_word Mul = codes "*"
binary_word Div = codes "div"
binary_word Rem = codes "rem"
binary_word Less = codes "<"
binary_word LessEqual = codes "<="
binary_word Equal = codes "="
binary_word Same = codes "same"
binary_word Append = codes "++"
binary_word Nth = codes "nth"
binary_word Range = codes "range"
binary_word Get = codes "get"
binary_word Has = codes "has"
binary_word Del = codes "del"

abbrev pub truth_word : Bool → List ℕ
truth_word true = codes "true"
truth_word false = codes "false"

-- the type of keys
abbrev pub key_word : KeyTy → List ℕ
key_word kind.Int = codes "int"
key_word kind.Bool = codes "bool"
key_word kind.Text = codes "text"

-- the head of a model, by whether its language has maps
abbrev pub model_word : Bool → List ℕ
model_word true = codes "model2"
model_word false = codes "model"
