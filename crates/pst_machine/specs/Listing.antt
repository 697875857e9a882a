-- The text of code: a line for each instruction, with single spaces.
use Rattle.std.specs.Prelude.{ℕ, Bool, true, false, if◌then◌else◌, ◌==◌, ◌||◌, ◌+◌, List, [], ◌∷◌, ◌++◌, codes, decimal}
use Rattle.std.specs.Fmt.{signed_decimal}
use Rattle.pst_model.specs.declared.expr.Unary.{Unary as UnaryOperator}
use Rattle.pst_model.specs.declared.expr.Unary.TheVariants as unary
use Rattle.pst_model.specs.declared.expr.Binary.{Binary as BinaryOperator}
use Rattle.pst_model.specs.declared.expr.Binary.TheVariants as binary
use Rattle.pst_value.specs.declared.key.Key.{Key}
use Rattle.pst_value.specs.declared.key.Key.TheVariants as key
use Rattle.pst_value.specs.declared.value.Value.{Value, fold-Value}
use Rattle.pst_value.specs.declared.value.Value.TheOpen.{Value-F}
use Rattle.pst_machine.specs.declared.code.Instr.{Instr}
use Rattle.pst_machine.specs.declared.code.Instr.TheVariants.{Const, Move, Take, Unary, Binary, Put, At, Tuple, List as MakeList, Call, Append, Jump, Unless, Apply, Loop, Return}
use Rattle.pst_machine.specs.declared.code.FunCode.{FunCode}

-- ---- values, as items spell them

abbrev pub truth_text : Bool → List ℕ
truth_text true = codes "true"
truth_text false = codes "false"

-- a byte of a text: a quote and a backslash stand behind a backslash
abbrev pub byte_text : ℕ → List ℕ
byte_text byte = if (byte == 34) || (byte == 92) then 92 ∷ byte ∷ [] else byte ∷ []

abbrev pub bytes_text : List ℕ → List ℕ
bytes_text [] = []
bytes_text (byte ∷ bytes) = byte_text byte ++ bytes_text bytes

-- parts, each behind a space
abbrev pub parts_text : List (List ℕ) → List ℕ
parts_text [] = []
parts_text (part ∷ parts) = 32 ∷ part ++ parts_text parts

abbrev pub key_text : Key → List ℕ
key_text (key.Int n) = signed_decimal n
key_text (key.Bool b) = truth_text b
key_text (key.Text t) = 34 ∷ bytes_text t ++ 34 ∷ []

-- a key and the text of its value in brackets, behind a space
abbrev pub entry_text : Key → List ℕ → List ℕ
entry_text k part = 32 ∷ 40 ∷ key_text k ++ 32 ∷ part ++ 41 ∷ []

-- keys and the texts of their values
abbrev pub entries_text : List Key → List (List ℕ) → List ℕ
entries_text [] parts = []
entries_text (k ∷ ks) [] = []
entries_text (k ∷ ks) (part ∷ parts) = entry_text k part ++ entries_text ks parts

-- a value, by the texts of its parts (a constant of compiled code holds neither a reference nor a call)
abbrev pub text_at : Value-F (List ℕ) → List ℕ
text_at (Value-F.Int n) = signed_decimal n
text_at (Value-F.Bool b) = truth_text b
text_at (Value-F.Text t) = 34 ∷ bytes_text t ++ 34 ∷ []
text_at (Value-F.Tuple parts) = codes "(tuple" ++ parts_text parts ++ 41 ∷ []
text_at (Value-F.List parts) = codes "(list" ++ parts_text parts ++ 41 ∷ []
text_at (Value-F.Map ks parts) = codes "(map" ++ entries_text ks parts ++ 41 ∷ []
text_at (Value-F.Var n) = codes "$" ++ decimal n
text_at (Value-F.Ref n part) = part
text_at (Value-F.Call op parts) = codes "(call" ++ parts_text parts ++ 41 ∷ []

unfoldable pub value_text : Value → List ℕ
value_text = fold-Value (List ℕ) text_at

-- ---- instructions

abbrev pub unary_name : UnaryOperator → List ℕ
unary_name unary.Not = codes "not"
unary_name unary.Len = codes "len"
unary_name unary.Deref = codes "deref"
unary_name unary.Keys = codes "keys"

abbrev pub binary_name : BinaryOperator → List ℕ
binary_name binary.Add = codes "add"
binary_name binary.Sub = codes "sub"
binary_name binary.Mul = codes "mul"
binary_name binary.Div = codes "div"
binary_name binary.Rem = codes "rem"
binary_name binary.Less = codes "less"
binary_name binary.LessEqual = codes "lesseq"
binary_name binary.Equal = codes "eq"
binary_name binary.Same = codes "same"
binary_name binary.Append = codes "cat"
binary_name binary.Nth = codes "nth"
binary_name binary.Range = codes "range"
binary_name binary.Get = codes "get"
binary_name binary.Has = codes "has"
binary_name binary.Del = codes "del"

-- numbers, each behind a space
abbrev pub numbers_text : List ℕ → List ℕ
numbers_text [] = []
numbers_text (n ∷ ns) = 32 ∷ decimal n ++ numbers_text ns

-- a name and numbers
abbrev pub words_text : List ℕ → List ℕ → List ℕ
words_text name numbers = name ++ numbers_text numbers

-- the name of an instruction, and its operands
abbrev pub instr_text : Instr → List ℕ
instr_text (Const d v) = words_text (codes "const") (d ∷ []) ++ 32 ∷ value_text v
instr_text (Move d a) = words_text (codes "move") (d ∷ a ∷ [])
instr_text (Take d a) = words_text (codes "take") (d ∷ a ∷ [])
instr_text (Unary op d a) = words_text (unary_name op) (d ∷ a ∷ [])
instr_text (Binary op d a b) = words_text (binary_name op) (d ∷ a ∷ b ∷ [])
instr_text (Put d a b c) = words_text (codes "put") (d ∷ a ∷ b ∷ c ∷ [])
instr_text (At d a i) = words_text (codes "at") (d ∷ a ∷ i ∷ [])
instr_text (Tuple d from) = words_text (codes "tuple") (d ∷ []) ++ numbers_text from
instr_text (MakeList d from) = words_text (codes "list") (d ∷ []) ++ numbers_text from
instr_text (Call d op from) = words_text (codes "call") (d ∷ op ∷ []) ++ numbers_text from
instr_text (Append d a) = words_text (codes "append") (d ∷ a ∷ [])
instr_text (Jump p) = words_text (codes "jump") (p ∷ [])
instr_text (Unless a p) = words_text (codes "unless") (a ∷ p ∷ [])
instr_text (Apply d f from) = words_text (codes "apply") (d ∷ f ∷ []) ++ numbers_text from
instr_text (Loop d a i p) = words_text (codes "loop") (d ∷ a ∷ i ∷ p ∷ [])
instr_text (Return a) = words_text (codes "ret") (a ∷ [])

-- ---- lines

-- the number of the function, the place, the instruction, and a line end
abbrev pub line_text : (number place : ℕ) → Instr → List ℕ
line_text number place instr = decimal number ++ 32 ∷ decimal place ++ 32 ∷ instr_text instr ++ 10 ∷ []

-- the instructions of a function from the place on
abbrev pub body_text : (number place : ℕ) → List Instr → List ℕ
body_text number place [] = []
body_text number place (instr ∷ rest) = line_text number place instr ++ body_text number (place + 1) rest

-- the functions from the number on
abbrev pub code_text : (number : ℕ) → List FunCode → List ℕ
code_text number [] = []
code_text number (function ∷ rest) = body_text number 0 function.body ++ code_text (number + 1) rest
