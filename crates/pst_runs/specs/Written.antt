-- The tree that is written for a run: numbers in their shortest form, two branches as `left` and `right`.
use Rattle.std.specs.Prelude.{ℕ, Bool, true, false, List, [], ◌∷◌, ◌++◌, map, Option, Some, None, codes, decimal}
use Rattle.std.specs.Fmt.{signed_decimal}
use Rattle.pst_case.specs.declared.case.Case.{Case}
use Rattle.pst_case.specs.declared.case.Command.{Command}
use Rattle.pst_case.specs.declared.history.CallTime.{CallTime}
use Rattle.pst_case.specs.declared.history.History.{History}
use Rattle.pst_case.specs.declared.history.Reply.{Reply}
use Rattle.pst_case.specs.declared.history.Reply.TheVariants as reply
use Rattle.pst_case.specs.declared.history.Run.{Run}
use Rattle.pst_model.specs.Parts.{operation_of}
use Rattle.pst_model.specs.declared.model.Op.{Op}
use Rattle.pst_model.specs.declared.model.Source.{Source}
use Rattle.pst_sexpr.specs.Parts.{headed}
use Rattle.pst_sexpr.specs.declared.form.Form.{Form}
use Rattle.pst_sexpr.specs.declared.form.Form.TheVariants.{Word, Text, Node}
use Rattle.pst_value.specs.declared.key.Key.{Key}
use Rattle.pst_value.specs.declared.key.Key.TheVariants as key
use Rattle.pst_value.specs.declared.value.Value.{Value, fold-Value}
use Rattle.pst_value.specs.declared.value.Value.TheOpen.{Value-F}

-- ---- values

abbrev pub truth_word : Bool → List ℕ
truth_word true = codes "true"
truth_word false = codes "false"

-- the tree of a key
abbrev pub key_form : Key → Form
key_form (key.Int n) = Word (signed_decimal n)
key_form (key.Bool b) = Word (truth_word b)
key_form (key.Text t) = Text t

-- `(k v)` for each key and the value at its place
abbrev pub entries_form : List Key → List Form → List Form
entries_form ks [] = []
entries_form [] (form ∷ forms) = []
entries_form (k ∷ ks) (form ∷ forms) = Node (key_form k ∷ form ∷ []) ∷ entries_form ks forms

-- the tree of a value, by those of its parts (neither a reference nor a call stands in a lawful run)
abbrev pub value_at : Value-F Form → Form
value_at (Value-F.Int n) = Word (signed_decimal n)
value_at (Value-F.Bool b) = Word (truth_word b)
value_at (Value-F.Text t) = Text t
value_at (Value-F.Tuple parts) = headed (codes "tuple") parts
value_at (Value-F.List parts) = headed (codes "list") parts
value_at (Value-F.Map keys parts) = headed (codes "map") (entries_form keys parts)
value_at (Value-F.Var n) = Word (codes "$" ++ decimal n)
value_at (Value-F.Ref n part) = part
value_at (Value-F.Call op parts) = Node parts

-- the tree of a value
unfoldable pub value_form : Value → Form
value_form = fold-Value Form value_at

-- ---- commands

abbrev pub name_in : Option Op → List ℕ
name_in None = []
name_in (Some o) = o.name

-- the name of the operation of a number
abbrev pub name_of : Source → ℕ → List ℕ
name_of m op = name_in (operation_of m.items op)

-- the name of its operation, and its arguments
abbrev pub command_form : Source → Command → Form
command_form m c = headed (name_of m c.op) (map value_form c.args)

-- ---- cases

abbrev pub section_form : Source → List ℕ → List Command → Form
section_form m word cs = headed word (map (command_form m) cs)

abbrev pub branch_form : Source → List Command → Form
branch_form m cs = Node (map (command_form m) cs)

-- a left and a right branch, or another number of branches
abbrev pub branches_forms : Source → List (List Command) → List Form
branches_forms m (left ∷ right ∷ []) =
    section_form m (codes "left") left ∷ section_form m (codes "right") right ∷ []
branches_forms m branches = headed (codes "branches") (map (branch_form m) branches) ∷ []

-- the suffix, where it has commands
abbrev pub suffix_forms : Source → List Command → List Form
suffix_forms m [] = []
suffix_forms m (c ∷ cs) = section_form m (codes "suffix") (c ∷ cs) ∷ []

-- the prefix, the branches, and the suffix
abbrev pub case_forms : Source → Case → List Form
case_forms m c =
    section_form m (codes "prefix") c.prefix ∷ branches_forms m c.branches ++ suffix_forms m c.suffix

-- ---- replies

abbrev pub reply_form : Reply → Form
reply_form (reply.Value v) = value_form v
reply_form reply.Misfit = Word (codes "misfit")
reply_form reply.Failed = Word (codes "failed")
reply_form reply.NotRun = Word (codes "not-run")
reply_form reply.Unknown = Word (codes "unknown")

-- the replies of a part
abbrev pub list_form : List Reply → Form
list_form replies = Node (map reply_form replies)

-- the replies of the suffix, where it has commands
abbrev pub suffix_lists : List Reply → List Form
suffix_lists [] = []
suffix_lists (r ∷ rs) = list_form (r ∷ rs) ∷ []

-- the replies of the prefix, those of each branch, and those of the suffix
abbrev pub replies_form : History → Form
replies_form h =
    headed (codes "replies") (list_form h.prefix ∷ map list_form h.branches ++ suffix_lists h.suffix)

-- ---- times

-- `-` if the call is not known to have completed
abbrev pub completion_word : Option ℕ → List ℕ
completion_word None = codes "-"
completion_word (Some completed) = decimal completed

abbrev pub time_form : CallTime → Form
time_form t = Node (Word (decimal t.invoked) ∷ Word (completion_word t.completed) ∷ [])

-- the times of a branch
abbrev pub times_form : List CallTime → Form
times_form ts = Node (map time_form ts)

-- the times of each branch, where they were recorded
abbrev pub times_forms : Option (List (List CallTime)) → List Form
times_forms None = []
times_forms (Some times) = headed (codes "times") (map times_form times) ∷ []

-- ---- items

abbrev pub item_form : Source → Case → Option History → Form
item_form m c None = headed (codes "case") (case_forms m c)
item_form m c (Some h) = headed (codes "run") (case_forms m c ++ replies_form h ∷ times_forms h.times)

-- the tree of a run: a `case` where it has no history, and else a `run`
abbrev pub run_form : Source → Run → Form
run_form m run = item_form m run.shaped.case run.history

-- the trees of runs
abbrev pub run_forms : Source → List Run → List Form
run_forms m runs = map (run_form m) runs
