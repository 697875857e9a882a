-- The histories that lists of replies spell.
use Rattle.std.specs.Prelude.{◌==◌, ◌&&◌, ◌+◌, ℕ, Bool, true, false, if◌then◌else◌, List, [], ◌∷◌, ◌++◌, length, slice_get, Option, Some, None, Result, Ok, Err, codes}
use Rattle.std.specs.Str.{bytes_eq}
use Rattle.pst_case.specs.Shape.{before_suffix, result_type}
use Rattle.pst_case.specs.declared.case.Case.{Case}
use Rattle.pst_case.specs.declared.case.Command.{Command}
use Rattle.pst_case.specs.declared.history.History.{History}
use Rattle.pst_case.specs.declared.history.Reply.{Reply}
use Rattle.pst_case.specs.declared.history.Reply.TheVariants as reply
use Rattle.pst_model.specs.Fitting.{fits_in}
use Rattle.pst_model.specs.declared.model.Source.{Source}
use Rattle.pst_runs.specs.Values.{value_of, in_replies}
use Rattle.pst_sexpr.specs.Parts.{and_then, word_of, node_of}
use Rattle.pst_sexpr.specs.declared.form.Form.{Form}
use Rattle.pst_value.specs.declared.value.Value.{Value}

-- ---- one reply

-- a value of the operation's result type, and Misfit for another one
abbrev pub answered : Source → Command → Value → Reply
answered m c v = if fits_in m [] [] v (result_type m c) then reply.Value v else reply.Misfit

abbrev pub reply_word : Option (List ℕ) → Option Reply
reply_word None = None
reply_word (Some word) =
    if bytes_eq word (codes "misfit") then Some reply.Misfit
    else if bytes_eq word (codes "failed") then Some reply.Failed
    else if bytes_eq word (codes "not-run") then Some reply.NotRun
    else if bytes_eq word (codes "unknown") then Some reply.Unknown
    else None

abbrev pub or_value : Option Reply → Option Reply → Option Reply
or_value (Some given) other = Some given
or_value None other = other

-- the reply to a command that a tree spells: a word for a reply, or a value without a variable
unfoldable pub reply_of : Source → Command → Form → Option Reply
reply_of m c form =
    or_value (reply_word (word_of form))
    (and_then (value_of (in_replies m) form) (λ v. Some (answered m c v)))

-- ---- lists of replies

infixl 10 ◌>>=◌
abbrev pub ◌>>=◌ : {A B E : Type 0} → Result A E → (A → Result B E) → Result B E
Ok a >>= f = f a
Err e >>= f = Err e

-- some that were read before the others
abbrev pub behind : {A E : Type 0} → List A → Result (List A) E → Result (List A) E
behind read more = more >>= (λ others. Ok (read ++ others))

-- one more before the others
abbrev pub then_more : {A E : Type 0} → A → Result (List A) E → Result (List A) E
then_more a more = more >>= (λ others. Ok (a ∷ others))

abbrev pub or_number : {A : Type 0} → ℕ → Option A → Result A ℕ
or_number number None = Err number
or_number number (Some a) = Ok a

-- the replies to commands, the first of which has the number; or the number of the first command whose tree
-- spells no reply
abbrev pub part_replies : Source → ℕ → List Command → List Form → Result (List Reply) ℕ
part_replies m number [] forms = Ok []
part_replies m number (c ∷ cs) [] = Ok []
part_replies m number (c ∷ cs) (form ∷ forms) =
    or_number number (reply_of m c form) >>= (λ r. then_more r (part_replies m (number + 1) cs forms))

abbrev pub listed_in : Option (List Form) → List Form
listed_in None = []
listed_in (Some parts) = parts

-- the trees of a list
abbrev pub listed : Form → List Form
listed form = listed_in (node_of form)

-- the replies to branches before which so many commands stand
abbrev pub branch_replies : Source → ℕ → List (List Command) → List Form → Result (List (List Reply)) ℕ
branch_replies m before [] lists = Ok []
branch_replies m before (b ∷ bs) [] = Ok []
branch_replies m before (b ∷ bs) (list ∷ lists) =
    part_replies m (before + 1) b (listed list) >>= (λ rs.
    then_more rs (branch_replies m (before + length b) bs lists))

abbrev pub listed_or_none : Option Form → List Form
listed_or_none None = []
listed_or_none (Some form) = listed form

-- the trees of the list of a number from 0, where there is one
abbrev pub listed_at : List Form → ℕ → List Form
listed_at lists n = listed_or_none (slice_get lists n)

-- the history without times that lists of replies spell, or the number of the first command whose tree spells
-- no reply
abbrev pub history_of : Source → Case → List Form → Result History ℕ
history_of m c [] = Ok (record { prefix = []; branches = []; suffix = []; times = None })
history_of m c (list ∷ lists) =
    part_replies m 1 c.prefix (listed list) >>= (λ p.
    branch_replies m (length c.prefix) c.branches lists >>= (λ bs.
    part_replies m (before_suffix c + 1) c.suffix (listed_at lists (length c.branches)) >>= (λ s.
    Ok (record { prefix = p; branches = bs; suffix = s; times = None }))))

-- ---- as many replies as commands

abbrev pub branches_count : List (List Command) → List Form → Bool
branches_count [] lists = true
branches_count (b ∷ bs) [] = false
branches_count (b ∷ bs) (list ∷ lists) = (length (listed list) == length b) && branches_count bs lists

-- as many replies as commands in each part
abbrev pub are_counted : Case → List Form → Bool
are_counted c [] = false
are_counted c (list ∷ lists) =
    (length (listed list) == length c.prefix)
    && branches_count c.branches lists
    && (length (listed_at lists (length c.branches)) == length c.suffix)
