-- What `pst explain --dot` writes: its refusals and its status are those of `pst judge`, and it refuses an
-- item that there is none of.
use Rattle.std.specs.Prelude.{ℕ, ◌+◌, if◌then◌else◌, List, [], ◌∷◌, Option, Some, None}
use Rattle.pst_cli.specs.ChosenItem.{IsOfItem}
use Rattle.pst_cli.specs.Output.{IsOutput, is_good}
use Rattle.pst_cli.specs.declared.answer.Status.{Status}
use Rattle.pst_judge.specs.declared.by_order.CallOrder.{CallOrder}
use Rattle.pst_judge.specs.declared.judgement.Judged.{Judged}

-- the number of the first item that is neither explained nor valid, where the first of these has this number;
-- 1 where there is none
abbrev pub first_failed : ℕ → List Judged → ℕ
first_failed number [] = 1
first_failed number (j ∷ js) = if is_good j then first_failed (number + 1) js else number

-- the number of the item that is drawn: the one that is asked for, or else the first that is neither
-- explained nor valid
abbrev pub drawn_number : Option ℕ → List Judged → ℕ
drawn_number (Some number) js = number
drawn_number None js = first_failed 1 js

-- a graph, of which nothing is said, with the status of the judgements; or the refusal of an item that there
-- is none of
abbrev pub IsGraphOf : Option ℕ → List Judged → List ℕ → Status → Type 0
IsGraphOf item js text status = IsOfItem (drawn_number item js) js text status

abbrev pub IsGraphOutput : CallOrder → List ℕ → Option ℕ → List ℕ → Status → Type 0
IsGraphOutput order input item text status = IsOutput order (IsGraphOf item) input text status
