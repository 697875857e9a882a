-- The results that a history records.
use Rattle.std.specs.Prelude.{List, map, Option, Some, None}
use Rattle.pst_case.specs.Matches.{replies_of}
use Rattle.pst_case.specs.declared.history.History.{History}
use Rattle.pst_case.specs.declared.history.Reply.{Reply}
use Rattle.pst_case.specs.declared.history.Reply.TheVariants.{Value as Answered, Misfit, Failed, NotRun, Unknown}
use Rattle.pst_value.specs.declared.value.Value.{Value}

-- the result that a reply records, if it is a value
abbrev pub result_of : Reply → Option Value
result_of (Answered v) = Some v
result_of Misfit = None
result_of Failed = None
result_of NotRun = None
result_of Unknown = None

-- the recorded results, by the numbers of the commands from 1
abbrev pub recorded : History → List (Option Value)
recorded h = map result_of (replies_of h)
