-- Reading runs: the form of an item first, then the faults of its case, then its replies, then its times.
use Rattle.std.specs.Prelude.{◌+◌, ℕ, if◌then◌else◌, List, [], ◌∷◌, Option, Some, None, Result, Ok, Err}
use Rattle.pst_case.specs.declared.case.Case.{Case}
use Rattle.pst_case.specs.declared.shaping.CaseFault.{CaseFault}
use Rattle.pst_case.specs.declared.shaping.CaseFaultKind.TheVariants.{NoMemory}
use Rattle.pst_case.specs.declared.history.History.{History}
use Rattle.pst_case.specs.declared.history.Run.{Run}
use Rattle.pst_model.specs.declared.model.Source.{Source}
use Rattle.pst_runs.specs.Forms.{Parts, parts_of}
use Rattle.pst_runs.specs.Reading.{readable_case, case_fault}
use Rattle.pst_runs.specs.Replies.{◌>>=◌, then_more, history_of, are_counted}
use Rattle.pst_runs.specs.Times.{timed_history}
use Rattle.pst_runs.specs.declared.reader.ItemFault.{ItemFault}
use Rattle.pst_runs.specs.declared.reader.RunFault.{RunFault}
use Rattle.pst_runs.specs.declared.reader.RunFaultKind.TheVariants as kind
use Rattle.pst_sexpr.specs.declared.form.Form.{Form}

-- ---- one item

-- a case of the model, with its history
abbrev pub run : Source → Case → Option History → Run
run m c history = record { shaped = record { model = m; case = c }; history = history }

abbrev pub with_times : Source → Case → Result History ℕ → Result Run ItemFault
with_times m c (Ok history) = Ok (run m c (Some history))
with_times m c (Err number) = Err (record { kind = kind.BadTimes; command = number })

abbrev pub with_history : Source → Case → Option (List Form) → Result History ℕ → Result Run ItemFault
with_history m c times (Ok history) = with_times m c (timed_history history times)
with_history m c times (Err number) = Err (record { kind = kind.BadReply; command = number })

-- the run of a case, its lists of replies, and its lists of times
abbrev pub run_of : Source → Case → (replies times : Option (List Form)) → Result Run ItemFault
run_of m c None times = Ok (run m c None)
run_of m c (Some lists) times =
    if are_counted c lists then with_history m c times (history_of m c lists)
    else Err (record { kind = kind.NotAFit; command = 0 })

abbrev pub of_case : CaseFault → ItemFault
of_case fault = record { kind = kind.Case fault.kind; command = fault.command }

abbrev pub unless_fault : Option CaseFault → Result Run ItemFault → Result Run ItemFault
unless_fault None run = run
unless_fault (Some fault) run = Err (of_case fault)

abbrev pub of_parts : Source → Option Parts → Result Run ItemFault
of_parts m None = Err (record { kind = kind.BadForm; command = 0 })
of_parts m (Some parts) =
    unless_fault (case_fault m parts.read) (run_of m (readable_case parts.read) parts.replies parts.times)

-- the run that a tree spells, or its first fault: BadForm, then that of the case, then NotAFit, then BadReply,
-- then BadTimes
unfoldable pub item_of : Source → Form → Result Run ItemFault
item_of m form = of_parts m (parts_of m form)

-- ---- all items

abbrev pub numbered : ℕ → Result Run ItemFault → Result Run RunFault
numbered number (Ok run) = Ok run
numbered number (Err fault) = Err (record { run = number; command = fault.command; kind = fault.kind })

-- the runs that trees spell, the first of which has the number, or the fault of the first that has one
abbrev pub runs_from : Source → ℕ → List Form → Result (List Run) RunFault
runs_from m number [] = Ok []
runs_from m number (form ∷ forms) =
    numbered number (item_of m form) >>= (λ run. then_more run (runs_from m (number + 1) forms))

-- the runs that trees spell, or the fault of the first one that has a fault
abbrev pub runs_of : Source → List Form → Result (List Run) RunFault
runs_of m forms = runs_from m 1 forms

-- memory was refused
abbrev pub no_memory : RunFault
no_memory = record { run = 0; command = 0; kind = kind.Case NoMemory }
