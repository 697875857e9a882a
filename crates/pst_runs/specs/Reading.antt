-- The first fault of the commands of a case as they are spelled.
use Rattle.std.specs.Prelude.{◌==◌, ◌&&◌, ◌||◌, ◌+◌, ℕ, nat_lt, Bool, true, false, if◌then◌else◌, List, [], ◌∷◌, map, length, Option, Some, None}
use Rattle.pst_case.specs.Shape.{joined, are_over_limit, or_else, at_command, shape_fault}
use Rattle.pst_case.specs.declared.case.Case.{Case}
use Rattle.pst_case.specs.declared.case.Command.{Command}
use Rattle.pst_case.specs.declared.shaping.CaseFault.{CaseFault}
use Rattle.pst_case.specs.declared.shaping.CaseFaultKind.{CaseFaultKind}
use Rattle.pst_case.specs.declared.shaping.CaseFaultKind.TheVariants.{UnknownOp, BadArgument, ForwardVar, CrossVar, OverLimit, NoMemory}
use Rattle.pst_model.specs.declared.model.Source.{Source}
use Rattle.pst_runs.specs.Commands.{present}
use Rattle.pst_runs.specs.declared.commands.SpelledCommand.{SpelledCommand}
use Rattle.pst_runs.specs.declared.commands.SpelledCommand.TheVariants.{Whole, Partial, Unknown}
use Rattle.pst_runs.specs.declared.commands.SpelledCase.{SpelledCase}

-- ---- what can be read

abbrev pub readable : SpelledCommand → Option Command
readable (Whole c) = Some c
readable (Partial c) = Some c
readable Unknown = None

-- without the commands whose operation is unknown, and without the arguments that spell no value
abbrev pub readable_part : List SpelledCommand → List Command
readable_part cs = present (map readable cs)

abbrev pub readable_case : SpelledCase → Case
readable_case c =
    record {
      prefix = readable_part c.prefix;
      branches = map readable_part c.branches;
      suffix = readable_part c.suffix;
    }

-- ---- what cannot be read

abbrev pub unread : SpelledCommand → Option CaseFaultKind
unread (Whole c) = None
unread (Partial c) = Some BadArgument
unread Unknown = Some UnknownOp

-- the first command of a part that cannot be read whole, where the part's first command has the number
abbrev pub part_unread : ℕ → List SpelledCommand → Option CaseFault
part_unread number [] = None
part_unread number (c ∷ cs) = or_else (at_command number (unread c)) (part_unread (number + 1) cs)

-- the first one of branches before which so many commands stand
abbrev pub branches_unread : ℕ → List (List SpelledCommand) → Option CaseFault
branches_unread before [] = None
branches_unread before (b ∷ bs) =
    or_else (part_unread (before + 1) b) (branches_unread (before + length b) bs)

-- the first one of a case
abbrev pub case_unread : SpelledCase → Option CaseFault
case_unread c =
    let before = length c.prefix + length (joined c.branches) in
    or_else (part_unread 1 c.prefix)
    (or_else (branches_unread (length c.prefix) c.branches) (part_unread (before + 1) c.suffix))

-- ---- the first fault

-- the limits of a case: its commands are counted whether they can be read or not
abbrev pub over_limit : SpelledCase → Bool
over_limit c = are_over_limit c.prefix c.branches c.suffix

abbrev pub is_unknown : CaseFaultKind → Bool
is_unknown UnknownOp = true
is_unknown BadArgument = false
is_unknown ForwardVar = false
is_unknown CrossVar = false
is_unknown OverLimit = false
is_unknown NoMemory = false

-- the fault of the lower number; at one command UnknownOp comes before the faults of the shape, and these
-- before the BadArgument of an argument that spells no value
abbrev pub comes_before : (unread shape : CaseFault) → Bool
comes_before unread shape =
    nat_lt unread.command shape.command || (unread.command == shape.command && is_unknown unread.kind)

abbrev pub first_of : (unread shape : Option CaseFault) → Option CaseFault
first_of None shape = shape
first_of (Some unread) None = Some unread
first_of (Some unread) (Some shape) = if comes_before unread shape then Some unread else Some shape

-- the limits first, and then the commands by their numbers
abbrev pub case_fault : Source → SpelledCase → Option CaseFault
case_fault m c =
    if over_limit c then Some (record { kind = OverLimit; command = 0 })
    else first_of (case_unread c) (shape_fault m (readable_case c))
