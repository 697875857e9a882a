-- What the program is asked for.
use Rattle.std.specs.Prelude.{◌≡◌, ◌⊎◌, ⊤, ℕ, List, Option, None, Some, IsSome, codes}
use Rattle.clap.specs.Words.{first_value, found_of, one_text}
use Rattle.clap.specs.declared.parser.matches.ArgMatches.{ArgMatches}
use Rattle.pst.specs.Answering.{HasTrials}
use Rattle.pst.specs.Numbers.{GivesNumbers, GivesTrials, LacksCases, LacksRange, LacksTrials}
use Rattle.pst.specs.declared.answering.InputCommand.{InputCommand}
use Rattle.pst.specs.declared.answering.InputCommand.TheVariants as input
use Rattle.pst.specs.declared.commands.Command.{Command}
use Rattle.pst.specs.declared.commands.Command.TheVariants as command
use Rattle.pst.specs.declared.subcommands.Subcommand.{Subcommand}
use Rattle.pst.specs.declared.subcommands.Subcommand.TheVariants as subcommand
use Rattle.pst_cli.specs.declared.campaign.UndrawnTrials.TheVariants.{LeftOut}
use Rattle.pst_trial.specs.Settings.{AreInRange}

-- its numbers are in their ranges
abbrev pub IsInRange : Command → Type 0
IsInRange (command.OfInput c) = HasTrials c
IsInRange (command.Judge options) = Unit {0}
IsInRange (command.Stream order) = Unit {0}
IsInRange (command.Run run) = Unit {0}
IsInRange (command.Campaign campaign) = AreInRange campaign.settings

-- the subcommand of a command that needs nothing but its input
abbrev pub subcommand_of_input : InputCommand → Subcommand
subcommand_of_input (input.Check form notices) = subcommand.Check
subcommand_of_input input.ListCode = subcommand.List
subcommand_of_input (input.Convert form) = subcommand.Convert
subcommand_of_input (input.Generate form settings first count) = subcommand.Generate
subcommand_of_input (input.Explain options has_progress_line) = subcommand.Explain
subcommand_of_input (input.Draw order item is_whole) = subcommand.Explain

-- the subcommand of a command
abbrev pub subcommand_of : Command → Subcommand
subcommand_of (command.OfInput c) = subcommand_of_input c
subcommand_of (command.Judge options) = subcommand.Judge
subcommand_of (command.Stream order) = subcommand.Judge
subcommand_of (command.Run run) = subcommand.Run
subcommand_of (command.Campaign campaign) = subcommand.Campaign

-- ---- what the arguments of a subcommand choose

-- an option has a value
abbrev pub IsGiven : ArgMatches → (option : List ℕ) → Type 0
IsGiven arguments option = IsSome (first_value (found_of arguments) option)

-- a flag is not set
abbrev pub IsUnset : ArgMatches → (flag : List ℕ) → Type 0
IsUnset arguments flag = (one_text (found_of arguments) flag ≡ None) ⊎ (one_text (found_of arguments) flag ≡ Some (codes "false"))

-- the items of a stream are judged
abbrev pub IsOfStream : Command → Type 0
IsOfStream (command.OfInput c) = ⊥
IsOfStream (command.Judge options) = ⊥
IsOfStream (command.Stream order) = ⊤
IsOfStream (command.Run run) = ⊥
IsOfStream (command.Campaign campaign) = ⊥

-- the options give the numbers of a command
abbrev pub HasNumbersOf : ArgMatches → Command → Type 0
HasNumbersOf arguments (command.OfInput c) = GivesNumbers arguments c
HasNumbersOf arguments (command.Judge options) = ⊤
HasNumbersOf arguments (command.Stream order) = ⊤
HasNumbersOf arguments (command.Run run) = ⊤
HasNumbersOf arguments (command.Campaign campaign) = GivesTrials arguments campaign.settings

-- numbers that are not drawn are left out of the status of a campaign
abbrev pub LeavesOutUndrawn : Command → Type 0
LeavesOutUndrawn (command.OfInput c) = ⊥
LeavesOutUndrawn (command.Judge options) = ⊥
LeavesOutUndrawn (command.Stream order) = ⊥
LeavesOutUndrawn (command.Run run) = ⊥
LeavesOutUndrawn (command.Campaign campaign) = campaign.undrawn ≡ LeftOut

-- the arguments say when a campaign ends: after some seconds, or when a file is there
abbrev pub SaysWhenToEnd : ArgMatches → Type 0
SaysWhenToEnd arguments = IsGiven arguments (codes "seconds") ⊎ IsGiven arguments (codes "stop-file")

-- The arguments of a subcommand may choose the command: it is one of this subcommand, it judges a stream only with `--stream`, the
-- numbers of its cases are those of the options, and it leaves out numbers that are not drawn only if they say when to end.
pub record MayChoose (c : Subcommand) (arguments : ArgMatches) (command : Command) : Type 0 where
  pub named : subcommand_of command ≡ c
  pub stream : IsUnset arguments (codes "stream") → IsOfStream command → ⊥
  pub numbers : HasNumbersOf arguments command
  pub undrawn : LeavesOutUndrawn command → SaysWhenToEnd arguments

-- they choose none: the options give no settings of cases or trials in their ranges
abbrev pub ChoosesNone : Subcommand → ArgMatches → Type 0
ChoosesNone c arguments =
    ((c ≡ subcommand.Generate) × (LacksCases arguments ⊎ LacksRange arguments))
    ⊎ ((c ≡ subcommand.Campaign) × LacksTrials arguments)

-- the failures of a campaign are to be saved
abbrev pub SavesFailures : Subcommand → ArgMatches → Type 0
SavesFailures c arguments = (c ≡ subcommand.Campaign) × IsGiven arguments (codes "save")
