-- How a command ends: its output for the input was sent, or why it has no system to begin with, and the status is that of what
-- was sent. And how a subcommand ends, for which the arguments choose the command.
use Rattle.std.specs.Prelude.{◌≡◌, ◌⊎◌, ⊤, ℕ, true, List, [], ◌∷◌, ◌++◌, Bool, Option, Some, IsSome, Result, Ok, Err, vec_len}
use denote.Ref.{Bor}
use Rattle.std.specs.declared.alloc.Global.{Global}
use Rattle.std.specs.declared.vec.Vec.{Vec}
use Rattle.clap.specs.declared.parser.matches.ArgMatches.{ArgMatches}
use Rattle.pst.specs.Answering.{IsInputAnswer, memory_text}
use Rattle.pst.specs.Commands.{ChoosesNone, MayChoose, SavesFailures}
use Rattle.pst.specs.declared.commands.CampaignCommand.{CampaignCommand}
use Rattle.pst.specs.declared.commands.Command.{Command}
use Rattle.pst.specs.declared.commands.Command.TheVariants.{OfInput, Judge, Stream, Run, Campaign}
use Rattle.pst.specs.declared.commands.RunCommand.{RunCommand}
use Rattle.pst.specs.declared.subcommands.Subcommand.{Subcommand}
use Rattle.pst.specs.declared.systems.SystemsError.{SystemsError}
use Rattle.pst.specs.declared.systems.SystemsError.TheVariants as fault
use Rattle.pst_campaign.specs.Entries.{MayGive}
use Rattle.pst_cli.specs.Absent.{absence_line, absence_status}
use Rattle.pst_cli.specs.Answering.{Reaches, memory_of}
use Rattle.pst_cli.specs.Commands.{IsCampaignAnswer, IsDriveAnswer, IsJudgeAnswer, IsMeant}
use Rattle.pst_cli.specs.Sending.{memory_line}
use Rattle.pst_cli.specs.StreamOutput.{IsStreamOutput}
use Rattle.pst_cli.specs.declared.absent.Absence.{Absence}
use Rattle.pst_cli.specs.declared.absent.Absence.TheVariants as absence
use Rattle.pst_cli.specs.declared.answer.Status.{Status}
use Rattle.pst_cli.specs.declared.answer.Status.TheVariants.{Accepted, Refused, Lost}
use Rattle.pst_cli.specs.declared.drive.DriveOptions.{DriveOptions}
use Rattle.pst_system.specs.Kept.{Answers, Fails, ResetFails}

-- ---- what is written beside the report of a campaign

-- it was written, or it was wanted and could not be written
abbrev pub IsLostOnlyIf : (is_wanted : Type 0) → Status → Type 0
IsLostOnlyIf is_wanted status = (status ≡ Accepted) ⊎ (is_wanted × (status ≡ Lost))

-- a page or results as JUnit XML are wanted
abbrev pub WritesFiles : CampaignCommand → Type 0
WritesFiles campaign = IsSome campaign.page ⊎ IsSome campaign.junit

-- these, or the failures are saved
abbrev pub WritesBeside : CampaignCommand → Type 0
WritesBeside campaign = WritesFiles campaign ⊎ IsSome campaign.saver

-- ---- systems that were made, or not

-- these are the ones that were made
abbrev pub AreMade : {S : Type 0} → Result (Vec S Global) SystemsError → List S → Type 0
AreMade (Ok made) systems = made.items ≡ systems
AreMade (Err e) systems = ⊥

-- why there are none of this name
abbrev pub IsAbsence : {S : Type 0} → Result (Vec S Global) SystemsError → (name : Bor (List ℕ)) → Absence → Type 0
IsAbsence (Ok made) name why = (vec_len made ≡ 0) × (why ≡ absence.NoSystem name)
IsAbsence (Err fault.NoMemory) name why = why ≡ absence.NoMemory
IsAbsence (Err (fault.NoPipes error)) name why = why ≡ absence.NoSystem name

-- ---- the endings

-- Whether an answer went to its place: the status that is returned, whether the answer is a refusal, its text and its own status.
abbrev pub Goes : Type 1
Goes = (returned : Status) → (is_refusal : Bool) → (text : List ℕ) → (status : Status) → Type 0

module _ {S : Type 0} (goes : Goes) (systems : Result (Vec S Global) SystemsError) where
  -- why there are no systems of this name was sent
  abbrev pub Refuses : (name : Bor (List ℕ)) → Status → Type 0
  Refuses name status =
      (why : Absence) × IsAbsence systems name why × goes status true (absence_line why) (absence_status why)

  module _ (answers : S → Answers) (fails : S → Fails) (reset_fails : S → ResetFails) (input : List ℕ) where
    -- the last system was driven, and the report was sent
    abbrev pub Drives : DriveOptions → Status → Type 0
    Drives options status =
        (others : List S) × (system : S) × AreMade systems (others ++ system ∷ [])
        × Reaches (memory_of options.form)
        (IsMeant (IsDriveAnswer options (answers system) (fails system) (reset_fails system)) input) (goes status)

    abbrev pub EndsRun : RunCommand → Status → Type 0
    EndsRun run status = Drives run.options status ⊎ Refuses run.system status

    module _ (may_end : Type 0) where
      -- the report of a campaign on the systems was sent, which a signal, a file or a limit of time may end if `may_end`
      abbrev pub Reports : CampaignCommand → Status → Type 0
      Reports campaign status =
          (all : List S) × AreMade systems all
          × Reaches (memory_of campaign.form)
          (IsMeant (IsCampaignAnswer campaign.form campaign.undrawn (IsSome campaign.most ⊎ may_end)
          (λ s. MayGive (answers s) (fails s) (reset_fails s)) campaign.settings all) input) (goes status)

      -- the status is that of the report; or `Lost`, if what is wanted beside it cannot be written
      abbrev pub EndsCampaign : CampaignCommand → Status → Type 0
      EndsCampaign campaign status =
          Reports campaign status
          ⊎ (WritesBeside campaign × (status ≡ Lost) × ((sent : Status) × Reports campaign sent))
          ⊎ Refuses campaign.system status

      -- `stream` has the bytes of a stream, if they are known
      abbrev pub Ends : (stream : Option (List ℕ)) → Command → Status → Type 0
      Ends stream (OfInput command) status = Reaches (memory_text command) (IsMeant (IsInputAnswer command) input) (goes status)
      Ends stream (Judge options) status = Reaches (memory_of options.form) (IsMeant (IsJudgeAnswer options) input) (goes status)
      Ends stream (Stream order) status =
          (bytes : List ℕ) → stream ≡ Some bytes
          → Reaches memory_line (IsMeant (λ plain. IsStreamOutput ⊤ order plain bytes) input) (goes status)
      Ends stream (Run run) status = EndsRun run status
      Ends stream (Campaign campaign) status = EndsCampaign campaign status

      -- How a subcommand with its arguments ends; `unsent` says that nothing was sent.
      pub data EndsSubcommand (stream : Option (List ℕ)) (c : Subcommand) (arguments : ArgMatches) (unsent : Type 0) (status : Status)
          : Type 0 where
        -- a command that the arguments may choose was run
        runs : (command : Command) → MayChoose c arguments command → Ends stream command status
            → EndsSubcommand stream c arguments unsent status
        -- they choose none
        chooses_none : ChoosesNone c arguments → unsent → status ≡ Refused → EndsSubcommand stream c arguments unsent status
        -- the failures of a campaign are to be saved: there is no folder for them, or no memory
        no_folder : SavesFailures c arguments → unsent → status ≡ Lost → EndsSubcommand stream c arguments unsent status
        no_memory : SavesFailures c arguments → goes status true memory_line Lost
            → EndsSubcommand stream c arguments unsent status
