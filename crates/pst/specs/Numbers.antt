-- The numbers that the arguments give for cases and trials.
use Rattle.std.specs.Prelude.{◌≡◌, ◌<◌, ◌^◌, ◌-◌, ⊤, ℕ, min, List, Option, None, Some, codes}
use Rattle.std.specs.Str.Parse.{IsNumeral, digits_value, without_leading_plus}
use Rattle.clap.specs.Words.{found_of, one_text}
use Rattle.clap.specs.declared.parser.matches.ArgMatches.{ArgMatches}
use Rattle.pst.specs.declared.answering.InputCommand.{InputCommand}
use Rattle.pst.specs.declared.answering.InputCommand.TheVariants.{Check, ListCode, Convert, Generate, Explain, Draw}
use Rattle.pst_trial.specs.Settings.{AreInRange}
use Rattle.pst_trial.specs.declared.plan.Settings.{Settings}

-- there is a text, and it spells the number, which is below `2 ^ bits`
abbrev pub Spells : (bits : ℕ) → Option (List ℕ) → ℕ → Type 0
Spells bits spelled n =
    (text : List ℕ) × (spelled ≡ Some text) × IsNumeral 10 (without_leading_plus text)
    × (n ≡ digits_value 10 (without_leading_plus text)) × (n < 2 ^ bits)

-- what is read of a text: the number that it spells, or none if it spells none
abbrev pub IsRead : (bits : ℕ) → Option (List ℕ) → Option ℕ → Type 0
IsRead bits spelled (Some n) = Spells bits spelled n
IsRead bits spelled None = (n : ℕ) → Spells bits spelled n → ⊥

-- the option gives the number
abbrev pub Gives : ArgMatches → (bits : ℕ) → (option : List ℕ) → ℕ → Type 0
Gives arguments bits option n = Spells bits (one_text (found_of arguments) option) n

-- the settings are those of cases that the options give
pub record GivesCases (arguments : ArgMatches) (s : Settings) : Type 0 where
  pub seed : Gives arguments 64 (codes "seed") s.seed
  pub commands : Gives arguments 32 (codes "commands") s.commands
  pub branches : Gives arguments 32 (codes "branches") s.branches
  pub suffix : Gives arguments 32 (codes "suffix") s.suffix

-- and those of trials
pub record GivesTrials (arguments : ArgMatches) (s : Settings) : Type 0 where
  pub cases : GivesCases arguments s
  pub trials : Gives arguments 32 (codes "trials") s.trials
  pub repeats : Gives arguments 32 (codes "repeats") s.repeats
  pub limit : Gives arguments 32 (codes "limit") s.limit

-- the options give no settings of cases in their ranges
abbrev pub LacksCases : ArgMatches → Type 0
LacksCases arguments = (s : Settings) → GivesCases arguments s → AreInRange s → ⊥

-- and none of trials
abbrev pub LacksTrials : ArgMatches → Type 0
LacksTrials arguments = (s : Settings) → GivesTrials arguments s → AreInRange s → ⊥

-- which trials have the cases: their numbers are from `first` on, those that fit 64 bits
abbrev pub GivesRange : ArgMatches → (first count : ℕ) → Type 0
GivesRange arguments first count =
    (trials : ℕ) × Gives arguments 64 (codes "first") first × Gives arguments 64 (codes "trials") trials
    × (count ≡ min trials (2 ^ 64 - 1 - first))

-- the options give no such numbers
abbrev pub LacksRange : ArgMatches → Type 0
LacksRange arguments =
    (first trials : ℕ) → Gives arguments 64 (codes "first") first → Gives arguments 64 (codes "trials") trials → ⊥

-- the options give the numbers of a command that needs nothing but its input
abbrev pub GivesNumbers : ArgMatches → InputCommand → Type 0
GivesNumbers arguments (Check form notices) = ⊤
GivesNumbers arguments ListCode = ⊤
GivesNumbers arguments (Convert form) = ⊤
GivesNumbers arguments (Generate form settings first count) = GivesCases arguments settings × GivesRange arguments first count
GivesNumbers arguments (Explain options has_progress_line) = ⊤
GivesNumbers arguments (Draw order item is_whole) = ⊤
