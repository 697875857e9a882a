-- What a search for a type, or a test of one, answers unless memory is refused.
use Rattle.std.specs.Prelude.{◌≡◌, Bool, true, false, Option, Some, None, Result, Ok, Err, ⊤}
use Rattle.pst_typing.specs.declared.blame.Refusal.{Refusal}
use Rattle.pst_typing.specs.declared.blame.Refusal.TheVariants.{Ill, NoMemory}

abbrev pub FindsNone : {A : Type 0} → Option A → Refusal → Type 0
FindsNone o Ill = o ≡ None
FindsNone o NoMemory = ⊤

-- the answer is what is to be found, and Ill where there is none
abbrev pub Answers : {A : Type 0} → Option A → Result A Refusal → Type 0
Answers o (Ok a) = o ≡ Some a
Answers o (Err why) = FindsNone o why

abbrev pub IsFailed : Bool → Refusal → Type 0
IsFailed b Ill = b ≡ false
IsFailed b NoMemory = ⊤

-- the answer is Ok where the test is passed, and Ill where it is not
abbrev pub Passes : Bool → Result (Unit {0}) Refusal → Type 0
Passes b (Ok _) = b ≡ true
Passes b (Err why) = IsFailed b why
