-- What is read of options is what they give.
use Rattle.std.proofs.Common.{◌≡◌, ◌∙◌, ◌<◌, ◌≤◌, ◌^◌, ℕ, List, Option, None, Some, IfNone, Result, Ok, Err, arith, refl, sym}
use Rattle.std.specs.Str.Parse.{IsNumeral, ParsesUnsigned, digits_value, without_leading_plus}
use Rattle.clap.specs.Words.{ReadsOne}
use Rattle.clap.specs.declared.parser.matches.ArgMatches.{ArgMatches}
use Rattle.pst.specs.Numbers.{Gives, GivesCases, GivesTrials, IsRead, Spells}
use Rattle.pst_trial.specs.Settings.{AreInRange}
use Rattle.pst_trial.specs.declared.plan.Settings.{Settings}

-- a number is read as its type reads the text of the option
pub is_read : {E : Type 0} (gives : List ℕ → Result ℕ E → Type 0) (bits : ℕ) (spelled : Option (List ℕ)) (result : Option ℕ)
    → ((text : List ℕ) (r : Result ℕ E) → gives text r → ParsesUnsigned bits 10 text r)
    → (spelled ≡ None → result ≡ None) → ((text : List ℕ) → spelled ≡ Some text → ReadsOne gives text result)
    → IsRead bits spelled result
is_read gives bits None None so none value = λ n s. absurd (none_is_some s.1)
  where
    none_is_some : {text : List ℕ} → None ≡ Some text → ⊥
    none_is_some e = cc
is_read gives bits None (Some n) so none value = absurd (some_is_none (none refl))
  where
    some_is_none : {n : ℕ} → Some n ≡ None → ⊥
    some_is_none e = cc
is_read gives bits (Some text) (Some n) so none value =
    let given = so text (Ok n) (value text refl) in
    (text, refl, given.0.0, given.1, rw given.1 given.0.1)
is_read gives bits (Some text) None so none value =
    let failed = value text refl in
    let is_none = so text (Err failed.0) failed.1 in
    λ n s. is_none (same_text n s)
  where
    same_text : (n : ℕ) → Spells bits (Some text) n
        → IsNumeral 10 (without_leading_plus text) × (digits_value 10 (without_leading_plus text) < 2 ^ bits)
    same_text n s =
        let same : s.0 ≡ text = cc in
        (rw same at s.2, rw same at (rw s.3 at s.4))

-- what holds of no value
pub if_none : {T : Type 0} (A : Type 0) (o : Option T) → A → IfNone o A
if_none A None a = a
if_none A (Some x) a = tt

-- an option gives one number
pub same_number : (bits : ℕ) (spelled : Option (List ℕ)) (n m : ℕ) → Spells bits spelled n → Spells bits spelled m → n ≡ m
same_number bits spelled n m a b =
    let same : a.0 ≡ b.0 = cc in
    (rw same at a.3) ∙ sym b.3

-- the options give the settings of cases once
module _ (arguments : ArgMatches) (s t : Settings) where
  pub cases_in_range : s.trials ≡ 0 → s.repeats ≡ 1 → s.limit ≡ 0 → GivesCases arguments s → GivesCases arguments t → AreInRange t
      → AreInRange s
  cases_in_range trials repeats limit a b r =
      let commands = same_number 32 _ s.commands t.commands a.commands b.commands in
      let branches = same_number 32 _ s.branches t.branches a.branches b.branches in
      let suffix = same_number 32 _ s.suffix t.suffix a.suffix b.suffix in
      record {
        trials = rw trials (omega arith);
        some_commands = rw commands r.some_commands;
        commands = rw commands r.commands;
        some_branches = rw branches r.some_branches;
        branches = rw branches r.branches;
        suffix = rw suffix r.suffix;
        some_repeats = rw repeats (omega arith);
        repeats = rw repeats (omega arith);
        limit = rw limit (omega arith);
      }

  pub trials_in_range : GivesTrials arguments s → GivesTrials arguments t → AreInRange t → AreInRange s
  trials_in_range a b r =
      let trials = same_number 32 _ s.trials t.trials a.trials b.trials in
      let commands = same_number 32 _ s.commands t.commands a.cases.commands b.cases.commands in
      let branches = same_number 32 _ s.branches t.branches a.cases.branches b.cases.branches in
      let suffix = same_number 32 _ s.suffix t.suffix a.cases.suffix b.cases.suffix in
      let repeats = same_number 32 _ s.repeats t.repeats a.repeats b.repeats in
      let limit = same_number 32 _ s.limit t.limit a.limit b.limit in
      record {
        trials = rw trials r.trials;
        some_commands = rw commands r.some_commands;
        commands = rw commands r.commands;
        some_branches = rw branches r.some_branches;
        branches = rw branches r.branches;
        suffix = rw suffix r.suffix;
        some_repeats = rw repeats r.some_repeats;
        repeats = rw repeats r.repeats;
        limit = rw limit r.limit;
      }
