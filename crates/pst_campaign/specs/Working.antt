-- What workers add to their seats, and what a campaign shows.
use Rattle.std.specs.Prelude.{◌≡◌, ◌⊎◌, ℕ, ◌<◌, ◌≤◌, ◌++◌, List, Option, Some, All, slice_get}
use Rattle.pst_campaign.specs.declared.campaigns.CampaignFault.{CampaignFault}
use Rattle.pst_campaign.specs.declared.campaigns.CampaignFault.TheVariants.{NoSystem, TooMany, NoMemory}
use Rattle.pst_ledger.specs.declared.entry.Entry.{Entry}
use Rattle.pst_ledger.specs.declared.entry.Entry.TheVariants.{Undrawn}

-- the ends after are those before and more, each of which may be given for its number
abbrev pub Adds : {R : Type 0} → (ℕ → Entry R → Type 0) → List (ℕ × Entry R) → List (ℕ × Entry R) → Type 0
Adds {R} may_give before after =
    (added : List (ℕ × Entry R)) × (after ≡ before ++ added) × All (λ x. may_give x.0 x.1) added

-- each number shows an entry that one of the systems may give for it
abbrev pub AllGiven : {R S : Type 0} → (S → ℕ → Entry R → Type 0) → List S → List (Entry R) → Type 0
AllGiven {R} {S} may_give systems entries =
    (k : ℕ) (e : Entry R) → slice_get entries k ≡ Some e
    → (i : ℕ) × (s : S) × (slice_get systems i ≡ Some s) × may_give s k e

-- each number shows an entry that one of the systems may give for it, or is undrawn if the campaign may end early
abbrev pub AllGivenUnless : {R S : Type 0} → Type 0 → (S → ℕ → Entry R → Type 0) → List S → List (Entry R) → Type 0
AllGivenUnless {R} {S} may_end may_give systems entries =
    (k : ℕ) (e : Entry R) → slice_get entries k ≡ Some e
    → (may_end × (e ≡ Undrawn)) ⊎ ((i : ℕ) × (s : S) × (slice_get systems i ≡ Some s) × may_give s k e)

-- whether a campaign may have this number of systems
abbrev pub HasWorkers : ℕ → Type 0
HasWorkers n = (0 < n) × (n ≤ 16)

-- when a campaign may be refused, by the number of its systems
abbrev pub IsCampaignFault : ℕ → CampaignFault → Type 0
IsCampaignFault n NoSystem = n ≡ 0
IsCampaignFault n TooMany = 16 < n
IsCampaignFault n NoMemory = HasWorkers n
