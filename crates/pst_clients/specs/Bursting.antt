-- Bursts: what a client's line says of many drives, and how the lines of all clients make drives.
use Rattle.std.specs.Prelude.{◌≡◌, ℕ, suc, ◌<◌, ◌==◌, cond, All, List, [], ◌∷◌, ◌++◌, length, map, Some, Ok, Contains, slice_get, codes, decimal}
use Rattle.std.specs.List.{AllZip}
use Rattle.std.specs.Option.{unwrap_or}
use Rattle.std.specs.Str.Parse.{ParsesUnsigned}
use Rattle.json.specs.Find.{as_number}
use Rattle.json.specs.Json.{Json, null, boolean, number, string, array, object, item, no_items, document}
use Rattle.json.specs.Value.{items_of}
use Rattle.pst_clients.specs.Answering.{Spells}
use Rattle.pst_clients.specs.Calling.{call_json}
use Rattle.pst_clients.specs.Losing.{IsTextLoss}
use Rattle.pst_clients.specs.declared.burst.BurstAnswer.{BurstAnswer}
use Rattle.pst_system.specs.Bursts.{MayEnd}
use Rattle.pst_system.specs.declared.burst.BurstCase.{BurstCase}
use Rattle.pst_system.specs.declared.burst.BurstDrive.{BurstDrive}
use Rattle.pst_system.specs.declared.burst.MadeCall.{MadeCall}
use Rattle.pst_system.specs.declared.system.RealCall.{RealCall}
use Rattle.pst_value.specs.declared.ty.Ty.{Ty}

-- ---- the texts that a client says

-- the text is among the answers of a list in a line that answers a burst
pub record IsBurstText (line text : List ℕ) : Type 0 where
  pub parts : List Json
  pub answers : List Json
  pub spelled : document line ≡ Some (array (items_of parts))
  pub list : Contains parts (array (items_of answers))
  pub among : Contains answers (string text)

-- a text that a client says: a line of it, or a text in such a line, which answers a burst
pub data IsSaid (may_give : List ℕ → Type 0) (text : List ℕ) : Type 0 where
  line : may_give text → IsSaid may_give text
  burst : ((line : List ℕ) × may_give line × IsBurstText line text) → IsSaid may_give text

-- ---- the line of a client

-- the calls of a branch, none if the case has no such branch
abbrev pub branch_of : BurstCase → ℕ → List RealCall
branch_of c k = unwrap_or (slice_get c.branches k) []

-- the calls that the first client alone makes
abbrev pub of_first : ℕ → List RealCall → List RealCall
of_first k calls = cond (k == 0) calls []

-- the calls that the client of a branch makes in each drive
abbrev pub calls_of : BurstCase → ℕ → List RealCall
calls_of c k = of_first k c.prefix ++ branch_of c k ++ of_first k c.suffix

abbrev pub calls_json : List RealCall → Json
calls_json calls = array (items_of (map call_json calls))

-- the array that asks the client of a branch for a burst: its number, how many drives, and the calls in three parts
abbrev pub burst_json : ℕ → ℕ → BurstCase → ℕ → Json
burst_json n drives c k = array (item (string (codes "burst")) (item (number (decimal n)) (item (number (decimal drives))
    (item (calls_json (of_first k c.prefix)) (item (calls_json (branch_of c k))
    (item (calls_json (of_first k c.suffix)) no_items))))))

-- the place that a number of a line spells
abbrev pub IsPlace : Json → ℕ → Type 0
IsPlace j place = (digits : List ℕ) × (as_number j ≡ Some digits) × ParsesUnsigned {E = List ℕ} 64 10 digits (Ok place)

-- a call ended as a text tells
abbrev pub Tells : List Ty → List ℕ → MadeCall → Type 0
Tells results text m =
    MayEnd (λ c v. Spells (slice_get results c.op) text v) (λ c f. IsTextLoss (slice_get results c.op) text f) m.call m.end

module _ (results : List Ty) where
  -- what became of a call by the answer in its place: a text tells how it ended, and null that it was not made
  abbrev pub IsTold : RealCall → Json → List MadeCall → Type 0
  IsTold c null made = made ≡ []
  IsTold c (boolean b) made = ⊥
  IsTold c (number s) made = ⊥
  IsTold c (string text) made = (m : MadeCall) × (made ≡ m ∷ []) × (m.call ≡ c) × Tells results text m
  IsTold c (array js) made = ⊥
  IsTold c (object ms) made = ⊥

  -- the calls that were made, in their order, each by the answer in its own place
  abbrev pub AreTold : List RealCall → List Json → List MadeCall → Type 0
  AreTold [] [] made = made ≡ []
  AreTold [] (j ∷ js) made = ⊥
  AreTold (c ∷ cs) [] made = ⊥
  AreTold (c ∷ cs) (j ∷ js) made =
      (own : List MadeCall) × (more : List MadeCall) × (made ≡ own ++ more) × IsTold c j own × AreTold cs js more

  -- a list of a line has an answer for each of the calls
  abbrev pub IsTelling : List RealCall → Json → List MadeCall → Type 0
  IsTelling calls j made = (answers : List Json) × (j ≡ array (items_of answers)) × AreTold calls answers made

  -- what a line says of a client that makes these calls in each drive: the place of each drive, and then the lists
  pub record IsBurstAnswer (calls : List RealCall) (line : List ℕ) (a : BurstAnswer) : Type 0 where
    pub numbers : List Json
    pub tellings : List Json
    pub spelled : document line ≡ Some (array (item (array (items_of numbers)) (items_of tellings)))
    pub places : AllZip IsPlace numbers a.places.items
    pub lists : AllZip (IsTelling calls) tellings a.lists.items

-- ---- the lines of all clients

-- the calls of drive k, from each client those of its own answers to the drive of this number
abbrev pub AreZipped : (k : ℕ) → List BurstAnswer → List (List MadeCall) → Type 0
AreZipped k [] [] = Unit {0}
AreZipped k [] (b ∷ bs) = ⊥
AreZipped k (a ∷ rest) [] = ⊥
AreZipped k (a ∷ rest) (b ∷ bs) =
    ((place : ℕ) × (slice_get a.places.items k ≡ Some place) × (slice_get a.lists.items place ≡ Some b))
    × AreZipped k rest bs

-- each of a client's drives k and l has the same list
abbrev pub IsAlike : ℕ → ℕ → BurstAnswer → Type 0
IsAlike k l a = (place : ℕ) × (slice_get a.places.items k ≡ Some place) × (slice_get a.places.items l ≡ Some place)

-- the drives that these answers make together: each of them, and each that all clients made of the first so many
pub record AreAllDrives (answers : List BurstAnswer) (most : ℕ) (drives : List BurstDrive) : Type 0 where
  pub zipped : All (λ d. (k : ℕ) × AreZipped k answers d.branches) drives
  pub complete : (k : ℕ) (branches : List (List MadeCall)) → k < most → AreZipped k answers branches
      → (d : BurstDrive) × Contains drives d × (d.branches ≡ branches)

module _ (may_give : List ℕ → Type 0) (results : List Ty) (c : BurstCase) where
  -- the clients from a branch on, each heard by a line that it gave
  abbrev pub AreHeard : ℕ → List BurstAnswer → Type 0
  AreHeard k [] = Unit {0}
  AreHeard k (a ∷ rest) =
      ((line : List ℕ) × may_give line × IsBurstAnswer results (calls_of c k) line a) × AreHeard (suc k) rest

  -- the drives of a case, of at most so many, that so many clients told of, each by one line
  pub record AreDrives (clients most : ℕ) (drives : List BurstDrive) : Type 0 where
    pub answers : List BurstAnswer
    pub whole : length answers ≡ clients
    pub heard : AreHeard 0 answers
    pub all : AreAllDrives answers most drives
