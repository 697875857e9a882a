-- The rule of the table: its word counts the claims, and slot k is for the number k.
use Rattle.std.specs.Prelude.{◌≡◌, ℕ, ◌+◌, ◌-◌, ◌^◌, ◌<◌, ◌≤◌, ⊤, List, [], ◌∷◌, ◌++◌, length, slice_index}
use Rattle.atomic_table.specs.Table.{State, Me, Step}
use Rattle.pst_ledger.specs.declared.entry.Entry.{Entry}
use Rattle.pst_ledger.specs.declared.entry.Entry.TheVariants.{Undrawn}
use Rattle.pst_ledger.specs.declared.seat.View.{View}
use Rattle.pst_ledger.specs.Count.{times, total_of, keys}
use lib.ListN.{get_elem?}
use mathlib.Core.Option.{Option, some}

-- a view, and the slots that are out with it
abbrev pub Knows : Type 0 → Type 0
Knows R = Me (Entry R) (View R)

module _ {R : Type 0} where
  -- the view of n seats that have done nothing
  abbrev pub fresh : ℕ → View R
  fresh n = record { parts = n; marks = 0; draws = []; ends = [] }

  abbrev pub one_less : View R → View R
  one_less v = record { parts = v.parts - 1; marks = v.marks; draws = v.draws; ends = v.ends }

  abbrev pub one_part : View R → View R
  one_part v = fresh 1

  -- two views as one, the second's draws and ends first
  abbrev pub together : View R → View R → View R
  together v w = record {
    parts = w.parts + v.parts;
    marks = w.marks + v.marks;
    draws = w.draws ++ v.draws;
    ends = w.ends ++ v.ends;
  }

  -- each end is at home in its slot
  abbrev pub AtHome : List (Option (Entry R)) → List (ℕ × Entry R) → Type 0
  AtHome homes [] = ⊤
  AtHome homes (x ∷ xs) = (get_elem? homes x.0 ≡ some (some x.1)) × AtHome homes xs

  -- what holds of one view: a view of no parts is empty, it ended only what it drew, and its ends are at home
  pub record Fits (homes : List (Option (Entry R))) (v : View R) : Type 0 where
    pub marked : v.marks ≤ v.parts
    pub idle : v.parts ≡ 0 → (v.draws ≡ []) × (v.ends ≡ [])
    pub own : (x : ℕ) → times x (keys v.ends) ≤ times x v.draws
    pub home : AtHome homes v.ends

  -- What always holds of the word, the slots and all views. The parts are the seats. The word is at most the
  -- slots and the marks together, and past the slots where there is a mark. The views together drew each
  -- number below the word that has a slot once, and no other; from the word on, slots are at home and
  -- Undrawn.
  pub record Kept (seats : ℕ) (s : State (Entry R) (View R)) : Type 0 where
    pub one_word : length s.words ≡ 1
    pub few : length s.homes + seats < 2 ^ 63
    pub parts : total_of (λ (v : View R). v.parts) s.views ≡ seats
    pub reached : slice_index s.words 0 ≤ length s.homes + total_of (λ (v : View R). v.marks) s.views
    pub past : 0 < total_of (λ (v : View R). v.marks) s.views → length s.homes < slice_index s.words 0
    pub once : (x : ℕ) → x < slice_index s.words 0 → x < length s.homes
        → total_of (λ (v : View R). times x v.draws) s.views ≡ 1
    pub not_yet : (x : ℕ) → slice_index s.words 0 ≤ x → total_of (λ (v : View R). times x v.draws) s.views ≡ 0
    pub not_out : (x : ℕ) → length s.homes ≤ x → total_of (λ (v : View R). times x v.draws) s.views ≡ 0
    pub fits : (j : ℕ) (v : View R) → get_elem? s.views j ≡ some v → Fits s.homes v
    pub free : (k : ℕ) → slice_index s.words 0 ≤ k → k < length s.homes
        → get_elem? s.homes k ≡ some (some Undrawn)

  -- ---- what a step does to the view that makes it

  abbrev pub with_draw : View R → ℕ → View R
  with_draw v k = record { parts = v.parts; marks = v.marks; draws = v.draws ++ k ∷ []; ends = v.ends }

  abbrev pub with_mark : View R → View R
  with_mark v = record { parts = v.parts; marks = v.marks + 1; draws = v.draws; ends = v.ends }

  abbrev pub with_end : View R → ℕ → Entry R → View R
  with_end v k e = record { parts = v.parts; marks = v.marks; draws = v.draws; ends = v.ends ++ (k, e) ∷ [] }

  -- a claim: a number that has a slot is drawn, above all that the view drew before, and its slot is taken
  -- out; with no slot for it the view is marked
  abbrev pub drew : Step (Entry R) → Knows R → ℕ → Knows R → Type 0
  drew st m r m' =
      (r < st.slots
      → (m'.0 ≡ with_draw m.0 r) × (m'.1 ≡ (r, Undrawn) ∷ m.1)
      × ((x : ℕ) → 0 < times x m.0.draws → x < r))
      × (st.slots ≤ r → (m'.0 ≡ with_mark m.0) × (m'.1 ≡ m.1))

  -- an end: the one slot that is out goes home with what it holds
  abbrev pub finished : Step (Entry R) → Knows R → ℕ → Knows R → Type 0
  finished st m r m' = (k : ℕ) (e : Entry R) → m.1 ≡ (k, e) ∷ [] → (m'.0 ≡ with_end m.0 k e) × (m'.1 ≡ [])

  -- a view of no parts comes in
  abbrev pub entered : Step (Entry R) → Knows R → ℕ → Knows R → Type 0
  entered st m r m' = m'.0 ≡ fresh 0
