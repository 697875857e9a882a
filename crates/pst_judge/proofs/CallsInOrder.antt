-- The order of the calls of a history in which some have an unknown outcome never blocks, where no command is broken.
use Rattle.std.proofs.Common.{◌≡◌, ◌&&◌, ◌||◌, not, ℕ, zero, suc, ◌+◌, ◌-◌, ◌<◌, ◌≤◌, ◌⊎◌, inl, inr, ◌==◌, nat_le, Bool, true, false, if◌then◌else◌, List, [], ◌∷◌, ◌++◌, length, map, take, replicate, slice_get, slice_index, Option, Some, None, refl, sym, ap, ◌∙◌, subst, arith, append_assoc, length-append, leb-false, ne_eqb}
use Rattle.std.proofs.lemmas.Bool.{cases_eq}
use Rattle.std.proofs.lemmas.List.{length-map, map-append}
use Rattle.pst_case.specs.Matches.{branches_match, matches, part_matches, reply_fits}
use Rattle.pst_case.specs.Recorded.{recorded}
use Rattle.pst_case.specs.Shape.{IsShaped, before_suffix}
use Rattle.pst_case.specs.Times.{called, fit}
use Rattle.pst_case.specs.Unknown.{all_open, is_unknown, times_for, times_of_calls}
use Rattle.pst_case.specs.declared.case.Case.{Case}
use Rattle.pst_case.specs.declared.case.Command.{Command}
use Rattle.pst_case.specs.declared.history.CallTime.{CallTime}
use Rattle.pst_case.specs.declared.history.History.{History}
use Rattle.pst_case.specs.declared.history.Reply.{Reply}
use Rattle.pst_case.specs.declared.history.Reply.TheVariants.{Value as Answered, Misfit, Failed, NotRun, Unknown}
use Rattle.pst_grid.specs.Completions.{IsAt}
use Rattle.pst_grid.specs.Orders.{IsOpen, NeverBlocks, any_order}
use Rattle.pst_judge.proofs.ByOrder.{all_timely, none_left, parts, some_left}
use Rattle.pst_judge.proofs.Fitted.{branches_few, parts_match}
use Rattle.pst_judge.proofs.KnownCounts.{counts_within, same_columns}
use Rattle.pst_judge.proofs.NoFault.{if_none, or_else_none}
use Rattle.pst_judge.proofs.Timely.{AreLengthsOfFirst, open_one}
use Rattle.pst_judge.specs.ByOrder.{calls_order_by, order_of}
use Rattle.pst_judge.specs.RealTime.{AreTimely, real_time}
use Rattle.pst_judge.specs.Unknown.{are_reached, calls_order, suffix_last}
use Rattle.pst_judge.specs.UnknownCalls.{branch_calls, branches_broken, broken_command, column_lengths, columns, has_unknown_outcome, is_broken, known_count, known_counts, known_events, part_broken, to_four, unknown_events}
use Rattle.pst_judge.specs.declared.by_order.CallOrder.{CallOrder}
use Rattle.pst_judge.specs.declared.by_order.CallOrder.TheVariants.{Any, Time}
use Rattle.pst_judge.specs.declared.events.Event.{Event}
use Rattle.pst_model.specs.declared.model.Source.{Source}
use Rattle.pst_value.proofs.ItemsExact.{both_first, both_second}
use Rattle.pst_value.specs.declared.value.Value.{Value}

-- ---- an order that goes on, and the suffix last

-- wherever calls are left in a column, a branch's is open, or this one's
abbrev pub GoesOn : (List ℕ → ℕ → Bool) → List ℕ → Type 0
GoesOn order lengths =
    (done : List ℕ) → IsAt lengths done → (b : ℕ) → slice_index done b < slice_index lengths b → (c : ℕ) × IsOpen order lengths done c × ((c < 4) ⊎ (c ≡ b))

or_true : (b : Bool) → (b || true) ≡ true
or_true true = refl
or_true false = refl

-- counts that are not reached
unreached : (ns done : List ℕ) → length ns ≤ length done → are_reached ns done ≡ false → (k : ℕ) × (slice_index done k < slice_index ns k)
unreached [] done l h = absurd (cc)
unreached (n ∷ ns) [] l h = absurd (omega arith)
unreached (n ∷ ns) (d ∷ done) l h = by (λ e. unreached ns done (omega arith) e) (nat_le n d) refl h
  where
    by : (are_reached ns done ≡ false → (k : ℕ) × (slice_index done k < slice_index ns k)) → (b : Bool) → nat_le n d ≡ b → (b && are_reached ns done) ≡ false → (k : ℕ) × (slice_index (d ∷ done) k < slice_index (n ∷ ns) k)
    by again true e k = let r = again k in (suc r.0, r.1)
    by again false e k = (0, leb-false n d e)

take_short : (n : ℕ) (xs : List ℕ) → length (take n xs) ≤ length xs
take_short zero xs = omega arith
take_short (suc n) [] = omega arith
take_short (suc n) (x ∷ xs) = let r = take_short n xs in omega (arith, r)

in_first : (n k : ℕ) (xs : List ℕ) (d : ℕ) → d < slice_index (take n xs) k → (k < n) × (slice_index (take n xs) k ≡ slice_index xs k)
in_first zero k xs d h = absurd (omega arith)
in_first (suc n) k [] d h = absurd (omega arith)
in_first (suc n) zero (x ∷ xs) d h = (omega arith, refl)
in_first (suc n) (suc k) (x ∷ xs) d h = let r = in_first n k xs d h in let l = r.0 in (omega (arith, l), r.1)

module _ (order : List ℕ → ℕ → Bool) (knowns lengths : List ℕ) (few : (b : ℕ) → slice_index knowns b ≤ slice_index lengths b) (same : length knowns ≡ length lengths) (goes : GoesOn order lengths) where
  in_order : (done : List ℕ) (c : ℕ) → order done c ≡ true → (c ≡ 5 → ⊥) ⊎ (are_reached (take 4 knowns) done ≡ true) → suffix_last knowns order done c ≡ true
  in_order done c o (inl other) =
      ap (λ b. b && (not (c == 5) || are_reached (take 4 knowns) done)) o ∙ ap (λ b. not b || are_reached (take 4 knowns) done) (ne_eqb c 5 other)
  in_order done c o (inr reached) =
      ap (λ b. b && (not (c == 5) || are_reached (take 4 knowns) done)) o ∙ ap (λ b. not (c == 5) || b) reached ∙ or_true (not (c == 5))

  not_suffix : (b c : ℕ) → (b ≡ 5 → ⊥) → (c < 4) ⊎ (c ≡ b) → c ≡ 5 → ⊥
  not_suffix b c other (inl l) e = omega arith
  not_suffix b c other (inr q) e = other (sym q ∙ e)

  at_other : (done : List ℕ) → IsAt lengths done → (b : ℕ) → (b ≡ 5 → ⊥) → slice_index done b < slice_index lengths b → (c : ℕ) × IsOpen (suffix_last knowns order) lengths done c
  at_other done at b other left = let g = goes done at b left in (g.0, (g.1.0, in_order done g.0 g.1.1 (inl (not_suffix b g.0 other g.2))))

  at_suffix : (done : List ℕ) → IsAt lengths done → slice_index done 5 < slice_index lengths 5 → (c : ℕ) × IsOpen (suffix_last knowns order) lengths done c
  at_suffix done at left = by (are_reached (take 4 knowns) done) refl
    where
      by : (b : Bool) → are_reached (take 4 knowns) done ≡ b → (c : ℕ) × IsOpen (suffix_last knowns order) lengths done c
      by true e = let g = goes done at 5 left in (g.0, (g.1.0, in_order done g.0 g.1.1 (inr e)))
      by false e =
          let n = at.branches in
          let t = take_short 4 knowns in
          let u = unreached (take 4 knowns) done (omega (arith, n, t, same)) e in
          let f = in_first 4 u.0 knowns (slice_index done u.0) u.1 in
          let k = f.0 in
          let q = f.1 in
          let l = few u.0 in
          let more = u.1 in
          at_other done at u.0 (λ (z : u.0 ≡ 5). omega (arith, k, z)) (omega (arith, more, q, l))

  pub suffix_last_never_blocks : NeverBlocks (suffix_last knowns order) lengths
  suffix_last_never_blocks done at b left = by (cases_eq b 5)
    where
      by : (b ≡ 5) ⊎ (b ≡ 5 → ⊥) → (c : ℕ) × IsOpen (suffix_last knowns order) lengths done c
      by (inl e) = at_suffix done at (subst (λ (k : ℕ). slice_index done k < slice_index lengths k) e left)
      by (inr other) = at_other done at b other left

-- ---- the orders

any_goes_on : (lengths : List ℕ) → GoesOn any_order lengths
any_goes_on lengths done at b left = (b, (left, refl), inr refl)

time_goes_on : (times : List (List CallTime)) (lengths : List ℕ) → AreLengthsOfFirst times lengths → AreTimely times → length times ≤ 4 → GoesOn (real_time times) lengths
time_goes_on times lengths are timely few done at b left =
    let g = open_one times lengths are timely done at b left in
    (g.0, g.1, elim (g.2) [ inl k ↦ inl (omega (arith, k, few)) | inr q ↦ inr q ])

-- ---- the lengths of the columns

module _ (m : Source) (results : List (Option Value)) where
  part_count : (number : ℕ) (ended : Bool) (cs : List Command) (rs : List Reply) → part_matches m cs rs ≡ true → part_broken m results number ended cs rs ≡ None
      → length (known_events results number cs rs) + length (unknown_events results number cs rs) ≡ called rs
  part_count number ended [] [] h k = refl
  part_count number ended [] (r ∷ rs) h k = absurd (cc)
  part_count number ended (c ∷ cs) [] h k = absurd (cc)
  part_count number ended (c ∷ cs) (r ∷ rs) h k =
      let p = if_none (is_broken m results ended c r) number (part_broken m results (number + 1) (ended || is_unknown r) cs rs) k in
      by r p.0 (part_count (number + 1) (ended || is_unknown r) cs rs (both_second (reply_fits m c r) _ h) p.1)
    where
      by : (r : Reply) → is_broken m results ended c r ≡ false → length (known_events results (number + 1) cs rs) + length (unknown_events results (number + 1) cs rs) ≡ called rs
          → length (known_events results number (c ∷ cs) (r ∷ rs)) + length (unknown_events results number (c ∷ cs) (r ∷ rs)) ≡ called (r ∷ rs)
      by (Answered v) b e = omega arith
      by Misfit b e = absurd (cc)
      by Failed b e = absurd (cc)
      by NotRun b e = omega arith
      by Unknown b e = omega arith

  branches_count : (number : ℕ) (bs : List (List Command)) (rs : List (List Reply)) → branches_match m bs rs ≡ true → branches_broken m results number bs rs ≡ None
      → map length (branch_calls results number bs rs) ≡ map called rs
  branches_count number [] [] h k = refl
  branches_count number [] (r ∷ rs) h k = absurd (cc)
  branches_count number (b ∷ bs) [] h k = absurd (cc)
  branches_count number (b ∷ bs) (r ∷ rs) h k =
      let p = or_else_none (part_broken m results number false b r) (branches_broken m results (number + length b) bs rs) k in
      let one : length (known_events results number b r ++ unknown_events results number b r) ≡ called r =
      length-append (known_events results number b r) (unknown_events results number b r) ∙ part_count number false b r (both_first (part_matches m b r) _ h) p.0 in
      let rest : map length (branch_calls results (number + length b) bs rs) ≡ map called rs = branches_count (number + length b) bs rs (both_second (part_matches m b r) _ h) p.1 in
      λ i. one i ∷ rest i

as_many : (m : Source) (bs : List (List Command)) (rs : List (List Reply)) → branches_match m bs rs ≡ true → length rs ≡ length bs
as_many m [] [] h = refl
as_many m [] (r ∷ rs) h = absurd (cc)
as_many m (b ∷ bs) [] h = absurd (cc)
as_many m (b ∷ bs) (r ∷ rs) h = ap suc (as_many m bs rs (both_second (part_matches m b r) _ h))

-- the times of the first columns
times_of_first : (ns more : List ℕ) (times : List (List CallTime)) → fit ns times ≡ true → AreLengthsOfFirst times (ns ++ more)
times_of_first ns more [] h b v e = absurd (cc)
times_of_first [] more (calls ∷ times) h b v e = absurd (none_left calls times h)
times_of_first (n ∷ ns) more (calls ∷ times) h zero v e = let q : calls ≡ v = cc in sym (parts n ns calls times h).0 ∙ ap length q
times_of_first (n ∷ ns) more (calls ∷ times) h (suc b) v e = times_of_first ns more times (parts n ns calls times h).2 b v e

times_count : (ns : List ℕ) (times : List (List CallTime)) → fit ns times ≡ true → length times ≡ length ns
times_count [] [] h = refl
times_count [] (calls ∷ times) h = absurd (none_left calls times h)
times_count (n ∷ ns) [] h = absurd (some_left n ns h)
times_count (n ∷ ns) (calls ∷ times) h = ap suc (times_count ns times (parts n ns calls times h).2)

-- times that are there fit
times_fit : (branches : List (List Reply)) (given : Option (List (List CallTime))) (times : List (List CallTime)) → times_for branches given ≡ Some times → fit (map called branches) times ≡ true
times_fit branches None times e = absurd (cc)
times_fit branches (Some all) times e = by (fit (map called branches) all) refl e
  where
    by : (b : Bool) → fit (map called branches) all ≡ b → (if b && all_open branches all then Some all else None) ≡ Some times → fit (map called branches) times ≡ true
    by true f k = with_open (all_open branches all) k
      where
        with_open : (b : Bool) → (if b then Some all else None) ≡ Some times → fit (map called branches) times ≡ true
        with_open true k = let q : all ≡ times = cc in subst (λ ts. fit (map called branches) ts ≡ true) q f
        with_open false k = absurd (cc)
    by false f k = absurd (cc)

-- ---- the calls of a history

module _ (m : Source) (c : Case) (h : History) (shaped : IsShaped m c) (match : matches m c h ≡ true) (whole : broken_command m c h ≡ None) where
  abbrev calls : List (List Event)
  calls = branch_calls (recorded h) (1 + length c.prefix) c.branches h.branches

  abbrev last : List (List Event)
  last = unknown_events (recorded h) 1 c.prefix h.prefix ∷ known_events (recorded h) (1 + before_suffix c) c.suffix h.suffix ∷ []

  abbrev empty : List (List Event)
  empty = replicate (4 - length calls) []

  unbroken : branches_broken m (recorded h) (1 + length c.prefix) c.branches h.branches ≡ None
  unbroken =
      let p = or_else_none (part_broken m (recorded h) 1 false c.prefix h.prefix) _ whole in
      (or_else_none (branches_broken m (recorded h) (1 + length c.prefix) c.branches h.branches) _ p.1).0

  lengths_are : column_lengths c h ≡ map called h.branches ++ (map length empty ++ map length last)
  lengths_are =
      map-append length (calls ++ empty) last ∙ ap (λ ns. ns ++ map length last) (map-append length calls empty)
      ∙ append_assoc (map length calls) (map length empty) (map length last)
      ∙ ap (λ ns. ns ++ (map length empty ++ map length last)) (branches_count m (recorded h) (1 + length c.prefix) c.branches h.branches (parts_match m c h match).1 unbroken)

  few_times : (times : List (List CallTime)) → fit (map called h.branches) times ≡ true → length times ≤ 4
  few_times times f =
      let t = times_count (map called h.branches) times f in
      let l = length-map h.branches called in
      let a = as_many m c.branches h.branches (parts_match m c h match).1 in
      let n = branches_few m c shaped in
      omega (arith, t, l, a, n)

  goes_on : (o : Option (List (List CallTime))) → times_of_calls h ≡ o → GoesOn (order_of o) (column_lengths c h)
  goes_on None e = any_goes_on (column_lengths c h)
  goes_on (Some times) e =
      let f = times_fit h.branches h.times times e in
      let are : AreLengthsOfFirst times (column_lengths c h) =
      subst (λ ns. AreLengthsOfFirst times ns) (sym lengths_are) (times_of_first (map called h.branches) (map length empty ++ map length last) times f) in
      time_goes_on times (column_lengths c h) are (all_timely (map called h.branches) times f) (few_times times f)

  by_order : (order : CallOrder) → GoesOn (calls_order_by order h) (column_lengths c h)
  by_order Any = any_goes_on (column_lengths c h)
  by_order Time = goes_on (times_of_calls h) refl

  pub calls_never_block : (order : CallOrder) → NeverBlocks (calls_order (calls_order_by order h) c h) (column_lengths c h)
  calls_never_block order = suffix_last_never_blocks (calls_order_by order h) (known_counts c h) (column_lengths c h) (counts_within (columns c h)) (same_columns (columns c h)) (by_order order)
