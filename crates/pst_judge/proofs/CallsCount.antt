-- How many calls a history has in which some have an unknown outcome.
use Rattle.std.proofs.Common.{◌≡◌, ℕ, zero, suc, ◌+◌, ◌-◌, ◌<◌, ◌≤◌, ◌^◌, Bool, List, [], ◌∷◌, ◌++◌, length, map, replicate, sum, Option, ap, ◌∙◌, arith, length-append}
use Rattle.std.proofs.lemmas.List.{map-append}
use Rattle.std.proofs.lemmas.List.Sums.{sum_by-append, sum_by-cons}
use Rattle.pst_case.specs.Recorded.{recorded}
use Rattle.pst_case.specs.Shape.{IsShaped, before_suffix, joined}
use Rattle.pst_case.specs.declared.case.Case.{Case}
use Rattle.pst_case.specs.declared.case.Command.{Command}
use Rattle.pst_case.specs.declared.history.History.{History}
use Rattle.pst_case.specs.declared.history.Reply.{Reply}
use Rattle.pst_case.specs.declared.history.Reply.TheVariants.{Value as Answered, Misfit, Failed, NotRun, Unknown}
use Rattle.pst_eval.specs.declared.callbacks.FaultPlace.{FaultPlace}
use Rattle.pst_grid.specs.Answers.{IsAnswerAmong}
use Rattle.pst_grid.specs.Merges.{nothing_follows}
use Rattle.pst_grid.specs.Orders.{IsMergeInOrder}
use Rattle.pst_grid.specs.declared.steps.Ending.TheVariants.{StopsAt}
use Rattle.pst_grid.specs.declared.steps.SomeAnswer.{SomeAnswer}
use Rattle.pst_grid.specs.declared.steps.SomeAnswer.TheVariants.{Found, Faulted as FaultedWord, Nothing}
use Rattle.pst_grid.specs.declared.steps.StepOutcome.{StepOutcome}
use Rattle.pst_grid.specs.declared.steps.StopReason.{StopReason}
use Rattle.pst_judge.proofs.Fitted.{branches_within, prefix_within, suffix_within}
use Rattle.pst_judge.proofs.Furthest.{far_within}
use Rattle.pst_judge.specs.FromAnswer.{OnNothing}
use Rattle.pst_judge.specs.UnknownCalls.{branch_calls, column_lengths, known_events, known_prefix, unknown_events}
use Rattle.pst_judge.specs.declared.events.Event.{Event}
use Rattle.pst_model.specs.declared.model.Source.{Source}
use Rattle.pst_value.specs.declared.value.Value.{Value}

module _ (results : List (Option Value)) where
  -- each command of a part has one call at most
  pub part_within : (number : ℕ) (cs : List Command) (rs : List Reply) → length (known_events results number cs rs) + length (unknown_events results number cs rs) ≤ length cs
  part_within number [] rs = omega arith
  part_within number (c ∷ cs) [] = omega arith
  part_within number (c ∷ cs) (r ∷ rs) = by r (part_within (number + 1) cs rs)
    where
      by : (r : Reply) → length (known_events results (number + 1) cs rs) + length (unknown_events results (number + 1) cs rs) ≤ length cs
          → length (known_events results number (c ∷ cs) (r ∷ rs)) + length (unknown_events results number (c ∷ cs) (r ∷ rs)) ≤ suc (length cs)
      by (Answered v) h = omega arith
      by Misfit h = omega arith
      by Failed h = omega arith
      by NotRun h = omega arith
      by Unknown h = omega arith

  branches_sum : (number : ℕ) (bs : List (List Command)) (rs : List (List Reply)) → sum (map length (branch_calls results number bs rs)) ≤ length (joined bs)
  branches_sum number [] rs = omega arith
  branches_sum number (b ∷ bs) [] = omega arith
  branches_sum number (b ∷ bs) (r ∷ rs) =
      let known = known_events results number b r in
      let unknown = unknown_events results number b r in
      let rest = map length (branch_calls results (number + length b) bs rs) in
      let h = branches_sum (number + length b) bs rs in
      let p = part_within number b r in
      let a = length-append known unknown in
      let j = length-append b (joined bs) in
      let s = sum_by-cons (λ n. n) (length (known ++ unknown)) rest in
      omega (arith, h, p, a, j, s)

abbrev no_calls : ℕ → List (List Event)
no_calls n = replicate n []

none_sum : (n : ℕ) → sum (map length (no_calls n)) ≡ 0
none_sum zero = omega arith
none_sum (suc n) = let r = none_sum n in let s = sum_by-cons (λ k. k) 0 (map length (no_calls n)) in omega (arith, r, s)

two_sum : (a b : ℕ) → sum (a ∷ b ∷ []) ≡ a + b
two_sum a b = let s = sum_by-cons (λ k. k) a (b ∷ []) in let t = sum_by-cons (λ k. k) b [] in omega (arith, s, t)

module _ (m : Source) (c : Case) (h : History) (shaped : IsShaped m c) where
  pub known_prefix_within : length (known_prefix c h) ≤ 64
  known_prefix_within =
      let p = part_within (recorded h) 1 c.prefix h.prefix in
      let q = prefix_within m c shaped in
      omega (arith, p, q)

  pub columns_within : sum (column_lengths c h) ≤ 88
  columns_within =
      let calls = branch_calls (recorded h) (1 + length c.prefix) c.branches h.branches in
      let empty = no_calls (4 - length calls) in
      let unknown = unknown_events (recorded h) 1 c.prefix h.prefix in
      let known = known_events (recorded h) (1 + before_suffix c) c.suffix h.suffix in
      let last : List (List Event) = unknown ∷ known ∷ [] in
      let parts : column_lengths c h ≡ (map length calls ++ map length empty) ++ map length last =
      map-append length (calls ++ empty) last ∙ ap (λ ns. ns ++ map length last) (map-append length calls empty) in
      let whole = ap sum parts in
      let s = sum_by-append (λ n. n) (map length calls ++ map length empty) (map length last) in
      let t = sum_by-append (λ n. n) (map length calls) (map length empty) in
      let z = none_sum (4 - length calls) in
      let w = two_sum (length unknown) (length known) in
      let b = branches_sum (recorded h) (1 + length c.prefix) c.branches h.branches in
      let u = part_within (recorded h) 1 c.prefix h.prefix in
      let k = part_within (recorded h) (1 + before_suffix c) c.suffix h.suffix in
      let p = prefix_within m c shaped in
      let q = branches_within m c shaped in
      let r = suffix_within m c shaped in
      omega (arith, whole, s, t, z, w, b, u, k, p, q, r)

-- ---- what a search counts

nothing_within : {S : Type 0} (s : S) (n : ℕ) (why : StopReason FaultPlace) → nothing_follows s ≡ StopsAt n why → n ≤ 0
nothing_within s n why h = absurd (cc)

-- so few that they can be counted with those of the prefix
pub calls_count : {S : Type 0} (turn : S → ℕ → ℕ → StepOutcome S FaultPlace) (order : List ℕ → ℕ → Bool) (lengths : List ℕ) (s : S) (prefix : ℕ) (a : SomeAnswer FaultPlace)
    → IsAnswerAmong turn nothing_follows lengths s (IsMergeInOrder order lengths) a → prefix ≤ 64 → sum lengths ≤ 88 → OnNothing a (λ far. prefix + far < 2 ^ 64)
calls_count turn order lengths s prefix (Found word) k p l = tt
calls_count turn order lengths s prefix (FaultedWord word at place) k p l = tt
calls_count turn order lengths s prefix (Nothing far word) k p l = let h = far_within turn nothing_follows 0 nothing_within order lengths s far word k in omega (arith, h, p, l)
