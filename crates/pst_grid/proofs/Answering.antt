-- From what a whole search has covered to its answer.
use Rattle.std.proofs.Common.{◌≡◌, ℕ, zero, suc, inl, inr, List, [], ◌+◌, length, get_or, replicate, Bool, true, false, MatchBool, Option, Some, None, MatchOption, refl, sym, ap, subst, ◌∙◌, arith}
use Rattle.std.proofs.lemmas.List.{length-replicate}
use Rattle.std.specs.declared.vec.Vec.{Vec}
use Rattle.std.specs.declared.alloc.Global.{Global}
use Rattle.pst_grid.specs.declared.steps.StopReason.{StopReason}
use Rattle.pst_grid.specs.declared.steps.StopReason.TheVariants.{False, Fault}
use Rattle.pst_grid.specs.declared.steps.StepOutcome.{StepOutcome}
use Rattle.pst_grid.specs.declared.steps.SomeAnswer.{SomeAnswer}
use Rattle.pst_grid.specs.declared.steps.SomeAnswer.TheVariants.{Found, Faulted, Nothing}
use Rattle.pst_grid.specs.Answers.{IsEveryAnswerAmong, FailsToBeTrueAmong, IsAnswerAmong, ending, EndsAmong, FaultsAmong}
use Rattle.pst_grid.specs.Completions.{Completes, IsAt}
use Rattle.pst_grid.specs.Orders.{Extends, IsMergeInOrder, NeverBlocks}
use Rattle.pst_grid.specs.Covered.{IsFurther, IsLeastFalse, Covered, IsHeld, IsLeastSought, IsExplored, IsExploredWhole}
use Rattle.pst_grid.specs.Kept.{HasEnd, Keeps, nothing_kept, IsSought, reach}
use Rattle.pst_grid.specs.Merges.{IsUpTo, IsMerge, none_done}
use Rattle.pst_grid.specs.declared.steps.Ending.{Ending}
use Rattle.pst_grid.specs.declared.steps.Ending.TheVariants.{AllTrue, StopsAt}
use Rattle.pst_grid.specs.Remembered.{IsFoundOrCovered}
use Rattle.pst_grid.specs.declared.position.Position.{Position}
use Rattle.pst_grid.specs.declared.search.FirstFailures.{FirstFailures}
use Rattle.pst_grid.specs.declared.search.FalseInterleaving.{FalseInterleaving}
use Rattle.pst_grid.specs.declared.search.FaultedInterleaving.{FaultedInterleaving}
use Rattle.pst_grid.specs.declared.search.Goal.{Goal}
use Rattle.pst_grid.specs.declared.search.Goal.TheVariants.{ToEnd, Stopped}
use Rattle.pst_grid.specs.declared.search.SearchProgress.{SearchProgress}
use Rattle.pst_grid.specs.declared.steps.EveryAnswer.{EveryAnswer}
use Rattle.pst_grid.specs.declared.steps.EveryAnswer.TheVariants.{All, Not}
use Rattle.pst_grid.proofs.Covering.{still-fresh}
use Rattle.pst_grid.proofs.Opening.{Extends-filled, fill}

zeros : (n b : ℕ) → ◌≡◌ {A = ℕ} (get_or (replicate n 0) b 0) 0
zeros zero b = refl
zeros (suc n) zero = refl
zeros (suc n) (suc b) = zeros n b

pub IsAt-none : (lengths : List ℕ) → IsAt lengths (none_done lengths)
IsAt-none lengths = record { branches = length-replicate (length lengths) 0; within = λ b. omega (arith, zeros (length lengths) b) }

pub merge : (lengths word : List ℕ) → IsMerge lengths word → Completes lengths (none_done lengths) word
merge lengths word h = λ b. omega (arith, zeros (length lengths) b, h b)

pub completes : (lengths word : List ℕ) → Completes lengths (none_done lengths) word → IsMerge lengths word
completes lengths word h = λ b. omega (arith, zeros (length lengths) b, h b)

module _ {S F : Type 0} (turn : S → ℕ → ℕ → StepOutcome S F) (rest : S → Ending F) (order : List ℕ → ℕ → Bool) (lengths : List ℕ) (state : S) where
  extends : (w : List ℕ) → IsMergeInOrder order lengths w → Extends order lengths (none_done lengths) w
  extends w k = (merge lengths w k.0, k.1)

  in_order : (w : List ℕ) → Extends order lengths (none_done lengths) w → IsMergeInOrder order lengths w
  in_order w k = (completes lengths w k.0, k.1)

  -- a whole search from its start
  pub from_start : (goal : Goal) (old new : SearchProgress F) (b : Bool) → old.done.items ≡ none_done lengths → old.word.items ≡ [] → old.best ≡ nothing_kept
      → IsExplored turn rest goal state (Extends order lengths old.done.items) old new b → IsExploredWhole turn rest goal state order lengths new b
  from_start goal old new true d w none h =
      subst (λ u. IsLeastSought turn rest goal (none_done lengths) state u (Extends order lengths (none_done lengths)) new) w
      (subst (λ x. IsLeastSought turn rest goal x state old.word.items (Extends order lengths x) new) d h)
  from_start goal old new false d w none h =
      subst (λ x. Covered turn rest goal (none_done lengths) state [] (Extends order lengths (none_done lengths)) x new.best) none
      (subst (λ u. Covered turn rest goal (none_done lengths) state u (Extends order lengths (none_done lengths)) old.best new.best) w
      (subst (λ x. Covered turn rest goal x state old.word.items (Extends order lengths x) old.best new.best) d h.covered))

  pub from_search : (goal : Goal) (depth : ℕ) (old new : SearchProgress F) (keys : List (Position S)) (b : Bool) → IsFoundOrCovered turn rest goal order lengths depth state (Extends order lengths old.done.items) old new keys b
      → IsExplored turn rest goal state (Extends order lengths old.done.items) old new b
  from_search goal depth old new keys true h = h
  from_search goal depth old new keys false h = h.covered

  -- ---- the answers of a search for a merge that is all true

  found : (new : SearchProgress F) → IsLeastSought turn rest ToEnd (none_done lengths) state [] (Extends order lengths (none_done lengths)) new → IsAnswerAmong turn rest lengths state (IsMergeInOrder order lengths) (Found new.word)
  found new l = by (ending turn rest lengths state l.letters) refl l.sought l.held
    where
      by : (e : Ending F) → ending turn rest lengths state l.letters ≡ e → IsSought ToEnd e → IsHeld 0 l.letters e new → IsAnswerAmong turn rest lengths state (IsMergeInOrder order lengths) (Found new.word)
      by AllTrue r s h =
          subst (λ w. EndsAmong turn rest lengths state (IsMergeInOrder order lengths) AllTrue w × ((v : List ℕ) → EndsAmong turn rest lengths state (IsMergeInOrder order lengths) AllTrue v → IsUpTo w v)) (sym h)
          ((in_order l.letters l.member, r), λ v k. l.least v (extends v k.0) (subst (IsSought ToEnd) (sym k.1) refl))
      by (StopsAt n why) r s h = let q : ToEnd ≡ Stopped = s in cc

  module _ (never : NeverBlocks order lengths) (best : FirstFailures F) (c : Covered turn rest ToEnd (none_done lengths) state [] (Extends order lengths (none_done lengths)) nothing_kept best) where
    none_true : (v : List ℕ) → EndsAmong turn rest lengths state (IsMergeInOrder order lengths) AllTrue v → ⊥
    none_true v k = c.none_sought v (extends v k.0) (subst (IsSought ToEnd) (sym k.1) refl)

    -- each merge is false somewhere
    some_false : best.fault ≡ None → (e : Ending F) → (w : List ℕ) → Extends order lengths (none_done lengths) w → ending turn rest lengths state w ≡ e → (n : ℕ) × (ending turn rest lengths state w ≡ StopsAt n False)
    some_false none AllTrue w k r = absurd (none_true w (in_order w k, r))
    some_false none (StopsAt n False) w k r = (n, r)
    some_false none (StopsAt n (Fault f)) w k r = absurd (c.none_faults none w k (n, f, r))

    -- some merge is
    one_false : best.fault ≡ None → best.furthest ≡ None → ⊥
    one_false none e =
        let at = IsAt-none lengths in
        let f = fill order lengths never (none_done lengths) at in
        let is = Extends-filled order lengths (none_done lengths) f.0 at f.1 in
        let s = some_false none (ending turn rest lengths state f.0) f.0 is refl in
        let z : reach best.furthest ≡ 0 = ap reach e in
        omega (arith, c.bounds f.0 s.0 is s.1, z)

    is_further : best.fault ≡ None → IsFurther turn rest (none_done lengths) state [] (Extends order lengths (none_done lengths)) None best.furthest
    is_further none = elim c.reached [ inl e ↦ absurd (one_false none e) | inr p ↦ p ]

    nothing : best.fault ≡ None → (x : FalseInterleaving) → best.furthest ≡ Some x → IsAnswerAmong turn rest lengths state (IsMergeInOrder order lengths) (Nothing x.at x.word)
    nothing none x e = (none_true, λ v k. c.none_faults none v (extends v k.0) k.1, least, λ v n k. omega (arith, c.bounds v n (extends v k.0) k.1, ap reach e))
      where
        p : IsFurther turn rest (none_done lengths) state [] (Extends order lengths (none_done lengths)) None best.furthest
        p = is_further none

        same : p.merge ≡ x
        same = let r : Some p.merge ≡ Some x = sym p.kept ∙ e in cc

        l : IsLeastFalse turn rest (none_done lengths) state [] (Extends order lengths (none_done lengths)) x
        l = subst (λ y. IsLeastFalse turn rest (none_done lengths) state [] (Extends order lengths (none_done lengths)) y) same p.least

        at : l.steps ≡ x.at
        at = omega (arith, l.place)

        least : EndsAmong turn rest lengths state (IsMergeInOrder order lengths) (StopsAt x.at False) x.word.items × ((v : List ℕ) → EndsAmong turn rest lengths state (IsMergeInOrder order lengths) (StopsAt x.at False) v → IsUpTo x.word.items v)
        least = subst (λ w. EndsAmong turn rest lengths state (IsMergeInOrder order lengths) (StopsAt x.at False) w × ((v : List ℕ) → EndsAmong turn rest lengths state (IsMergeInOrder order lengths) (StopsAt x.at False) v → IsUpTo w v)) (sym l.word)
            ((in_order l.letters l.member, l.stops ∙ ap (λ n. StopsAt n False) at), λ v k. l.least v (extends v k.0) (k.1 ∙ sym (ap (λ n. StopsAt n False) at)))

    faulted : (f : FaultedInterleaving F) → best.fault ≡ Some f → IsAnswerAmong turn rest lengths state (IsMergeInOrder order lengths) (Faulted f.word f.at f.fault)
    faulted f e =
        let l = c.first refl f e in
        let z : l.steps ≡ f.at = (let q = l.place in omega arith) in
        let r : ending turn rest lengths state l.letters ≡ StopsAt f.at (Fault f.fault) = l.faults ∙ ap (λ n. StopsAt n (Fault f.fault)) z in (
          none_true,
          subst (λ w. (FaultsAmong turn rest lengths state (IsMergeInOrder order lengths) w × ((v : List ℕ) → FaultsAmong turn rest lengths state (IsMergeInOrder order lengths) v → IsUpTo w v)) × (ending turn rest lengths state w ≡ StopsAt f.at (Fault f.fault))) (sym l.word)
              (((in_order l.letters l.member, (f.at, f.fault, r)), λ v k. l.least v (extends v k.0) k.1), r),
        )

    -- there is an answer
    kept_one : HasEnd false best
    kept_one = by best.fault refl
      where
        further : (o : Option FalseInterleaving) → (x : FalseInterleaving) → o ≡ Some x → MatchOption o ⊥ (λ x. Unit {0})
        further None x e = cc
        further (Some y) x e = tt

        by : (o : Option (FaultedInterleaving F)) → best.fault ≡ o → MatchOption o (MatchOption best.furthest ⊥ (λ x. Unit {0})) (λ f. Unit {0})
        by None e = let p = is_further e in further best.furthest p.merge p.kept
        by (Some f) e = tt

    answered : (answer : SomeAnswer F) → MatchOption best.fault (MatchOption best.furthest ⊥ (λ x. answer ≡ Nothing x.at x.word)) (λ f. answer ≡ Faulted f.word f.at f.fault) → IsAnswerAmong turn rest lengths state (IsMergeInOrder order lengths) answer
    answered answer e = by best.fault refl e
      where
        nothing_of : best.fault ≡ None → (o : Option FalseInterleaving) → best.furthest ≡ o → MatchOption o ⊥ (λ x. answer ≡ Nothing x.at x.word) → IsAnswerAmong turn rest lengths state (IsMergeInOrder order lengths) answer
        nothing_of q None r e = absurd e
        nothing_of q (Some x) r e = subst (IsAnswerAmong turn rest lengths state (IsMergeInOrder order lengths)) (sym e) (nothing q x r)

        by : (o : Option (FaultedInterleaving F)) → best.fault ≡ o → MatchOption o (MatchOption best.furthest ⊥ (λ x. answer ≡ Nothing x.at x.word)) (λ f. answer ≡ Faulted f.word f.at f.fault) → IsAnswerAmong turn rest lengths state (IsMergeInOrder order lengths) answer
        by None q e = nothing_of q best.furthest refl e
        by (Some f) q e = subst (IsAnswerAmong turn rest lengths state (IsMergeInOrder order lengths)) (sym e) (faulted f q)

  pub has_end : NeverBlocks order lengths → (new : SearchProgress F) (b : Bool) → IsExploredWhole turn rest ToEnd state order lengths new b → HasEnd b new.best
  has_end never new true h = tt
  has_end never new false h = kept_one never new.best h

  pub ended : NeverBlocks order lengths → (new : SearchProgress F) (b : Bool) (answer : SomeAnswer F) → IsExploredWhole turn rest ToEnd state order lengths new b
      → MatchBool b (answer ≡ Found new.word) (MatchOption new.best.fault (MatchOption new.best.furthest ⊥ (λ x. answer ≡ Nothing x.at x.word)) (λ f. answer ≡ Faulted f.word f.at f.fault))
      → IsAnswerAmong turn rest lengths state (IsMergeInOrder order lengths) answer
  ended never new true answer h e = subst (IsAnswerAmong turn rest lengths state (IsMergeInOrder order lengths)) (sym e) (found new h)
  ended never new false answer h e = answered never new.best h answer e

  -- ---- the answers of a search for a merge that is not

  module _ (best : FirstFailures F) (answer : EveryAnswer F) (is : MatchOption best.fault (MatchOption best.furthest (answer ≡ All) (λ x. answer ≡ Not x.word x.at False)) (λ f. answer ≡ Not f.word f.at (Fault f.fault))) where
    -- a merge that stops is all that is kept
    told : (word : List ℕ) (at : ℕ) (why : StopReason F) → Keeps at word why nothing_kept best → (w : Vec ℕ Global) × (answer ≡ Not w at why) × (w.items ≡ word)
    told word at False h = by best.furthest h.1 (subst (λ o. MatchOption o (MatchOption best.furthest (answer ≡ All) (λ x. answer ≡ Not x.word x.at False)) (λ f. answer ≡ Not f.word f.at (Fault f.fault))) h.0 is)
      where
        by : (o : Option FalseInterleaving) → MatchOption o ⊥ (λ x. (x.at ≡ at) × (x.word.items ≡ word)) → MatchOption o (answer ≡ All) (λ x. answer ≡ Not x.word x.at False) → (w : Vec ℕ Global) × (answer ≡ Not w at False) × (w.items ≡ word)
        by None k e = absurd k
        by (Some x) k e = (x.word, e ∙ ap (λ n. Not x.word n False) k.0, k.1)
    told word at (Fault fault) h = by best.fault h.1 is
      where
        by : (o : Option (FaultedInterleaving F)) → MatchOption o ⊥ (λ x. (x.at ≡ at) × (x.word.items ≡ word) × (x.fault ≡ fault))
            → MatchOption o (MatchOption best.furthest (answer ≡ All) (λ x. answer ≡ Not x.word x.at False)) (λ f. answer ≡ Not f.word f.at (Fault f.fault)) → (w : Vec ℕ Global) × (answer ≡ Not w at (Fault fault)) × (w.items ≡ word)
        by None k e = absurd k
        by (Some x) k e = (x.word, e ∙ ap (λ n. Not x.word n (Fault x.fault)) k.0 ∙ ap (λ f. Not x.word at (Fault f)) k.2, k.1)

  pub ended-every : (new : SearchProgress F) (b : Bool) (answer : EveryAnswer F) → IsExploredWhole turn rest Stopped state order lengths new b
      → MatchOption new.best.fault (MatchOption new.best.furthest (answer ≡ All) (λ x. answer ≡ Not x.word x.at False)) (λ f. answer ≡ Not f.word f.at (Fault f.fault))
      → IsEveryAnswerAmong turn rest lengths state (IsMergeInOrder order lengths) answer
  ended-every new true answer l e = by (ending turn rest lengths state l.letters) refl l.sought l.held
    where
      stops : (x : Ending F) → (x ≡ AllTrue → ⊥) → IsSought Stopped x
      stops AllTrue ne = absurd (ne refl)
      stops (StopsAt n why) ne = refl

      by : (x : Ending F) → ending turn rest lengths state l.letters ≡ x → IsSought Stopped x → IsHeld 0 l.letters x new → IsEveryAnswerAmong turn rest lengths state (IsMergeInOrder order lengths) answer
      by AllTrue r s h = let q : Stopped ≡ ToEnd = s in cc
      by (StopsAt n why) r s h =
          let place : 0 + n ≡ n = omega arith in
          let t = told new.best answer e l.letters n why (subst (λ m. Keeps m l.letters why nothing_kept new.best) place h) in
          subst (IsEveryAnswerAmong turn rest lengths state (IsMergeInOrder order lengths)) (sym t.1)
          (subst (λ u. (FailsToBeTrueAmong turn rest lengths state (IsMergeInOrder order lengths) u × ((v : List ℕ) → FailsToBeTrueAmong turn rest lengths state (IsMergeInOrder order lengths) v → IsUpTo u v)) × (ending turn rest lengths state u ≡ StopsAt n why)) (sym t.2)
          (((in_order l.letters l.member, (λ k. (let q : StopsAt n why ≡ AllTrue = sym r ∙ k in cc))), λ v p. l.least v (extends v p.0) (stops (ending turn rest lengths state v) p.1)), r))
  ended-every new false answer c e =
      subst (IsEveryAnswerAmong turn rest lengths state (IsMergeInOrder order lengths)) (sym all)
      (λ v p. true_one (ending turn rest lengths state v) (c.none_sought v (extends v p)))
    where
      fresh : new.best ≡ nothing_kept
      fresh = still-fresh turn rest Stopped (none_done lengths) state [] (Extends order lengths (none_done lengths)) nothing_kept new.best c (λ _. refl) refl

      all : answer ≡ All
      all = subst (λ (b : FirstFailures F). MatchOption b.fault (MatchOption b.furthest (answer ≡ All) (λ x. answer ≡ Not x.word x.at False)) (λ f. answer ≡ Not f.word f.at (Fault f.fault))) fresh e

      true_one : (x : Ending F) → (IsSought Stopped x → ⊥) → x ≡ AllTrue
      true_one AllTrue other = refl
      true_one (StopsAt n why) other = absurd (other refl)
