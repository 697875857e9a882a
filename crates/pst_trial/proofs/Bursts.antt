-- The run of a burst that counts, one history after another.
use Rattle.std.proofs.Common.{◌≡◌, Bool, true, false, All, IfSome, MatchOption, Option, Some, None, List, [], ◌∷◌, ◌++◌, ap, sym}
use Rattle.std.proofs.lemmas.List.Elements.{All-nil, All-cons, All-head, All-tail}
use Rattle.pst_case.specs.declared.case.Case.{Case}
use Rattle.pst_case.specs.declared.history.History.{History}
use Rattle.pst_judge.specs.ByOrder.{IsVerdictBy}
use Rattle.pst_judge.specs.declared.by_order.CallOrder.{CallOrder}
use Rattle.pst_model.specs.declared.model.Source.{Source}
use Rattle.pst_trial.specs.Bursts.{IsExplainedHistory, IsRunOfBurst}
use Rattle.pst_trial.specs.JudgedRuns.{is_explained}
use Rattle.pst_trial.specs.declared.record.JudgedRun.{JudgedRun}

never : {A : Type 0} (b : Bool) → b ≡ false → b ≡ true → A
never b e f = absurd (cc)

module _ (m : Source) (order : CallOrder) (c : Case) (first : History) (r : JudgedRun) (same : r.history ≡ first) where
  -- a history that is not explained ends the burst
  pub ends_burst : (rest : List History) → is_explained r.verdict ≡ false → IsRunOfBurst m order c (first ∷ rest) r
  ends_burst rest e = record {
    before = [];
    after = rest;
    place = ap (λ h. h ∷ rest) (sym same);
    earlier = All-nil (IsExplainedHistory m order c);
    ends = λ yes. never _ e yes;
  }

  -- the last history does
  pub last_of_burst : (rest : List History) → rest ≡ [] → IsRunOfBurst m order c (first ∷ rest) r
  last_of_burst rest none = record {
    before = [];
    after = rest;
    place = ap (λ h. h ∷ rest) (sym same);
    earlier = All-nil (IsExplainedHistory m order c);
    ends = λ yes. none;
  }

  -- an explained one before the others leaves open which of these counts
  pub later_in_burst : (rest : List History) (s : JudgedRun) → IsVerdictBy order m c r.history r.verdict
      → is_explained r.verdict ≡ true → IsRunOfBurst m order c rest s → IsRunOfBurst m order c (first ∷ rest) s
  later_in_burst rest s judged e b =
      let here : IsExplainedHistory m order c first = record { verdict = r.verdict; judged = rw same at judged; explained = e } in
      record {
        before = first ∷ b.before;
        after = b.after;
        place = ap (λ hs. first ∷ hs) b.place;
        earlier = All-cons (IsExplainedHistory m order c) first b.before here b.earlier;
        ends = b.ends;
      }

-- ---- the first and the others

module _ {X : Type 0} (P : X → Type 0) (xs : List X) (all : All P xs) where
  split_all : (x : X) (rest : List X) → xs ≡ x ∷ rest → P x × All P rest
  split_all x rest e = let both : All P (x ∷ rest) = rw e at all in (All-head P x rest both, All-tail P x rest both)

  pub first_of : {R : Type 0} (r : Option R) (head : R → X) (tail : R → List X)
      → MatchOption r (xs ≡ []) (λ p. xs ≡ head p ∷ tail p) → IfSome r (λ p. P (head p))
  first_of None head tail h = tt
  first_of (Some p) head tail h = (split_all (head p) (tail p) h).0

  pub rest_of : {R : Type 0} (r : Option R) (head : R → X) (tail : R → List X)
      → MatchOption r (xs ≡ []) (λ p. xs ≡ head p ∷ tail p) → IfSome r (λ p. All P (tail p))
  rest_of None head tail h = tt
  rest_of (Some p) head tail h = (split_all (head p) (tail p) h).1
