-- Where less is asked of events, more merges are true to their end.
use Rattle.std.proofs.Common.{◌≡◌, ℕ, Bool, true, false, List, [], ◌∷◌, Option, Some, None, refl, ap, ◌∙◌, get_or}
use Rattle.pst_case.specs.declared.case.Case.{Case}
use Rattle.pst_case.specs.declared.history.History.{History}
use Rattle.pst_eval.specs.Callbacks.{init_of, next_of}
use Rattle.pst_eval.specs.declared.callbacks.FaultPlace.{FaultPlace}
use Rattle.pst_grid.specs.Merges.{after, later, run, none_done, one_more}
use Rattle.pst_grid.specs.declared.steps.Ending.{Ending}
use Rattle.pst_grid.specs.declared.steps.Ending.TheVariants.{AllTrue, StopsAt}
use Rattle.pst_grid.specs.declared.steps.StepOutcome.{StepOutcome}
use Rattle.pst_grid.specs.declared.steps.StepOutcome.TheVariants.{Next, Stop}
use Rattle.pst_judge.specs.Replay.{Asking, outcome_asking, run_asking, outcome_of_asking, branch_outcome_asking, event_at, from_opening, judged, moved, where_true, replayed_asking, prefix_events, branch_events, suffix_events, suffix_ending_asking, branch_lengths}
use Rattle.pst_judge.specs.declared.events.Event.{Event}
use Rattle.pst_model.specs.declared.model.Source.{Source}
use Rattle.pst_operators.specs.Operators.{truth_of}
use Rattle.pst_operators.specs.Outcome.{Outcome, Gives, Faults, Stuck}
use Rattle.pst_value.specs.declared.value.Value.{Value}

-- what is asked is true
abbrev pub SaysTrue : Outcome (Value × ℕ) → Type 0
SaysTrue o = (p : Value × ℕ) × (o ≡ Gives p) × (truth_of p.0 ≡ Gives true)

abbrev pub EachEvent : (Event → Type 0) → List Event → Type 0
EachEvent P [] = Unit {0}
EachEvent P (e ∷ es) = P e × EachEvent P es

abbrev pub EachOfBranches : (Event → Type 0) → List (List Event) → Type 0
EachOfBranches P ess = (b i : ℕ) (e : Event) → event_at ess b i ≡ Some e → P e

where_next : (rest : StepOutcome Value FaultPlace) (p : Value × ℕ) (s : Value) (t : Outcome Bool) → truth_of p.0 ≡ t → where_true rest t ≡ Next s → SaysTrue (Gives p) × (rest ≡ Next s)
where_next rest p s (Gives true) is h = ((p, refl, is), h)
where_next rest p s (Gives false) is h = absurd (cc)
where_next rest p s (Faults k) is h = absurd (cc)
where_next rest p s Stuck is h = absurd (cc)

judged_next : (n : ℕ) (o : Outcome (Value × ℕ)) (rest : StepOutcome Value FaultPlace) (s : Value) → judged n o rest ≡ Next s → SaysTrue o × (rest ≡ Next s)
judged_next n (Gives p) rest s h = where_next rest p s (truth_of p.0) refl h
judged_next n (Faults k) rest s h = absurd (cc)
judged_next n Stuck rest s h = absurd (cc)

judged_true : (n : ℕ) (o : Outcome (Value × ℕ)) (rest : StepOutcome Value FaultPlace) → SaysTrue o → judged n o rest ≡ rest
judged_true n o rest k = ap (λ x. judged n x rest) k.1 ∙ ap (where_true rest) k.2

later_true : {F : Type 0} (e : Ending F) → later e ≡ AllTrue → e ≡ AllTrue
later_true AllTrue h = refl
later_true (StopsAt n why) h = absurd (cc)

after_true : (t u : StepOutcome Value FaultPlace) (k l : Value → Ending FaultPlace) → after t k ≡ AllTrue → ((next : Value) → t ≡ Next next → u ≡ Next next) → ((next : Value) → k next ≡ AllTrue → l next ≡ AllTrue) → after u l ≡ AllTrue
after_true (Next next) u k l h turn rest = ap (λ x. after x l) (turn next refl) ∙ ap later (rest next (later_true (k next) h))
after_true (Stop why) u k l h turn rest = absurd (cc)

opening_true : (o : Outcome (Value × ℕ)) (k l : Value → Ending FaultPlace) → ((s : Value) → k s ≡ AllTrue → l s ≡ AllTrue) → from_opening o k ≡ AllTrue → from_opening o l ≡ AllTrue
opening_true (Gives p) k l rest h = rest p.0 h
opening_true (Faults f) k l rest h = absurd (cc)
opening_true Stuck k l rest h = absurd (cc)

module _ (m : Source) (a b : Asking) (P : Event → Type 0) (less : (s : Value) (e : Event) → P e → SaysTrue (a s e) → SaysTrue (b s e)) where
  turn_true : (s : Value) (e : Event) (next : Value) → P e → outcome_asking m a s e ≡ Next next → outcome_asking m b s e ≡ Next next
  turn_true s e next p h =
      let q = judged_next e.number (a s e) (moved e.number (next_of m e.op s e.args e.reference)) next h in
      judged_true e.number (b s e) (moved e.number (next_of m e.op s e.args e.reference)) (less s e p q.0) ∙ q.1

  events_true : (es : List Event) → EachEvent P es → (k l : Value → Ending FaultPlace) → ((s : Value) → k s ≡ AllTrue → l s ≡ AllTrue) → (s : Value) → run_asking m a es s k ≡ AllTrue → run_asking m b es s l ≡ AllTrue
  events_true [] each k l rest s h = rest s h
  events_true (e ∷ es) each k l rest s h =
      after_true (outcome_asking m a s e) (outcome_asking m b s e) (λ next. run_asking m a es next k) (λ next. run_asking m b es next l) h
      (λ next q. turn_true s e next each.0 q) (λ next q. events_true es each.1 k l rest next q)

  any_true : (o : Option Event) → ((e : Event) → o ≡ Some e → P e) → (s next : Value) → outcome_of_asking m a s o ≡ Next next → outcome_of_asking m b s o ≡ Next next
  any_true None each s next h = absurd (cc)
  any_true (Some e) each s next h = turn_true s e next (each e refl) h

  word_true : (ess : List (List Event)) → EachOfBranches P ess → (k l : Value → Ending FaultPlace) → ((s : Value) → k s ≡ AllTrue → l s ≡ AllTrue) → (done : List ℕ) (s : Value) (w : List ℕ)
      → run (branch_outcome_asking m a ess) k done s w ≡ AllTrue → run (branch_outcome_asking m b ess) l done s w ≡ AllTrue
  word_true ess each k l rest done s [] h = rest s h
  word_true ess each k l rest done s (c ∷ w) h =
      after_true (branch_outcome_asking m a ess s c (get_or done c 0)) (branch_outcome_asking m b ess s c (get_or done c 0)) (λ next. run (branch_outcome_asking m a ess) k (one_more done c) next w) (λ next. run (branch_outcome_asking m b ess) l (one_more done c) next w) h
      (λ next q. any_true (event_at ess c (get_or done c 0)) (λ e is. each c (get_or done c 0) e is) s next q) (λ next q. word_true ess each k l rest (one_more done c) next w q)

  module _ (c : Case) (h : History) (prefix : EachEvent P (prefix_events c h)) (branches : EachOfBranches P (branch_events c h)) (suffix : EachEvent P (suffix_events c h)) where
    suffix_true : (s : Value) → suffix_ending_asking m a c h s ≡ AllTrue → suffix_ending_asking m b c h s ≡ AllTrue
    suffix_true s k = events_true (suffix_events c h) suffix (λ last. AllTrue) (λ last. AllTrue) (λ last q. q) s k

    pub replayed_true : (w : List ℕ) → replayed_asking m a c h w ≡ AllTrue → replayed_asking m b c h w ≡ AllTrue
    unfolding replayed_asking
    replayed_true w k =
        opening_true (init_of m) _ _
        (λ s q. events_true (prefix_events c h) prefix _ _ (λ t r. word_true (branch_events c h) branches (suffix_ending_asking m a c h) (suffix_ending_asking m b c h) suffix_true (none_done (branch_lengths c)) t w r) s q) k
