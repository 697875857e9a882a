-- Runs that nothing follows.
use Rattle.std.proofs.Common.{◌≡◌, ℕ, List, [], ◌∷◌, get_or, refl, ap, ◌∙◌}
use Rattle.pst_grid.specs.Laws.{run_alone, EventsAreTrue, RunsAlone, IsTrueByEvents}
use Rattle.pst_grid.specs.Merges.{run, after, later, one_more, nothing_follows}
use Rattle.pst_grid.specs.declared.steps.Ending.{Ending}
use Rattle.pst_grid.specs.declared.steps.Ending.TheVariants.{AllTrue}
use Rattle.pst_grid.specs.declared.steps.StepOutcome.{StepOutcome}
use Rattle.pst_grid.specs.declared.steps.StepOutcome.TheVariants.{Next, Stop}
use Rattle.pst_grid.proofs.Covering.{later-AllTrue}

module _ {S F : Type 0} where
  -- what follows a step is known where it is known of each next state
  after-same : (t : StepOutcome S F) (f g : S → Ending F) → ((s : S) → f s ≡ g s) → after t f ≡ after t g
  after-same (Next s) f g h = ap later (h s)
  after-same (Stop why) f g h = refl

  module _ (turn : S → ℕ → ℕ → StepOutcome S F) (rest : S → Ending F) (nothing : (s : S) → rest s ≡ nothing_follows s) where
    alone : (done : List ℕ) (s : S) (word : List ℕ) → run turn rest done s word ≡ run_alone turn done s word
    alone done s [] = nothing s
    alone done s (b ∷ w) = after-same (turn s b (get_or done b 0)) _ _ (λ next. alone (one_more done b) next w)

    true-events : (done : List ℕ) (s : S) (word : List ℕ) → run turn rest done s word ≡ AllTrue → EventsAreTrue turn done s word
    true-events done s [] h = tt
    true-events done s (b ∷ w) h =
        by (turn s b (get_or done b 0)) refl h (λ next k. true-events (one_more done b) next w k)
      where
        by : (t : StepOutcome S F) → turn s b (get_or done b 0) ≡ t → after t (λ next. run turn rest (one_more done b) next w) ≡ AllTrue
            → ((next : S) → run turn rest (one_more done b) next w ≡ AllTrue → EventsAreTrue turn (one_more done b) next w)
            → (next : S) × (turn s b (get_or done b 0) ≡ Next next) × EventsAreTrue turn (one_more done b) next w
        by (Next next) e k again = (next, e, again next (later-AllTrue _ k))
        by (Stop why) e k again = cc

    events-true : (done : List ℕ) (s : S) (word : List ℕ) → EventsAreTrue turn done s word → run turn rest done s word ≡ AllTrue
    events-true done s [] h = nothing s
    events-true done s (b ∷ w) h =
        ap (λ t. after t (λ next. run turn rest (one_more done b) next w)) h.1
        ∙ ap later (events-true (one_more done b) h.0 w h.2)

  pub runs-alone : (turn : S → ℕ → ℕ → StepOutcome S F) (rest : S → Ending F) → RunsAlone turn rest
  runs-alone turn rest = alone turn rest

  pub true-by-events : (turn : S → ℕ → ℕ → StepOutcome S F) (rest : S → Ending F) → IsTrueByEvents turn rest
  true-by-events turn rest nothing done s word = (true-events turn rest nothing done s word, events-true turn rest nothing done s word)
