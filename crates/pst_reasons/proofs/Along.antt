-- The event of a letter, from the branch and the place in it.
use Rattle.std.proofs.Common.{◌≡◌, ℕ, List, Some, ap, ◌∙◌}
use Rattle.std.specs.Prelude.{slice_get}
use Rattle.pst_judge.specs.Replay.{event_at, event_in}
use Rattle.pst_judge.specs.declared.events.Event.{Event}

pub the_command : (branches : List (List Event)) (b i : ℕ) (es : List Event) (e : Event) → slice_get branches b ≡ Some es → slice_get es i ≡ Some e → event_at branches b i ≡ Some e
the_command branches b i es e is one = ap (λ o. event_in o i) is ∙ one
