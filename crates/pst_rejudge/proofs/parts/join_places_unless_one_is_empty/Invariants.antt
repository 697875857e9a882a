use Rattle.std.proofs.Common.{◌≡◌, All}
use Rattle.std.specs.Option.{IsSome}
use Rattle.std.specs.List.{flat_map}
use Rattle.pst_rejudge.specs.Parts.{joined}
use Rattle.pst_rejudge.specs.Places.{runs_in, answers_in}
use Rattle.pst_rejudge.proofs.parts.join_places_unless_one_is_empty.Given as goal

abbrev pub invariant-loop-place : goal.invariant-loop-place
invariant-loop-place l =
    All IsSome l.yielded × (joined l.runs.items ≡ flat_map runs_in l.yielded) × (l.answers.items ≡ flat_map answers_in l.yielded)
