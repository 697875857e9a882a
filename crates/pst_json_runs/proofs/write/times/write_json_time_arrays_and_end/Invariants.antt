use Rattle.std.proofs.Common.{◌≡◌, ◌++◌, drop, map}
use Rattle.json.specs.Tree.{items_tokens}
use Rattle.json.specs.Value.{items_of}
use Rattle.pst_json_runs.specs.Written.{times_json}
use Rattle.pst_json_runs.proofs.write.times.write_json_time_arrays_and_end.Given as goal

abbrev pub invariant-loop-times : goal.invariant-loop-times
invariant-loop-times l =
    (l.writer.tokens ++ items_tokens (items_of (map times_json (drop l.times-index l.branches))) ≡ l.initial.writer.tokens ++ items_tokens (items_of (map times_json l.branches)))
    × (l.writer.before ≡ l.initial.writer.before)
