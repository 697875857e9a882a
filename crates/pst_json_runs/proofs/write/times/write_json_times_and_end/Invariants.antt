use Rattle.std.proofs.Common.{◌≡◌, ◌++◌, drop, map}
use Rattle.json.specs.Tree.{items_tokens}
use Rattle.json.specs.Value.{items_of}
use Rattle.pst_json_runs.specs.Written.{time_json}
use Rattle.pst_json_runs.proofs.write.times.write_json_times_and_end.Given as goal

abbrev pub invariant-loop-time : goal.invariant-loop-time
invariant-loop-time l =
    (l.writer.tokens ++ items_tokens (items_of (map time_json (drop l.time-index l.times))) ≡ l.initial.writer.tokens ++ items_tokens (items_of (map time_json l.times)))
    × (l.writer.before ≡ l.initial.writer.before)
