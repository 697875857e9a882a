use Rattle.std.proofs.Common.{◌≡◌, ◌++◌, drop, map}
use Rattle.json.specs.Tree.{items_tokens, members_tokens}
use Rattle.json.specs.Value.{items_of}
use Rattle.pst_json_runs.specs.Writing.{json_of, members_of}
use Rattle.pst_json_runs.proofs.writing.+put.Given as goal

abbrev pub invariant-write_json_values_and_end-loop-part : goal.invariant-write_json_values_and_end-loop-part
invariant-write_json_values_and_end-loop-part l =
    (l.writer.tokens ++ items_tokens (items_of (map json_of (drop l.part-index l.parts))) ≡ l.initial.writer.tokens ++ items_tokens (items_of (map json_of l.parts)))
    × (l.writer.before ≡ l.initial.writer.before)

abbrev pub invariant-write_json_map_members_and_end-loop-value : goal.invariant-write_json_map_members_and_end-loop-value
invariant-write_json_map_members_and_end-loop-value l =
    (l.writer.tokens ++ members_tokens (members_of l.rest (map json_of (drop l.value-index l.values))) ≡ l.initial.writer.tokens ++ members_tokens (members_of l.initial.rest (map json_of l.values)))
    × (l.writer.before ≡ l.initial.writer.before)
