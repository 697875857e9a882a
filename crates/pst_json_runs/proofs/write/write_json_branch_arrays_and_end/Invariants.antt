use Rattle.std.proofs.Common.{◌≡◌, ◌++◌, drop, map}
use Rattle.json.specs.Tree.{items_tokens}
use Rattle.json.specs.Value.{items_of}
use Rattle.pst_json_runs.specs.Written.{part_json}
use Rattle.pst_json_runs.proofs.write.write_json_branch_arrays_and_end.Given as goal

abbrev pub invariant-loop-branch : goal.invariant-loop-branch
invariant-loop-branch l =
    (l.writer.tokens ++ items_tokens (items_of (map (part_json l.model) (drop l.branch-index l.branches))) ≡ l.initial.writer.tokens ++ items_tokens (items_of (map (part_json l.model) l.branches)))
    × (l.writer.before ≡ l.initial.writer.before)
