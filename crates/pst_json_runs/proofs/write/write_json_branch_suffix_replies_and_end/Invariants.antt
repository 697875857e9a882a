use Rattle.std.proofs.Common.{◌≡◌, ◌++◌, drop, map}
use Rattle.json.specs.Tree.{items_tokens}
use Rattle.json.specs.Value.{items_of}
use Rattle.pst_json_runs.specs.Written.{list_json, suffix_lists}
use Rattle.pst_json_runs.proofs.write.write_json_branch_suffix_replies_and_end.Given as goal

abbrev pub invariant-loop-branch : goal.invariant-loop-branch
invariant-loop-branch l =
    (l.writer.tokens ++ items_tokens (items_of (map list_json (drop l.branch-index l.branches) ++ suffix_lists l.suffix)) ≡ l.initial.writer.tokens ++ items_tokens (items_of (map list_json l.branches ++ suffix_lists l.suffix)))
    × (l.writer.before ≡ l.initial.writer.before)
