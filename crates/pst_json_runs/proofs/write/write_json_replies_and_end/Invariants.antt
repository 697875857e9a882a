use Rattle.std.proofs.Common.{◌≡◌, ◌++◌, drop, map}
use Rattle.json.specs.Tree.{items_tokens}
use Rattle.json.specs.Value.{items_of}
use Rattle.pst_json_runs.specs.Written.{reply_json}
use Rattle.pst_json_runs.proofs.write.write_json_replies_and_end.Given as goal

abbrev pub invariant-loop-reply : goal.invariant-loop-reply
invariant-loop-reply l =
    (l.writer.tokens ++ items_tokens (items_of (map reply_json (drop l.reply-index l.replies))) ≡ l.initial.writer.tokens ++ items_tokens (items_of (map reply_json l.replies)))
    × (l.writer.before ≡ l.initial.writer.before)
