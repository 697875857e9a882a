use Rattle.std.proofs.Common.{◌≡◌, ◌++◌, drop}
use Rattle.json.specs.Value.{items_view}
use Rattle.pst_json_runs.specs.Trees.{reply_forms}
use Rattle.pst_json_runs.proofs.replies.reply_forms_from_json.Given as goal

abbrev pub invariant-loop-reply : goal.invariant-loop-reply
invariant-loop-reply l =
    reply_forms l.model (items_view l.initial.rest) (items_view l.replies) ≡ l.forms ++ reply_forms l.model (items_view l.rest) (items_view (drop l.reply-index l.replies))
