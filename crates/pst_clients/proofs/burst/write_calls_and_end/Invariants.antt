use Rattle.std.proofs.Common.{◌≡◌, ◌++◌, drop, map}
use Rattle.json.specs.Tree.{items_tokens}
use Rattle.json.specs.Value.{items_of}
use Rattle.pst_clients.specs.Calling.{call_json}
use Rattle.pst_clients.proofs.burst.write_calls_and_end.Given as goal

abbrev pub invariant-loop-call : goal.invariant-loop-call
invariant-loop-call l =
    (l.writer.tokens ++ items_tokens (items_of (map call_json (drop l.call-index l.calls))) ≡ l.initial.writer.tokens ++ items_tokens (items_of (map call_json l.calls)))
    × (l.writer.before ≡ l.initial.writer.before)
