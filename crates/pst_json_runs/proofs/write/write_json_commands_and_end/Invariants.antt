use Rattle.std.proofs.Common.{◌≡◌, ◌++◌, drop, map}
use Rattle.json.specs.Tree.{items_tokens}
use Rattle.json.specs.Value.{items_of}
use Rattle.pst_json_runs.specs.Written.{command_json}
use Rattle.pst_json_runs.proofs.write.write_json_commands_and_end.Given as goal

abbrev pub invariant-loop-command : goal.invariant-loop-command
invariant-loop-command l =
    (l.writer.tokens ++ items_tokens (items_of (map (command_json l.model) (drop l.command-index l.commands))) ≡ l.initial.writer.tokens ++ items_tokens (items_of (map (command_json l.model) l.commands)))
    × (l.writer.before ≡ l.initial.writer.before)
