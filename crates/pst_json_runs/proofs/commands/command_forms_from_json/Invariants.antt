use Rattle.std.proofs.Common.{◌≡◌, ◌++◌, drop}
use Rattle.json.specs.Value.{items_view}
use Rattle.pst_json_runs.specs.Trees.{command_forms}
use Rattle.pst_json_runs.proofs.commands.command_forms_from_json.Given as goal

abbrev pub invariant-loop-command : goal.invariant-loop-command
invariant-loop-command l =
    command_forms l.model (items_view l.commands) ≡ l.forms ++ command_forms l.model (items_view (drop l.command-index l.commands))
