use Rattle.std.proofs.Common.{◌≡◌, ◌+◌, ◌++◌, drop}
use Rattle.pst_cli.specs.JsonOutput.{shown_objects}
use Rattle.pst_cli.proofs.objects.shown_item_json_objects.Given as goal

abbrev pub invariant-loop-index : goal.invariant-loop-index
invariant-loop-index l =
    shown_objects l.shown 1 l.answers ≡ l.text.items ++ shown_objects l.shown (l.index + 1) (drop l.index l.answers)
