use Rattle.std.proofs.Common.{◌≡◌, ◌+◌, ◌++◌, drop}
use Rattle.pst_cli.specs.RunOutput.{items_in, worst_of_items}
use Rattle.pst_cli.proofs.item_output.output_of_items.Given as goal

abbrev pub invariant-loop-index : goal.invariant-loop-index
invariant-loop-index l = record {
  text : items_in l.form l.typed 1 l.items ≡ l.text.items ++ items_in l.form l.typed (l.index + 1) (drop l.index l.items);
  status : worst_of_items l.initial.status l.items ≡ worst_of_items l.status (drop l.index l.items);
}
