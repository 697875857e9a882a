use Rattle.std.proofs.Common.{◌≡◌, ◌+◌, [], take, drop, reverse}
use Rattle.pst_typing.specs.Items.{first_ill}
use Rattle.pst_typing.proofs.items.first_ill_typed_item_number.Given as goal

abbrev pub invariant-loop-at : goal.invariant-loop-at
invariant-loop-at l = first_ill l.items l.state (l.at + 1) (reverse (take l.at l.items)) (drop l.at l.items) ≡ first_ill l.items l.state 1 [] l.items
