use Rattle.std.proofs.Common.{◌≡◌, ◌-◌, List, Some, slice_get}
use Rattle.pst_sexpr.specs.declared.form.Form.{Form}
use Rattle.pst_sources.specs.Scanning.{HasTreesFrom}
use Rattle.pst_sources.proofs.Found.{IsAhead}
use Rattle.pst_sources.proofs.scan.span_of_tree_after_count.Given as goal

abbrev pub invariant-loop : goal.invariant-loop
invariant-loop l =
    (trees : List Form) (tree : Form) → HasTreesFrom l.input l.from trees → slice_get trees l.count
    ≡ Some tree
    → IsAhead l.input l.at (l.count - l.counter) tree
