use Rattle.std.proofs.Common.{◌≡◌, drop, Some}
use Rattle.pst_sexpr.specs.declared.form.Form.{Form}
use Rattle.pst_sexpr.specs.Parts.{tree_in}
use Rattle.pst_sources.specs.Paths.{IsWithin, HasTree}
use Rattle.pst_sources.proofs.Found.{IsOnWay}
use Rattle.pst_sources.proofs.scan.deepest_span_on_path_in_tree.Given as goal

abbrev pub invariant-loop-number : goal.invariant-loop-number
invariant-loop-number l = record {
  within : IsWithin l.input l.fn.tree → IsWithin l.input l.found;
  leads : (whole : Form) (last : Form) → HasTree l.input l.fn.tree whole → tree_in l.path whole ≡ Some last
      → IsOnWay l.input l.found (drop l.number-index l.path) last;
}
