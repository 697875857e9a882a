use Rattle.std.proofs.Common.{length}
use Rattle.pst_sexpr.proofs.form.+tree_in.Given as goal

abbrev pub decreases-tree_in : goal.decreases-tree_in
decreases-tree_in l = length l.path.now
