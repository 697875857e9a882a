use Rattle.std.proofs.Common.{◌≡◌, map, take}
use Rattle.pst_runs.specs.Written.{branch_form}
use Rattle.pst_runs.proofs.write.items.branch_forms.Given as goal

abbrev pub invariant-loop-branch : goal.invariant-loop-branch
invariant-loop-branch l = l.forms ≡ map (branch_form l.model) (take l.branch-index l.branches)
