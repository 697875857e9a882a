use Rattle.std.proofs.Common.{◌≡◌, map, take}
use Rattle.pst_runs.specs.Written.{list_form}
use Rattle.pst_runs.proofs.write.items.reply_list_forms.Given as goal

abbrev pub invariant-loop-branch : goal.invariant-loop-branch
invariant-loop-branch l = l.forms ≡ map list_form (take l.branch-index l.branches)
