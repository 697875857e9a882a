use Rattle.std.proofs.Common.{◌≡◌, ◌+◌, ◌*◌, drop}
use Rattle.std.specs.List.{list_all}
use Rattle.pst_json_runs.specs.Spelled.{spelled_in}
use Rattle.pst_json_runs.proofs.spelled.+spelled.Given as goal

abbrev pub decreases-has_spelling_within_levels : goal.decreases-has_spelling_within_levels
decreases-has_spelling_within_levels l = 2 * l.room

abbrev pub decreases-all_have_spelling_within_levels : goal.decreases-all_have_spelling_within_levels
decreases-all_have_spelling_within_levels l = 2 * l.room + 1

abbrev pub invariant-all_have_spelling_within_levels-loop-form : goal.invariant-all_have_spelling_within_levels-loop-form
invariant-all_have_spelling_within_levels-loop-form l = list_all (spelled_in l.room) l.forms ≡ list_all (spelled_in l.room) (drop l.form-index l.forms)
