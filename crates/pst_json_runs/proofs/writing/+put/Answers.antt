use Rattle.std.proofs.Common.{rules}
use Rattle.std.proofs.lemmas.Result.{on_ok_weaker}
use Rattle.pst_json_runs.proofs.ValueLevels.{levels}
use Rattle.pst_json_runs.proofs.Wrote.{wrote_array, wrote_object}
use Rattle.pst_json_runs.proofs.writing.+put.Goals as goal

pub write_json_value-returns-in_ok-begin_object-in-Map-clause-ok : goal.write_json_value-returns-in_ok-begin_object-in-Map-clause-ok
write_json_value-returns-in_ok-begin_object-in-Map-clause-ok t c =
    on_ok_weaker c.write_json_map_members_and_end.result (wrote_object _ _ _ _ _ c.in_ok-begin_object-in-Map.ensures.ok (search (rules, levels))) c.write_json_map_members_and_end.ensures.ok

pub write_json_value-returns-in_ok-begin_array-in-Tuple-clause-ok : goal.write_json_value-returns-in_ok-begin_array-in-Tuple-clause-ok
write_json_value-returns-in_ok-begin_array-in-Tuple-clause-ok t c =
    on_ok_weaker c.write_json_values_and_end.result (wrote_array _ _ _ _ _ c.in_ok-begin_array-in-Tuple.ensures.ok (search (rules, levels))) c.write_json_values_and_end.ensures.ok
