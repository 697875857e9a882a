use Rattle.pst_judge.proofs.unknown_calls.+append_empty_columns.Given as goal

abbrev pub decreases-append_empty_columns : goal.decreases-append_empty_columns
decreases-append_empty_columns l = l.count
