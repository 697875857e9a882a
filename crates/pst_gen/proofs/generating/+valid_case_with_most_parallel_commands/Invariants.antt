use Rattle.pst_gen.proofs.generating.+valid_case_with_most_parallel_commands.Given as goal

abbrev pub decreases-valid_case_with_most_parallel_commands : goal.decreases-valid_case_with_most_parallel_commands
decreases-valid_case_with_most_parallel_commands g l = l.parallel
