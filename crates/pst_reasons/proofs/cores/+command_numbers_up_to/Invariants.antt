use Rattle.pst_reasons.proofs.cores.+command_numbers_up_to.Given as goal

abbrev pub decreases-command_numbers_up_to : goal.decreases-command_numbers_up_to
decreases-command_numbers_up_to l = l.last
