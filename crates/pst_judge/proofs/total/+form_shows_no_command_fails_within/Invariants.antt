use Rattle.pst_judge.proofs.total.+form_shows_no_command_fails_within.Given as goal

abbrev pub decreases-form_shows_no_command_fails_within : goal.decreases-form_shows_no_command_fails_within
decreases-form_shows_no_command_fails_within l = l.steps
