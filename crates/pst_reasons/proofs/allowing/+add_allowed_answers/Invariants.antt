use Rattle.pst_reasons.proofs.allowing.+add_allowed_answers.Given as goal

abbrev pub decreases-add_allowed_answers : goal.decreases-add_allowed_answers
decreases-add_allowed_answers g l = l.left
