use Rattle.pst_gen.proofs.script.+extend_script_randomly.Given as goal

abbrev pub decreases-extend_script_randomly : goal.decreases-extend_script_randomly
decreases-extend_script_randomly g l = l.more
