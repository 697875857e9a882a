use Rattle.pst_judge.proofs.code.+encode_number.Given as goal

abbrev pub decreases-encode_number : goal.decreases-encode_number
decreases-encode_number l = l.number
