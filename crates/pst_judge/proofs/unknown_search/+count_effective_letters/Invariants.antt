use Rattle.std.proofs.Common.{length}
use Rattle.pst_judge.proofs.unknown_search.+count_effective_letters.Given as goal

abbrev pub decreases-count_effective_letters : goal.decreases-count_effective_letters
decreases-count_effective_letters l = length l.word.now
