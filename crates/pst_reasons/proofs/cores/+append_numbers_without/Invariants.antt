use Rattle.std.proofs.Common.{length}
use Rattle.pst_reasons.proofs.cores.+append_numbers_without.Given as goal

abbrev pub decreases-append_numbers_without : goal.decreases-append_numbers_without
decreases-append_numbers_without l = length l.numbers.now
