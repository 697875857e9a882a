use Rattle.pst_gen.proofs.NoSuffix.{no-suffix}
use Rattle.pst_gen.proofs.laws.empty_suffix_stays_empty.Goals as goal

pub returns : goal.returns
returns c = no-suffix
