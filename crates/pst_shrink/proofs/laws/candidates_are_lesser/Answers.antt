use Rattle.pst_shrink.proofs.Lesser.{lesser}
use Rattle.pst_shrink.proofs.laws.candidates_are_lesser.Goals as goal

pub returns : goal.returns
returns c = lesser
