use Rattle.pst_gen.proofs.Places.{places}
use Rattle.pst_gen.proofs.laws.split_numbers_are_places.Goals as goal

pub returns : goal.returns
returns c = places
