use Rattle.pst_sources.proofs.Places.{begins}
use Rattle.pst_sources.proofs.laws.files_start_in_joined_text.Goals as goal

pub returns : goal.returns
returns c = begins
