use Rattle.pst_syntax.proofs.Complete.{model_has}
use Rattle.pst_syntax.proofs.laws.model_item_counts_are_lawful.Goals as goal

pub returns : goal.returns
returns c = model_has
